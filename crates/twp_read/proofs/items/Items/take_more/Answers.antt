-- The vector's last item is the newest of the items.
use Rattle.std.proofs.Common.{◌∷◌, ◌-◌, List, reverse, subst, rules}
use Rattle.std.proofs.Math.ListN.{set}
use Rattle.twp_grammar.specs.declared.item.Item.{Item}
use Rattle.twp_read.specs.steps.Usual.{Leads}
use Rattle.twp_read.proofs.NewestItem.{leads_by_newest, if_ok}
use Rattle.twp_read.proofs.items.Items.take_more.Goals as goal

pub returns : goal.returns
returns c =
    let v = c.self.inside.items in
    let text = c.args.text.now in
    let from = c.args.from in
    if_ok c.take_more_steps.result
    (λ to.
    (items : List Item)
    → Leads text from.at from.state (c.in-Some.item.now ∷ items) to.at to.state
    (c.take_more_steps.new.item ∷ items))
    _
    (λ to leads.
    subst (λ its.
    Leads text from.at from.state its to.at to.state
    (reverse (set v.items (v.len - 1) c.take_more_steps.new.item))) c.self.view_is
    (leads_by_newest text from.at from.state to.at to.state v.items v.len c.in-Some.item.now
    c.take_more_steps.new.item v.ok.0 (c.in-Some.ensures.variant.0 (search rules)) c.in-Some.ensures.value
    leads))
    c.take_more_steps.ensures
