-- The vector's last item is the newest of the items.
use Rattle.std.proofs.Common.{ap, ◌∙◌, rules}
use Rattle.twp_read.specs.steps.TokenSteps.{with_newest}
use Rattle.twp_read.proofs.NewestItem.{changes_newest, on_ok}
use Rattle.twp_read.proofs.items.Items.change.Goals as goal

pub returns : goal.returns
returns c =
    let v = c.self.inside.items in
    on_ok c.change_item.result _ _
    (λ made.
    changes_newest c.args.change v.items v.len c.in-Some.item.now c.change_item.new.item v.ok.0
    (c.in-Some.ensures.variant.0 (search rules)) c.in-Some.ensures.value made
    ∙ ap (with_newest c.args.change) c.self.view_is)
    c.change_item.ensures
