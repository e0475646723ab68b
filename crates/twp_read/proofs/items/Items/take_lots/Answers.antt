use Rattle.std.proofs.Common.{ℕ, List, ◌∷◌, refl}
use Rattle.twp_grammar.specs.declared.item.Item.{Item}
use Rattle.twp_grammar.specs.declared.item.Item.TheVariants.{Lots}
use Rattle.twp_grammar.specs.declared.item.Numeral.{Numeral}
use Rattle.twp_read.specs.declared.description.Reached.{Reached}
use Rattle.twp_grammar.specs.declared.state.State.TheVariants as past
use Rattle.twp_read.specs.steps.TokenSteps.{before_parts}
use Rattle.twp_read.proofs.Leading.{leads_then}
use Rattle.twp_read.proofs.items.Items.take_lots.Goals as goal

pub returns : goal.returns
returns c =
    let text : List ℕ = c.args.text.now in
    let from : Reached = c.args.from in
    let word : ℕ = c.in-Some.word in
    let end : ℕ = c.in-Some-number_after.number.end in
    let number : Numeral = c.in-Some-number_after.number.numeral in
    let items : List Item = c.args.self.now in
    let begun : List Item = before_parts from.state items in
    rw (c.in_ok-push.ensures, c.entry.ensures, c.in_ok-before_parts.ensures)
    (leads_then text from.at from.state items word past.Lot begun end past.LotNumber
    (Lots number number ∷ begun)
    (c.in-Some.ensures.leads items)
    (c.in-Some-number_after.ensures.number past.Lot past.LotNumber begun refl refl))
