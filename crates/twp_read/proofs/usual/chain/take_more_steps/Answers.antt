use Rattle.std.proofs.Common.{◌∷◌}
use Rattle.twp_grammar.specs.declared.item.Item.{Item}
use Rattle.twp_grammar.specs.declared.item.Item.TheVariants.{Chain}
use Rattle.twp_read.specs.declared.description.Reached.{Reached}
use Rattle.twp_read.proofs.Leading.{leads_then}
use Rattle.twp_read.proofs.NewestItem.{if_ok}
use Rattle.twp_read.proofs.usual.chain.take_more_steps.Goals as goal

pub returns-in-Some : goal.returns-in-Some
returns-in-Some c =
    let from : Reached = c.args.from in
    let adjoining : Reached = c.in_ok-adjoining.adjoining in
    let to : Reached = c.in-Some.after in
    let steps : Item = Chain c.take_adjoining.new.steps c.in-Chain.at in
    rw c.in-Chain.is (λ items.
    leads_then c.args.text.now from.at from.state (Chain c.in-Chain.steps c.in-Chain.at ∷ items) adjoining.at
    adjoining.state (steps ∷ items) to.at to.state (steps ∷ items)
    (c.in_ok-adjoining.ensures.leads c.in-Chain.at items) (c.in-Some.ensures (steps ∷ items)))

pub returns-in-Chain : goal.returns-in-Chain
returns-in-Chain c =
    let from : Reached = c.args.from in
    let adjoining : Reached = c.in_ok-adjoining.adjoining in
    let first : Item = Chain c.take_adjoining.new.steps c.in-Chain.at in
    let steps : Item = Chain c.take_steps_of.new.steps c.in-Chain.at in
    if_ok c.take_steps_of.result _ _
    (λ (to : Reached) more. rw c.in-Chain.is (λ items.
    leads_then c.args.text.now from.at from.state (Chain c.in-Chain.steps c.in-Chain.at ∷ items) adjoining.at
    adjoining.state (first ∷ items) to.at to.state (steps ∷ items)
    (c.in_ok-adjoining.ensures.leads c.in-Chain.at items) (more c.in-Chain.at items)))
    c.take_steps_of.ensures
