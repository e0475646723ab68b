use Rattle.std.proofs.Common.{◌+◌, ◌<◌, ◌≤◌, ℕ, List, [], ◌∷◌, length, subst, arith}
use Rattle.twp_grammar.specs.declared.item.Item.{Item}
use Rattle.twp_grammar.specs.declared.item.Item.TheVariants.{Chain}
use Rattle.twp_read.specs.declared.description.Reached.{Reached}
use Rattle.twp_read.specs.declared.usual.chain.UsualStep.{UsualStep}
use Rattle.twp_grammar.specs.declared.state.State.TheVariants as past
use Rattle.twp_read.specs.steps.Usual.{Leads}
use Rattle.twp_read.proofs.Leading.{leads_then}
use Rattle.twp_read.proofs.UsualFacts.{first_leads}
use Rattle.twp_read.proofs.items.Items.take_parts.Goals as goal

pub loop-alloc-init : goal.loop-alloc-init
loop-alloc-init c =
    let from : Reached = c.args.from in
    let begun : Reached = c.in_ok-begun.begun in
    let reached : Reached = c.ahead_of_part-reached.result in
    leads_then c.args.text.now from.at from.state c.args.self.now begun.at begun.state c.take_more.new.self
    reached.at reached.state c.take_more.new.self
    c.in_ok-begun.ensures (c.ahead_of_part-reached.ensures c.take_more.new.self)

pub loop-alloc-preserved-in-Some : goal.loop-alloc-preserved-in-Some
loop-alloc-preserved-in-Some c =
    let text : List ℕ = c.args.text.now in
    let from : Reached = c.args.from in
    let reached : Reached = c.loop-alloc.reached in
    let first : UsualStep = c.in-Some.first in
    let to : Reached = c.in_ok-reached.reached in
    let grown : List Item = c.take_chain.new.self in
    leads_then text from.at from.state c.args.self.now reached.at reached.state c.loop-alloc.self to.at
    to.state grown
    c.loop-alloc.invariant
    (first_leads text reached.at reached.state c.loop-alloc.self first.step first.size to.at to.state grown
    c.loop-alloc-test.ensures c.in-Some.ensures
    (subst (λ (items : List Item).
    Leads text (reached.at + first.size) past.Step (Chain (first.step ∷ []) reached.at ∷ items) to.at
    to.state grown) c.in_ok-before_parts.ensures c.in_ok-reached.ensures))

pub loop-alloc-preserved : goal.loop-alloc-preserved
loop-alloc-preserved c =
    let from : Reached = c.args.from in
    let reached : Reached = c.loop-alloc.reached in
    let after : Reached = c.in-Some-after_and.after in
    let items : List Item = c.loop-alloc.self in
    leads_then c.args.text.now from.at from.state c.args.self.now reached.at reached.state items after.at
    after.state items
    c.loop-alloc.invariant (c.in-Some-after_and.ensures.leads items)

pub loop-alloc-smaller : goal.loop-alloc-smaller
loop-alloc-smaller c =
    let further : c.loop-alloc.reached.at < c.in-Some-after_and.after.at =
    c.in-Some-after_and.ensures.forward in
    let within : c.in-Some-after_and.after.at ≤ length c.args.text.now =
    (c.in-Some-after_and.ensures.leads []).within in
    omega arith
