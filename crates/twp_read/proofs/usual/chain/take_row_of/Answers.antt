use Rattle.std.proofs.Common.{◌<◌, ◌≤◌, ◌+◌, ℕ, List, [], ◌∷◌, length, refl, sym, subst, arith}
use Rattle.twp_grammar.specs.declared.item.Item.{Item}
use Rattle.twp_grammar.specs.declared.item.Item.TheVariants.{Chain}
use Rattle.twp_grammar.specs.declared.item.Step.{Step}
use Rattle.twp_grammar.specs.declared.state.State.TheVariants as past
use Rattle.twp_read.specs.declared.description.Reached.{Reached}
use Rattle.twp_read.specs.declared.usual.chain.UsualStep.{UsualStep}
use Rattle.twp_read.specs.steps.Usual.{Leads}
use Rattle.twp_read.proofs.Leading.{leads_then}
use Rattle.twp_read.proofs.StandingSteps.{step_within}
use Rattle.twp_read.proofs.UsualFacts.{step_leads}
use Rattle.twp_read.proofs.usual.chain.take_row_of.Goals as goal

pub step_at-requires : goal.step_at-requires
step_at-requires c = (c.in-Some.ensures.leads []).within

pub returns-in_default-step_at-clause-within : goal.returns-in_default-step_at-clause-within
returns-in_default-step_at-clause-within c = (c.in-Some.ensures.leads []).within

pub returns-in_default-step_at-clause-leads : goal.returns-in_default-step_at-clause-leads
returns-in_default-step_at-clause-leads c place items =
    let from : Reached = c.args.from in
    let reached : Reached = c.loop-after.reached in
    let after : Reached = c.in-Some.after in
    let some : List Item = Chain c.loop-after.steps place ∷ items in
    leads_then c.args.text.now from.at from.state (Chain c.args.steps.now place ∷ items) reached.at
    reached.state some after.at after.state some (c.loop-after.invariant.3 place items)
    (c.in-Some.ensures.leads some)

pub loop-after-preserved : goal.loop-after-preserved
loop-after-preserved c =
    let text : List ℕ = c.args.text.now in
    let from : Reached = c.args.from in
    let reached : Reached = c.loop-after.reached in
    let after : Reached = c.in-Some.after in
    let usual : UsualStep = c.in-Some-step_at.usual in
    let within : after.at + usual.size ≤ length text =
    step_within text after.at usual.step usual.size c.in-Some-step_at.ensures in
    let forward : from.at ≤ reached.at = c.loop-after.invariant.1 in
    let further : reached.at < after.at = c.in-Some.ensures.forward in (
      within,
      omega arith,
      refl,
      λ place items.
          let begun : List Item = Chain c.args.steps.now place ∷ items in
          let some : List Item = Chain c.loop-after.steps place ∷ items in
          subst (λ (steps : List Step).
          Leads text from.at from.state begun (after.at + usual.size) past.Step (Chain steps place ∷ items))
          (sym c.in_ok-push.ensures.added)
          (step_leads text from.at from.state begun after.at after.state some usual.step usual.size
          c.in-Some.ensures.chain
          (leads_then text from.at from.state begun reached.at reached.state some after.at after.state some
          (c.loop-after.invariant.3 place items) (c.in-Some.ensures.leads some))
          c.in-Some-step_at.ensures),
    )
