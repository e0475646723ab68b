use Rattle.std.proofs.Common.{◌<◌, ◌≤◌, ◌+◌, ℕ, List, ◌∷◌, length, refl, sym, subst, arith}
use Rattle.twp_grammar.specs.declared.item.Item.TheVariants.{Chain}
use Rattle.twp_grammar.specs.declared.item.Step.{Step}
use Rattle.twp_read.specs.declared.description.Reached.{Reached}
use Rattle.twp_read.specs.declared.usual.chain.UsualStep.{UsualStep}
use Rattle.twp_grammar.specs.declared.state.State.TheVariants as past
use Rattle.twp_read.specs.steps.Usual.{Leads}
use Rattle.twp_read.proofs.StandingSteps.{step_within}
use Rattle.twp_read.proofs.UsualFacts.{step_leads}
use Rattle.twp_read.proofs.usual.chain.take_adjoining.Goals as goal

pub loop-usual-smaller : goal.loop-usual-smaller
loop-usual-smaller c =
    let text : List ℕ = c.args.text.now in
    let usual : UsualStep = c.in-Some.usual in
    let some : 0 < usual.size = c.in-Some.ensures.some in
    let within : c.loop-usual.reached.at + usual.size ≤ length text =
    step_within text c.loop-usual.reached.at usual.step usual.size c.in-Some.ensures in
    omega arith

pub loop-usual-preserved : goal.loop-usual-preserved
loop-usual-preserved c =
    let text : List ℕ = c.args.text.now in
    let from : Reached = c.args.from in
    let reached : Reached = c.loop-usual.reached in
    let usual : UsualStep = c.in-Some.usual in
    let within : reached.at + usual.size ≤ length text =
    step_within text reached.at usual.step usual.size c.in-Some.ensures in
    let forward : from.at ≤ reached.at = c.loop-usual.invariant.1 in (
      within,
      omega arith,
      refl,
      λ place items.
          subst (λ (steps : List Step).
          Leads text from.at from.state (Chain c.args.steps.now place ∷ items) (reached.at + usual.size)
          past.Step (Chain steps place ∷ items)) (sym c.in_ok-push.ensures.added)
          (step_leads text from.at from.state (Chain c.args.steps.now place ∷ items) reached.at reached.state
          (Chain c.loop-usual.steps place ∷ items) usual.step usual.size
          c.loop-usual.invariant.2 (c.loop-usual.invariant.3 place items) c.in-Some.ensures),
    )
