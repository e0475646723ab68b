-- One more place is filled.
use Rattle.std.proofs.Common.{arith}
use Rattle.std.proofs.lemmas.Grind.{common_steps}
use Rattle.twp_calls.proofs.FigureFacts.{sections_next}
use Rattle.twp_calls.proofs.figures.sections_of.Goals as goal

pub loop-place-preserved : goal.loop-place-preserved
loop-place-preserved c = record {
  count = grind (arith, common_steps);
  filled = λ shown are.
      sections_next shown c.loop-place.sections c.loop-place.place c.from.result c.section_at.result
      c.from.ensures (omega (arith, c.loop-place.invariant.count)) (c.loop-place.invariant.filled shown are)
      (c.section_at.ensures shown are);
}
