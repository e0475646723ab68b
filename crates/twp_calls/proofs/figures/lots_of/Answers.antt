-- One more place is filled.
use Rattle.std.proofs.Common.{arith}
use Rattle.std.proofs.lemmas.Grind.{common_steps}
use Rattle.twp_calls.proofs.FigureFacts.{lots_next}
use Rattle.twp_calls.proofs.figures.lots_of.Goals as goal

pub loop-place-preserved : goal.loop-place-preserved
loop-place-preserved c = record {
  count = grind (arith, common_steps);
  filled = λ shown are.
      lots_next shown c.loop-place.lots c.loop-place.place c.from.result c.lot_at.result
      c.from.ensures (omega (arith, c.loop-place.invariant.count)) (c.loop-place.invariant.filled shown are)
      (c.lot_at.ensures shown are);
}
