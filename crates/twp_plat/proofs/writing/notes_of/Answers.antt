-- One more line has its distances, and then each line has.
use Rattle.std.proofs.Common.{arith}
use Rattle.std.proofs.lemmas.Grind.{common_steps}
use Rattle.twp_plat.proofs.PlatNoteFacts.{lines_next}
use Rattle.twp_plat.proofs.writing.notes_of.Goals as goal

pub loop-index-preserved : goal.loop-index-preserved
loop-index-preserved c = record {
  count = grind (arith, common_steps, c.loop-index.invariant.count);
  each =
      lines_next c.closing_quarters-quarters.result.now c.loop-index.lines c.loop-index.index
      c.returned_for.result (omega (arith, c.loop-index.invariant.count)) c.loop-index.invariant.each
      c.returned_for.ensures;
}
