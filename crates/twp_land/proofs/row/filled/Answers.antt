use Rattle.std.proofs.Common.{arith, length-set, ◌∙◌}
use Rattle.twp_land.proofs.RowFacts.{filled_next}
use Rattle.twp_land.proofs.row.filled.Goals as goal

pub loop-along-preserved : goal.loop-along-preserved
loop-along-preserved c =
    let is = c.loop-along.invariant in (
      length-set _ _ _ ∙ is.0,
      filled_next c.args.row.now c.loop-along.filled c.args.start c.loop-along.along is.0 (omega arith) is.1,
    )
