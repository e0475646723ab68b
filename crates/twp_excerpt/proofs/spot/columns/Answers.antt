-- One more character is counted, and at the end none is left.
use Rattle.std.proofs.Common.{arith}
use Rattle.twp_excerpt.proofs.SpotFacts.{columns_next, columns_end}
use Rattle.twp_excerpt.proofs.spot.columns.Goals as goal

pub loop-at-preserved : goal.loop-at-preserved
loop-at-preserved c =
    let size = c.size_at-at in
    record {
      within = omega (arith, size.ensures.within);
      counted =
          columns_next c.args.bytes.now c.loop-at.at c.loop-at.count size.result c.loop-at-test.true
          size.ensures.value
          c.loop-at.invariant.counted;
      few = omega (arith, size.ensures.some);
    }

pub returns-clause-value : goal.returns-clause-value
returns-clause-value c =
    columns_end c.args.bytes.now c.loop-at.at c.loop-at.count c.loop-at-test.false
    c.loop-at.invariant.counted
