use Rattle.std.proofs.Common.{refl, arith}
use Rattle.twp_plat.proofs.QuarterLines.{counted_next}
use Rattle.twp_plat.proofs.plat.are_on_plat.Goals as goal

pub loop-index-preserved : goal.loop-index-preserved
loop-index-preserved c =
    let before = c.loop-index.invariant in
    let one = c.outside_limits-outside.ensures in
    record {
      few = omega (arith, before.few, one.most);
      counted =
          counted_next c.args.closing_quarters.now c.loop-index.index c.loop-index.outside
          c.outside_limits-outside.result _ one.none refl before.counted;
    }
