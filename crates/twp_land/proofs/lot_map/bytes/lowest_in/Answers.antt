-- One more mark is lower, or isn't.
use Rattle.std.proofs.Common.{◌+◌, get_or, refl, arith}
use Rattle.twp_land.proofs.DividedFacts.{lower_mark}
use Rattle.twp_land.proofs.lot_map.bytes.lowest_in.Goals as goal

pub loop-within-preserved : goal.loop-within-preserved
loop-within-preserved c = record {
  lowest =
      lower_mark c.args.divided.now c.args.first c.loop-within.within c.args.after c.loop-within.lowest
      (get_or c.args.divided.now (c.args.first + c.loop-within.within) 0) c.mark_after.result
      c.min-lowest.result
      refl (omega (arith, c.type_inv.divided, c.requires.fits, c.loop-within-test.true)) c.requires.after
      c.mark_after.ensures c.min-lowest.ensures c.loop-within.invariant.lowest;
}
