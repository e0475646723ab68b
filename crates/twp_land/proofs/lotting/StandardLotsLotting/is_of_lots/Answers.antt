use Rattle.std.proofs.Common.{arith}
use Rattle.twp_land.proofs.LotBlocks.{small_of_lots}
use Rattle.twp_land.proofs.lotting.StandardLotsLotting.is_of_lots.Goals as goal

pub returns : goal.returns
returns c = λ is.
    small_of_lots c.args.section c.args.block c.width.ensures.dyadic c.height.ensures.dyadic
    (omega (arith, c.width.ensures.value, c.if-width-gt-PLACES_TO_POSITION.false))
    (omega (arith, c.height.ensures.value, c.if-height-gt-PLACES_TO_POSITION.false))
    (c.holds_of_lot.ensures.0 is)
