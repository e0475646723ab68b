-- One place of a position determines the lot of all its places.
use Rattle.std.proofs.Common.{arith}
use Rattle.twp_land.proofs.LotBlocks.{lot_is_below, small_holds}
use Rattle.twp_land.proofs.lots.holds_of_lot.Goals as goal

pub returns : goal.returns
returns c =
    let small = small_holds c.args.section c.args.block c.width.ensures.dyadic c.height.ensures.dyadic
    (omega (arith, c.width.ensures.value, c.if-width-gt-PLACES_TO_POSITION.false))
    (omega (arith, c.height.ensures.value, c.if-height-gt-PLACES_TO_POSITION.false)) in
    rw (c.is_some.ensures, c.lot_at.ensures.lot, c.column-column.ensures.value, c.row-row.ensures.value) small

pub returns-then-lot_count-eq0 : goal.returns-then-lot_count-eq0
returns-then-lot_count-eq0 c = (
  λ h. cc h,
  λ held.
      absurd
      (lot_is_below c.args.section 1 c.args.block c.lot_count.ensures.section
      (omega (arith, c.lot_count.ensures.count, c.if-lot_count-eq0.true))
      (λ lot column row least less inside is. absurd (omega arith)) held),
)
