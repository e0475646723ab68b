-- The greatest byte of the section decides, or that of the block's position.
use Rattle.std.proofs.Common.{refl, arith}
use Rattle.std.proofs.lemmas.Bool.{false≢true}
use Rattle.twp_land.proofs.SectionMarks.{none_marked, small_marked}
use Rattle.twp_land.proofs.lot_map.LotMap.meets.Goals as goal

pub returns-then-has_none_from : goal.returns-then-has_none_from
returns-then-has_none_from c =
    let self = c.args.self.now in (
      λ no. absurd (false≢true no),
      λ met. absurd
          (none_marked self.positions self.divided c.args.section c.args.least c.args.most met.column met.row
          (c.has_none_from.ensures c.if-has_none_from.true) met.is_held),
    )

pub returns-then-position-le-NO_LAND : goal.returns-then-position-le-NO_LAND
returns-then-position-le-NO_LAND c =
    let self = c.args.self.now in
    rw c.is_between.ensures
    (small_marked self.positions self.divided c.args.section c.args.least c.args.most
    c.position-position.result c.place_number.result c.args.block c.column.ensures.dyadic c.row.ensures.dyadic
    (omega (arith, c.width.ensures.value, c.if-width-le-PLACES_TO_POSITION.true))
    (omega (arith, c.height.ensures.value, c.if-height-le-PLACES_TO_POSITION.true))
    (rw (c.place_number.ensures.number, c.column.ensures.value, c.row.ensures.value) refl)
    c.position-position.ensures c.if-position-le-NO_LAND.true)
