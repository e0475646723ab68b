use Rattle.twp_grid.specs.Places.{PLACE_DIGITS}
use Rattle.twp_grid.proofs.PlaceTests.{place_of_test}
use Rattle.twp_land.proofs.MarkedLots.{land_of_marked, marked_of_land}
use Rattle.twp_land.proofs.SectionMarks.{whole_held}
use Rattle.twp_land.proofs.lot_map.LotMapLotting.holds_section.Goals as goal

pub returns-then-has_none_from : goal.returns-then-has_none_from
returns-then-has_none_from g c =
    let self = c.args.self.now in
    let both =
    whole_held self.positions self.divided c.args.section
    (g.S.PlaceSet.places c.args.set.now c.args.section) c.whole.result c.whole.ensures
    (c.has_none_from.ensures c.if-has_none_from.true) in
    (λ is. both.0 (c.full.ensures.0 is), λ each. c.full.ensures.1 (both.1 each))

pub returns : goal.returns
returns g c =
    let self = c.args.self.now in (
      λ yes column row place land. c.is_held.ensures.0 yes column row
          (marked_of_land self.positions self.divided c.args.section column row place land),
      λ each. c.is_held.ensures.1
          (λ column row is.
          let land = land_of_marked self.positions self.divided c.args.section column row is in
          each column row (place_of_test PLACE_DIGITS column row land.0) land.1),
    )
