use Rattle.twp_grid.proofs.PlaceTests.{place_of_test}
use Rattle.twp_grid.specs.Places.{PLACE_DIGITS}
use Rattle.twp_land.specs.steps.Marked.{marked}
use Rattle.twp_land.proofs.MarkedLots.{land_of_marked, marked_of_land, some_left}
use Rattle.twp_land.proofs.lot_map.LotMapLotting.has_land.Goals as goal

pub returns : goal.returns
returns c =
    let self = c.args.self.now in
    let both =
    some_left c.next.result (marked self.positions self.divided c.args.section 0 99) (λ found. found.block)
    (λ found. found.end) c.next.ensures.next in
    rw c.is_some.ensures (
      λ is.
          let place = both.0 is in
          let land = land_of_marked self.positions self.divided c.args.section place.0 place.1 place.2 in
          record { column = place.0; row = place.1; place = land.0; is_land = land.1 },
      λ has. both.1 (
        has.column,
        has.row,
        marked_of_land self.positions self.divided c.args.section has.column has.row
            (place_of_test PLACE_DIGITS has.column has.row has.place) has.is_land,
      ),
    )
