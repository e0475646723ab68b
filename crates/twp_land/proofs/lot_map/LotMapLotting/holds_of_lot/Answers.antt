use Rattle.twp_land.proofs.MarkedLots.{some_lot_of_marked, marked_of_some_lot}
use Rattle.twp_land.proofs.lot_map.LotMapLotting.holds_of_lot.Goals as goal

pub returns : goal.returns
returns c =
    let self = c.args.self.now in (
      λ is.
          let met = c.meets.ensures.0 is in
          record {
            column = met.column;
            row = met.row;
            inside = met.inside;
            of_lot =
                some_lot_of_marked self.positions self.divided c.args.section met.column met.row met.is_held;
          },
      λ lot. c.meets.ensures.1
          (record {
            column = lot.column;
            row = lot.row;
            inside = lot.inside;
            is_held =
                marked_of_some_lot self.positions self.divided c.args.section lot.column lot.row lot.of_lot;
          }),
    )
