use Rattle.twp_land.proofs.MarkedLots.{no_land_of_marked, marked_of_no_land}
use Rattle.twp_land.proofs.lot_map.LotMapLotting.lacks_land.Goals as goal

pub returns : goal.returns
returns c =
    let self = c.args.self.now in (
      λ is.
          let met = c.meets.ensures.0 is in
          record {
            column = met.column;
            row = met.row;
            inside = met.inside;
            none =
                no_land_of_marked self.positions self.divided c.args.section met.column met.row met.is_held;
          },
      λ lacks. c.meets.ensures.1
          (record {
            column = lacks.column;
            row = lacks.row;
            inside = lacks.inside;
            is_held =
                marked_of_no_land self.positions self.divided c.args.section lacks.column lacks.row
                lacks.none;
          }),
    )
