use Rattle.twp_grid.specs.Lands.{lot_places, lotting}
use Rattle.twp_land.specs.LotMaps.{layout_of_bytes}
use Rattle.twp_land.specs.steps.Marked.{marked}
use Rattle.twp_land.proofs.LottingFacts.{contains_held}
use Rattle.twp_land.proofs.MarkedLots.{lot_places_are}
use Rattle.twp_land.proofs.OnlyLots.{only_held}
use Rattle.twp_land.proofs.lot_map.LotMapLotting.holds_lot.Goals as goal

pub returns : goal.returns
returns g c =
    let self = c.args.self.now in
    let both =
    contains_held (g.S.PlaceSet.places c.args.set.now) c.args.section
    (marked self.positions self.divided c.args.section c.args.number c.args.number)
    (lot_places (lotting (layout_of_bytes self.positions self.divided)) c.args.section c.args.number)
    (lot_places_are self.positions self.divided c.args.section c.args.number c.requires) in
    (λ is. both.0 (c.is_held.ensures.0 is), λ all. c.is_held.ensures.1 (both.1 all))

pub returns-in-Some : goal.returns-in-Some
returns-in-Some g c =
    let self = c.args.self.now in
    let both =
    only_held self.positions self.divided (g.S.PlaceSet.places c.args.set.now) c.args.section c.args.number
    c.in-Some.block c.requires c.in-Some.ensures in
    (λ is. both.0 (c.full.ensures.0 is), λ all. c.full.ensures.1 (both.1 all))
