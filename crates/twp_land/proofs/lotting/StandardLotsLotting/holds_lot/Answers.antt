-- A lot is one block.
use Rattle.std.proofs.Common.{◌≡◌, Some, sym, ◌∙◌}
use Rattle.twp_grid.specs.Lots.{position_of_lot}
use Rattle.twp_grid.specs.Lands.{STANDARD_LOTS, lot_places}
use Rattle.twp_grid.specs.Spans.{in_rectangle}
use Rattle.twp_land.proofs.LotFacts.{block_of}
use Rattle.twp_land.proofs.LottingFacts.{contains_held, standard_number, standard_places}
use Rattle.twp_land.proofs.lotting.StandardLotsLotting.holds_lot.Goals as goal

pub unwrap-requires : goal.unwrap-requires
unwrap-requires g c =
    c.of_lot.ensures.has.1 (standard_number c.args.section c.args.number c.of_lot.ensures.section c.requires)

pub returns : goal.returns
returns g c =
    let number = standard_number c.args.section c.args.number c.of_lot.ensures.section c.requires in
    let block : block_of (position_of_lot c.args.section c.args.number) ≡ Some c.unwrap.result =
    sym c.of_lot.ensures.block ∙ c.unwrap.ensures in
    let both =
    contains_held (g.S.PlaceSet.places c.args.set.now) c.args.section (in_rectangle c.unwrap.result)
    (lot_places STANDARD_LOTS c.args.section c.args.number)
    (standard_places c.args.section c.args.number c.unwrap.result c.of_lot.ensures.section number.1 block)
    in
    (λ is. both.0 (c.full.ensures.0 is), λ all. c.full.ensures.1 (both.1 all))
