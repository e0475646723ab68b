-- A lot is one block.
use Rattle.std.proofs.Common.{◌≡◌, Some, sym, ◌∙◌}
use Rattle.twp_grid.specs.Lots.{position_of_lot}
use Rattle.twp_land.proofs.LotFacts.{block_of}
use Rattle.twp_land.proofs.LottingFacts.{standard_number, held_of_meets, meets_of_held}
use Rattle.twp_land.proofs.lotting.StandardLotsLotting.meets_lot.Goals as goal

pub unwrap-requires : goal.unwrap-requires
unwrap-requires g c =
    c.of_lot.ensures.has.1 (standard_number c.args.section c.args.number c.of_lot.ensures.section c.requires)

pub returns : goal.returns
returns g c =
    let number = standard_number c.args.section c.args.number c.of_lot.ensures.section c.requires in
    let block : block_of (position_of_lot c.args.section c.args.number) ≡ Some c.unwrap.result =
    sym c.of_lot.ensures.block ∙ c.unwrap.ensures in
    let held = g.S.PlaceSet.places c.args.set.now c.args.section in (
      λ is.
          held_of_meets c.args.section c.args.number held c.unwrap.result c.of_lot.ensures.section number.1
          block
          (c.meets.ensures.0 is),
      λ lot. c.meets.ensures.1
          (meets_of_held c.args.section c.args.number held c.unwrap.result c.of_lot.ensures.section number.1
          block lot),
    )
