-- A lot is one block.
use Rattle.std.proofs.Common.{◌≡◌, Some, ap, sym, ◌∙◌}
use Rattle.twp_grid.specs.Lots.{position_of_lot}
use Rattle.twp_grid.specs.Lands.{union}
use Rattle.twp_land.proofs.LotFacts.{block_of}
use Rattle.twp_land.proofs.LottingFacts.{standard_number, standard_places, standard_apart, standard_met}
use Rattle.twp_land.proofs.lotting.StandardLotsLotting.add_lot.Goals as goal

pub unwrap-block-requires : goal.unwrap-block-requires
unwrap-block-requires g c =
    c.of_lot.ensures.has.1
    (standard_number c.args.section c.args.number c.of_lot.ensures.section c.requires.lot)

-- the places of the block are those of the lot
pub returns-clause-apart : goal.returns-clause-apart
returns-clause-apart g c is =
    let number = standard_number c.args.section c.args.number c.of_lot.ensures.section c.requires.lot in
    let block : block_of (position_of_lot c.args.section c.args.number) ≡ Some c.unwrap-block.result =
    sym c.of_lot.ensures.block ∙ c.unwrap-block.ensures in
    standard_apart (g.S.PlaceSet.places c.args.set.now) c.args.section c.args.number c.unwrap-block.result
    (standard_places c.args.section c.args.number c.unwrap-block.result c.of_lot.ensures.section number.1
    block)
    (c.add_apart.ensures.apart is)

pub returns-clause-met : goal.returns-clause-met
returns-clause-met g c is =
    let number = standard_number c.args.section c.args.number c.of_lot.ensures.section c.requires.lot in
    let block : block_of (position_of_lot c.args.section c.args.number) ≡ Some c.unwrap-block.result =
    sym c.of_lot.ensures.block ∙ c.unwrap-block.ensures in
    standard_met (g.S.PlaceSet.places c.args.set.now) c.args.section c.args.number c.unwrap-block.result
    (standard_places c.args.section c.args.number c.unwrap-block.result c.of_lot.ensures.section number.1
    block)
    (c.add_apart.ensures.met is)

pub returns-clause-places : goal.returns-clause-places
returns-clause-places g c is =
    let number = standard_number c.args.section c.args.number c.of_lot.ensures.section c.requires.lot in
    let block : block_of (position_of_lot c.args.section c.args.number) ≡ Some c.unwrap-block.result =
    sym c.of_lot.ensures.block ∙ c.unwrap-block.ensures in
    c.add_apart.ensures.places is
    ∙ ap (λ p. union (g.S.PlaceSet.places c.args.set.now) p)
    (standard_places c.args.section c.args.number c.unwrap-block.result c.of_lot.ensures.section number.1
    block)
