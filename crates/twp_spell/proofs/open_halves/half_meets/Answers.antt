-- A half that the land does not meet has no land.
use Rattle.twp_grid.specs.Places.{PLACE_DIGITS}
use Rattle.twp_spell.proofs.OpenFacts.{half_closed}
use Rattle.twp_spell.proofs.SquareBlocks.{deeper}
use Rattle.twp_spell.proofs.open_halves.half_meets.Goals as goal
use Rattle.twp_grid.specs.Lands.{lotting}

pub returns : goal.returns
returns g c = λ layout quarters of_square none.
    half_closed (lotting layout) c.args.section (g.L.PlaceSet.places c.args.land.now c.args.section)
    c.args.side
    quarters
    c.args.block c.half_toward.result c.meets.result
    (deeper PLACE_DIGITS quarters c.args.block of_square c.requires.0) of_square
    c.half_toward.ensures c.meets.ensures none
