-- A block is full off the lots if each of its places is in the land and belongs to no lot.
use Rattle.twp_grid.specs.Places.{PLACE_DIGITS}
use Rattle.twp_spell.proofs.SquareBlocks.{judged_off, judged_short}
use Rattle.twp_spell.proofs.written_parts.is_full.Goals as goal
use Rattle.twp_grid.specs.Lands.{lotting}

pub returns-then-full : goal.returns-then-full
returns-then-full g c =
    judged_off (lotting (g.P.Lotting.layout c.args.lots.now)) c.args.section
    (g.L.PlaceSet.places c.args.land.now c.args.section) c.args.block
    c.full.result c.holds_of_lot.result
    c.full.ensures c.holds_of_lot.ensures c.if-full.true

pub returns-else-full : goal.returns-else-full
returns-else-full g c =
    judged_short (lotting (g.P.Lotting.layout c.args.lots.now)) c.args.section
    (g.L.PlaceSet.places c.args.land.now c.args.section) c.args.block
    c.full.result c.full.ensures c.if-full.false
