-- The quarter of a square's block is the block of the square's quarter.
use Rattle.std.proofs.Common.{◌∷◌}
use Rattle.twp_grid.specs.Places.{PLACE_DIGITS}
use Rattle.twp_spell.specs.WrittenParts.Part.{square}
use Rattle.twp_spell.proofs.SquareBlocks.{quarter_judged, block_of_quarter}
use Rattle.twp_spell.proofs.written_parts.quarter_is_full.Goals as goal

pub returns : goal.returns
returns g c = λ quarters of_square. c.is_full.ensures (square (c.args.corner ∷ quarters))
    (block_of_quarter PLACE_DIGITS c.args.corner quarters c.args.block c.unwrap.result
    (quarter_judged c.args.corner c.args.block c.unwrap.result c.quarter.result c.quarter.ensures
    c.unwrap.ensures)
    c.requires of_square)
