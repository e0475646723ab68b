-- Each quarter is half as wide.
use Rattle.std.proofs.Common.{◌*◌, ◌-◌}
use Rattle.twp_spell.proofs.blocks.+descent.Given as goal

abbrev pub decreases-gather_square : goal.decreases-gather_square
decreases-gather_square g l = 2 * l.block.columns.len

abbrev pub decreases-gather_quarter : goal.decreases-gather_quarter
decreases-gather_quarter g l = 2 * l.block.columns.len - 1
