-- Each quarter is half as wide.
use Rattle.std.proofs.Common.{◌*◌, ◌-◌}
use Rattle.twp_spell.proofs.written_parts.+descent.Given as goal

abbrev pub decreases-write_square : goal.decreases-write_square
decreases-write_square g l = 3 * l.block.columns.len

abbrev pub decreases-write_coarse_square : goal.decreases-write_coarse_square
decreases-write_coarse_square g l = 3 * l.block.columns.len - 1

abbrev pub decreases-write_quarter : goal.decreases-write_quarter
decreases-write_quarter g l = 3 * l.block.columns.len - 2
