-- The area of a position, its piece, in whole numbers: one quotient for all positions.
use Rattle.std.specs.Prelude.{◌==◌, ℕ, ◌+◌, ◌*◌, ℤ, pos, ◌+ℤ◌, ◌-ℤ◌, ◌*ℤ◌, if◌then◌else◌}
use Rattle.twp_plat.specs.Closing.{QUARTER_MILE}
use Rattle.twp_plat.specs.Plats.{ClosingQuarters}
use Rattle.twp_plat.specs.Pieces.{Ratio, ratio}
use Rattle.twp_plat.specs.Pieces.{line_length}

-- the length of a section's west line
abbrev pub west_length : ClosingQuarters → ℕ
west_length q = line_length q.west

-- the length of a section's north line
abbrev pub north_length : ClosingQuarters → ℕ
north_length q = line_length q.north

-- the sum of the distances of a quarter mile's two ends from the start of a line of this length
abbrev pub both_ends : ℕ → ℕ → ℕ
both_ends length number =
    if number == 3 then 3 * QUARTER_MILE + length else QUARTER_MILE * (2 * number + 1)

-- the sum of a position's widths at its south and north edges, times the length of the west line
abbrev pub both_widths : ClosingQuarters → ℕ → ℕ → ℤ
both_widths q column row =
    if column == 3
    then pos (2 * q.south * west_length q)
    +ℤ (pos q.north -ℤ pos q.south) *ℤ pos (both_ends (west_length q) row)
    else pos (2 * QUARTER_MILE * west_length q)

-- the sum of a position's heights at its east and west edges, times the length of the north line
abbrev pub both_heights : ClosingQuarters → ℕ → ℕ → ℤ
both_heights q column row =
    if row == 3
    then pos (2 * q.east * north_length q)
    +ℤ (pos q.west -ℤ pos q.east) *ℤ pos (both_ends (north_length q) column)
    else pos (2 * QUARTER_MILE * north_length q)

-- the product of both sums, over four times the product of both lengths
abbrev pub formula : ClosingQuarters → ℕ → ℕ → Ratio
formula q column row =
    ratio (both_widths q column row *ℤ both_heights q column row)
    (4 * west_length q * north_length q)
