-- The sums that are formed for a section, and their upper bounds. No public contract cites this
-- module.
use Rattle.std.specs.Prelude.{ℕ, ◌+◌, ◌*◌, ◌/◌}
use Rattle.twp_grid.specs.Lots.{POSITIONS}
use Rattle.twp_grid.specs.Places.{PLACE_DIGITS, places_across, places_to_position}
use Rattle.twp_plat.specs.Closing.{CLOSING_MOST, QUARTER_MILE}
use Rattle.twp_plat.specs.LandAreas.{places_of_position}

-- the number of places along a side of a section, and along a side of a position
abbrev pub ACROSS : ℕ
ACROSS = places_across PLACE_DIGITS

abbrev pub TO_POSITION : ℕ
TO_POSITION = places_to_position PLACE_DIGITS

-- the number of places in a position
abbrev pub OF_POSITION : ℕ
OF_POSITION = places_of_position PLACE_DIGITS

-- the units of a position that is not a lot, a quarter mile on each side
abbrev pub REGULAR_UNITS : ℕ
REGULAR_UNITS = QUARTER_MILE * QUARTER_MILE

-- the units of a place in such a position
abbrev pub REGULAR_PLACE_UNITS : ℕ
REGULAR_PLACE_UNITS = REGULAR_UNITS / OF_POSITION

-- the number of places in a section
abbrev pub SECTION_PLACES_MOST : ℕ
SECTION_PLACES_MOST = ACROSS * ACROSS

-- the greatest number of lots in a section
abbrev pub LOTS_MOST : ℕ
LOTS_MOST = 7

-- an upper bound of a section's area in whole units: the areas of its positions and, again, of its
-- lots, all as large as possible
abbrev pub SECTION_UNITS_MOST : ℕ
SECTION_UNITS_MOST = (POSITIONS + LOTS_MOST) * (CLOSING_MOST * CLOSING_MOST)
