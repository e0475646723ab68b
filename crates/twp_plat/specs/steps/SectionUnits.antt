-- The sums that are formed for a section, and their upper bounds. No public contract cites this
-- module.
use Rattle.std.specs.Prelude.{ℕ, ◌+◌, ◌*◌, Bool}
use Rattle.twp_measure.specs.Areas.{HUNDREDTH_OF_AN_ACRE}
use Rattle.twp_grid.specs.Lands.{LOT_NUMBER_MOST, Lotting}
use Rattle.twp_plat.specs.steps.Bounds.{REGULAR_PLACE_UNITS, SECTION_PLACES_MOST}
use Rattle.twp_plat.specs.LotTables.{FIGURE_MOST}
use Rattle.twp_plat.specs.LotAreas.{count_off_lots, units_of_lots}

-- the units of the lots in a section, and of its places in no lot
abbrev pub section_units : Lotting → (ℕ → ℕ → ℕ) → (ℕ → ℕ → ℕ → Bool) → ℕ → ℕ
section_units lots figure places section =
    units_of_lots lots figure places section + REGULAR_PLACE_UNITS * count_off_lots lots places section

-- an upper bound of a lot's units
abbrev pub LOT_UNITS_MOST : ℕ
LOT_UNITS_MOST = HUNDREDTH_OF_AN_ACRE * FIGURE_MOST

-- an upper bound of a section's units
abbrev pub SECTION_MOST : ℕ
SECTION_MOST = LOT_NUMBER_MOST * LOT_UNITS_MOST + REGULAR_PLACE_UNITS * SECTION_PLACES_MOST
