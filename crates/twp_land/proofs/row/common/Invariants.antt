use Rattle.std.proofs.Common.{◌≡◌, ℕ, ◌<◌, ◌&&◌, length, get_or, false}
use Rattle.twp_grid.specs.Places.{PLACE_DIGITS, places_across}
use Rattle.twp_land.proofs.row.common.Given as goal

abbrev pub invariant-loop-column : goal.invariant-loop-column
invariant-loop-column l = (length l.common ≡ places_across PLACE_DIGITS)
    × ((k : ℕ) → k < l.column → get_or l.common k false ≡ (get_or l.row k false && get_or l.other k false))
