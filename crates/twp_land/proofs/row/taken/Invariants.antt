use Rattle.std.proofs.Common.{◌≡◌, ℕ, ◌<◌, ◌&&◌, not, length, get_or, false}
use Rattle.twp_grid.specs.Places.{PLACE_DIGITS, places_across}
use Rattle.twp_land.proofs.row.taken.Given as goal

abbrev pub invariant-loop-column : goal.invariant-loop-column
invariant-loop-column l = (length l.taken ≡ places_across PLACE_DIGITS)
    × ((k : ℕ) → k < l.column
    → get_or l.taken k false ≡ (get_or l.row k false && not (get_or l.other k false)))
