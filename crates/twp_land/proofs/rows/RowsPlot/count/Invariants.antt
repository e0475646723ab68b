use Rattle.std.proofs.Common.{◌≡◌, ◌*◌, ◌≤◌}
use Rattle.twp_grid.specs.Places.{PLACE_DIGITS, places_across}
use Rattle.twp_land.proofs.RowFacts.{count_in_rows}
use Rattle.twp_land.proofs.rows.RowsPlot.count.Given as goal

abbrev pub invariant-loop-up : goal.invariant-loop-up
invariant-loop-up l =
    (l.count ≡ count_in_rows l.self.rows l.window.row l.up l.window.column l.window.width)
    × (l.count ≤ places_across PLACE_DIGITS * l.up)
