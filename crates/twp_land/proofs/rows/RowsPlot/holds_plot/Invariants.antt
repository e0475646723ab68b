use Rattle.std.proofs.Common.{ℕ, ◌<◌, [], get_or}
use Rattle.twp_land.specs.steps.RowTests.{HasAllOf}
use Rattle.twp_land.proofs.rows.RowsPlot.holds_plot.Given as goal

abbrev pub invariant-loop-row : goal.invariant-loop-row
invariant-loop-row l =
    (k : ℕ) → k < l.row → HasAllOf (get_or l.self.rows k []) (get_or l.other.rows k [])
