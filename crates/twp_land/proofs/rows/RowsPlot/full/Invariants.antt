use Rattle.std.proofs.Common.{ℕ, ◌+◌, ◌<◌, [], get_or}
use Rattle.twp_land.specs.steps.RowTests.{EachHeld}
use Rattle.twp_land.proofs.rows.RowsPlot.full.Given as goal

abbrev pub invariant-loop-up : goal.invariant-loop-up
invariant-loop-up l =
    (k : ℕ) → k < l.up → EachHeld (get_or l.self.rows (l.window.row + k) []) l.window.column l.window.width
