use Rattle.std.proofs.Common.{ℕ, ◌+◌, ◌<◌, [], get_or}
use Rattle.twp_land.specs.steps.RowTests.{SomeHeld}
use Rattle.twp_land.proofs.rows.RowsPlot.meets.Given as goal

abbrev pub invariant-loop-up : goal.invariant-loop-up
invariant-loop-up l =
    (k : ℕ) → k < l.up → SomeHeld (get_or l.self.rows (l.window.row + k) []) l.window.column l.window.width
    → ⊥
