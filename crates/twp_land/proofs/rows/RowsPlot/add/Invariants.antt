use Rattle.twp_land.specs.steps.RowTests.{AreFilled}
use Rattle.twp_land.proofs.rows.RowsPlot.add.Given as goal

abbrev pub invariant-loop-up : goal.invariant-loop-up
invariant-loop-up l =
    AreFilled l.initial.self.rows (record {
      columns = record { start = l.window.column; len = l.window.width };
      rows = record { start = l.window.row; len = l.up };
    }) l.self.rows
