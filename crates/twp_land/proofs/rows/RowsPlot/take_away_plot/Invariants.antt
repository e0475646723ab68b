use Rattle.twp_land.proofs.TakenFacts.{AreTaken}
use Rattle.twp_land.proofs.rows.RowsPlot.take_away_plot.Given as goal

abbrev pub invariant-loop-row : goal.invariant-loop-row
invariant-loop-row l = AreTaken l.initial.self.rows l.other.rows l.row l.self.rows
