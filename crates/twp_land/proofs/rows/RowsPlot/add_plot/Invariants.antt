use Rattle.twp_land.proofs.JoinFacts.{AreJoined}
use Rattle.twp_land.proofs.rows.RowsPlot.add_plot.Given as goal

abbrev pub invariant-loop-row : goal.invariant-loop-row
invariant-loop-row l = AreJoined l.initial.self.rows l.other.rows l.row l.self.rows
