use Rattle.twp_land.proofs.JoinFacts.{AreCommon}
use Rattle.twp_land.proofs.rows.RowsPlot.keep_common_plot.Given as goal

abbrev pub invariant-loop-row : goal.invariant-loop-row
invariant-loop-row l = AreCommon l.initial.self.rows l.other.rows l.row l.self.rows
