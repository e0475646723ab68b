use Rattle.std.proofs.Common.{ℕ, ◌<◌}
use Rattle.twp_grid.specs.Lands.{IsWholeOrNot}
use Rattle.twp_grid.specs.Lands.{STANDARD_LOTS}
use Rattle.twp_land.proofs.lots.has_whole_lots.Given as goal

abbrev pub invariant-loop-lot : goal.invariant-loop-lot
invariant-loop-lot g l =
    (lot : ℕ) → lot < l.lot → IsWholeOrNot STANDARD_LOTS l.section lot (g.P.Plot.held l.plot)
