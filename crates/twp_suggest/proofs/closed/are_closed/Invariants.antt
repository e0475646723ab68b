use Rattle.std.proofs.Common.{All, take}
use Rattle.twp_grid.specs.Lands.{lotting}
use Rattle.twp_suggest.specs.Closed.{IsClosed}
use Rattle.twp_suggest.proofs.closed.are_closed.Given as goal

-- so far nothing was decided
abbrev pub invariant-loop-reading : goal.invariant-loop-reading
invariant-loop-reading g l =
    All (IsClosed (lotting (g.P.Lotting.layout l.lots)) l.text l.readings) (take l.reading-index l.readings)
