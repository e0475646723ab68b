use Rattle.twp_grid.specs.Lands.{lotting}
use Rattle.twp_suggest.specs.Readings.{AreSomeReadings}
use Rattle.twp_suggest.proofs.reading.readings_by.Given as goal

-- these are readings so far
abbrev pub invariant-loop-number : goal.invariant-loop-number
invariant-loop-number g l =
    AreSomeReadings (lotting (g.P.Lotting.layout l.lots)) l.fn.text l.readings.items
