use Rattle.std.proofs.Common.{All, take}
use Rattle.twp_grid.specs.Lands.{lotting}
use Rattle.twp_suggest.specs.Readings.{AreOther}
use Rattle.twp_suggest.proofs.reading.is_other.Given as goal

-- the text is none of those so far
abbrev pub invariant-loop-reading : goal.invariant-loop-reading
invariant-loop-reading g l =
    All (λ reading. AreOther (lotting (g.P.Lotting.layout l.lots)) reading l.new)
    (take l.reading-index l.readings)
