use Rattle.std.proofs.Common.{◌≡◌, length}
use Rattle.twp_plat.specs.PlatFigures.{PlatFigures, AreFigures}
use Rattle.twp_calls.specs.steps.Filling.{AreLotsTo}
use Rattle.twp_calls.proofs.figures.lots_of.Given as goal

-- the places so far are filled
abbrev pub invariant-loop-place : goal.invariant-loop-place
invariant-loop-place l = record {
  count : length l.lots ≡ 252;
  filled : (shown : PlatFigures) → AreFigures l.plat shown → AreLotsTo shown l.place l.lots;
}
