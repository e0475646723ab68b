use Rattle.std.proofs.Common.{◌≡◌, length}
use Rattle.twp_plat.specs.PlatFigures.{PlatFigures, AreFigures}
use Rattle.twp_calls.specs.steps.Filling.{AreSectionsTo}
use Rattle.twp_calls.proofs.figures.sections_of.Given as goal

-- the places so far are filled
abbrev pub invariant-loop-place : goal.invariant-loop-place
invariant-loop-place l = record {
  count : length l.sections ≡ 36;
  filled : (shown : PlatFigures) → AreFigures l.plat shown → AreSectionsTo shown l.place l.sections;
}
