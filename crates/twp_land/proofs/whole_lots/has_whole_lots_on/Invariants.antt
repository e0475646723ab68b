use Rattle.std.proofs.Common.{ℕ, ◌<◌, ◌≤◌}
use Rattle.twp_grid.specs.Lands.{lotting}
use Rattle.twp_land.specs.steps.Relating.{HoldsWholeLots}
use Rattle.twp_land.proofs.whole_lots.has_whole_lots_on.Given as goal

-- each lot of the sections so far is contained wholly or not at all
abbrev pub invariant-loop-number : goal.invariant-loop-number
invariant-loop-number g l = record {
  so_far : (section : ℕ) → section < l.number
      → HoldsWholeLots (lotting (g.P.Lotting.layout l.lots)) section (g.L.PlaceSet.places l.land section);
  first : 1 ≤ l.number;
}
