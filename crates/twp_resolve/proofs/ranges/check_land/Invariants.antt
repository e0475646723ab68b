use Rattle.std.proofs.Common.{◌≤◌, ◌<◌, ℕ}
use Rattle.twp_grid.specs.Lands.{lotting, HasLand}
use Rattle.twp_resolve.proofs.ranges.check_land.Given as goal

-- there is land in the sections so far
abbrev pub invariant-loop-number : goal.invariant-loop-number
invariant-loop-number g l = record {
  least : l.first.value ≤ l.number;
  have : (section : ℕ) → l.first.value ≤ section → section < l.number
      → HasLand (lotting (g.P.Lotting.layout l.lots)) section;
}
