use Rattle.std.proofs.Common.{◌≡◌, ℕ, ◌<◌, ◌≤◌, true}
use Rattle.twp_suggest.proofs.meaning.named.is_on_land.Given as goal

-- the plat has land at each place in the sections so far
abbrev pub invariant-loop-number : goal.invariant-loop-number
invariant-loop-number g l = record {
  least : 1 ≤ l.number;
  on_land : (section column row : ℕ) → section < l.number
      → g.L.PlaceSet.places l.land section column row ≡ true
      → (g.P.Lotting.layout l.lots).has_land section column row ≡ true;
}
