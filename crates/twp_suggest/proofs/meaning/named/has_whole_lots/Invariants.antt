use Rattle.std.proofs.Common.{ℕ, ◌<◌, ◌≤◌}
use Rattle.twp_grid.specs.Lands.{IsWholeOrNot, lotting}
use Rattle.twp_suggest.proofs.meaning.named.has_whole_lots.Given as goal

-- each lot of the sections so far is held wholly or not at all
abbrev pub invariant-loop-number : goal.invariant-loop-number
invariant-loop-number g l = record {
  least : 1 ≤ l.number;
  whole : (section lot : ℕ) → section < l.number
      → IsWholeOrNot (lotting (g.P.Lotting.layout l.lots)) section lot (g.L.PlaceSet.places l.land section);
}
