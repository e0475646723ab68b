use Rattle.std.proofs.Common.{ℕ, ◌≤◌, ◌-◌}
use Rattle.twp_grid.specs.Lands.{IsWholeOrNot, LOT_NUMBER_MOST, lotting}
use Rattle.twp_diagnose.proofs.section_lots.holds_whole_lots.Given as goal

-- the lots so far are held wholly or not at all
abbrev pub invariant-loop-number : goal.invariant-loop-number
invariant-loop-number g l = record {
  most : l.last ≤ LOT_NUMBER_MOST;
  whole : (lot : ℕ) → lot ≤ l.last
      → IsWholeOrNot (lotting (g.P.Lotting.layout l.lots)) l.section lot
      (g.L.PlaceSet.places l.land l.section);
}

abbrev pub decreases-loop-number : goal.decreases-loop-number
decreases-loop-number g l = LOT_NUMBER_MOST - l.last
