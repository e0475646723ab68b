use Rattle.std.proofs.Common.{◌≤◌, ◌-◌}
use Rattle.twp_grid.specs.Lands.{LOT_NUMBER_MOST, HasLot, lotting}
use Rattle.twp_sentences.proofs.descriptions.places.words.gap_around.Given as goal

-- each number so far is a lot's
abbrev pub invariant-loop-section : goal.invariant-loop-section
invariant-loop-section g l = record {
  has : HasLot (lotting (g.P.Lotting.layout l.lots)) l.section l.before;
  most : l.before ≤ LOT_NUMBER_MOST;
}

abbrev pub decreases-loop-section : goal.decreases-loop-section
decreases-loop-section g l = LOT_NUMBER_MOST - l.before
