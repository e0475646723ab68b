use Rattle.std.proofs.Common.{◌≤◌, ◌-◌}
use Rattle.twp_grid.specs.Lands.{LOT_NUMBER_MOST}
use Rattle.twp_sentences.proofs.descriptions.places.words.before_gap.Given as goal

-- the lots so far follow one another
abbrev pub invariant-loop-section : goal.invariant-loop-section
invariant-loop-section g l = record { from : l.lot ≤ l.last; most : l.last ≤ LOT_NUMBER_MOST }

abbrev pub decreases-loop-section : goal.decreases-loop-section
decreases-loop-section g l = LOT_NUMBER_MOST - l.last
