use Rattle.std.proofs.Common.{◌≤◌, ◌-◌}
use Rattle.twp_grid.specs.Lands.{LOT_NUMBER_MOST}
use Rattle.twp_sentences.proofs.descriptions.places.words.write_ranges.Given as goal

-- the lots so far have numbers up to the highest
abbrev pub invariant-loop-range : goal.invariant-loop-range
invariant-loop-range g l = l.last ≤ LOT_NUMBER_MOST

abbrev pub decreases-loop-range : goal.decreases-loop-range
decreases-loop-range g l = LOT_NUMBER_MOST - l.last
