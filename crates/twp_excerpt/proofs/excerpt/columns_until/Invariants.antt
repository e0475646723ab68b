use Rattle.std.proofs.Common.{length, ◌-◌, ◌≤◌}
use Rattle.twp_excerpt.proofs.BegunFacts.{BegunSoFar}
use Rattle.twp_excerpt.proofs.excerpt.columns_until.Given as goal

-- the columns so far, and those of the signs that begin between here and the place
abbrev pub invariant-loop-at : goal.invariant-loop-at
invariant-loop-at l = record {
  within : l.at ≤ length l.bytes;
  few : l.columns ≤ 112;
  so_far : BegunSoFar l.bytes l.place l.at l.columns;
}

abbrev pub decreases-loop-at : goal.decreases-loop-at
decreases-loop-at l = length l.bytes - l.at
