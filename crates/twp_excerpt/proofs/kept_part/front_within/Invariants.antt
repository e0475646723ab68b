use Rattle.std.proofs.Common.{length, ◌-◌, ◌≤◌}
use Rattle.twp_excerpt.proofs.FitFacts.{FrontSoFar}
use Rattle.twp_excerpt.proofs.kept_part.front_within.Given as goal

-- the signs so far fit, and the prefix continues with those that fit in the room that is left
abbrev pub invariant-loop-at : goal.invariant-loop-at
invariant-loop-at l = record {
  within : l.at ≤ length l.bytes;
  fits : l.columns ≤ l.room;
  so_far : FrontSoFar l.bytes l.room l.at l.columns;
}

abbrev pub decreases-loop-at : goal.decreases-loop-at
decreases-loop-at l = length l.bytes - l.at
