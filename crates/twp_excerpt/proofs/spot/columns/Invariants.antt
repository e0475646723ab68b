use Rattle.std.proofs.Common.{◌≡◌, ◌+◌, ◌-◌, ◌≤◌, drop, length}
use Rattle.twp_excerpt.specs.Spots.{columns}
use Rattle.twp_excerpt.proofs.spot.columns.Given as goal

-- the columns counted so far and the remaining ones make the total
abbrev pub invariant-loop-at : goal.invariant-loop-at
invariant-loop-at l = record {
  within : l.at ≤ length l.bytes;
  counted : l.count + columns (drop l.at l.bytes) ≡ columns l.bytes;
  few : l.count ≤ l.at;
}

abbrev pub decreases-loop-at : goal.decreases-loop-at
decreases-loop-at l = length l.bytes - l.at
