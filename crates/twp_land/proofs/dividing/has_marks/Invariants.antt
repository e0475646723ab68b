use Rattle.std.proofs.Common.{◌≡◌, ℕ, ◌<◌, false, get_or}
use Rattle.twp_land.proofs.dividing.has_marks.Given as goal

-- if none of the places so far has a mark
abbrev pub invariant-loop-number : goal.invariant-loop-number
invariant-loop-number l = record {
  free : l.is_marked ≡ false → (number : ℕ) → number < l.number → get_or l.marks number 0 ≡ 0;
}
