use Rattle.std.proofs.Common.{string_bytes, length, ◌-◌, ◌≤◌}
use Rattle.twp_excerpt.specs.Shown.{AddsShown}
use Rattle.twp_excerpt.specs.Signs.{escaped, written}
use Rattle.twp_excerpt.proofs.AddingFacts.{AddedSoFar}
use Rattle.twp_excerpt.proofs.SoFar.{left_at}
use Rattle.twp_excerpt.proofs.escaped.write_escaped.Given as goal

-- the characters that were added are shown, and are the text so far
abbrev pub invariant-loop-at : goal.invariant-loop-at
invariant-loop-at l = record {
  within : l.at ≤ length l.bytes;
  safe : AddsShown (string_bytes l.initial.out) (string_bytes l.out);
  added : AddedSoFar (escaped l.bytes) (left_at written l.bytes l.at) (string_bytes l.initial.out)
      (string_bytes l.out);
}

abbrev pub decreases-loop-at : goal.decreases-loop-at
decreases-loop-at l = length l.bytes - l.at
