use Rattle.std.proofs.Common.{string_bytes, length, ◌-◌, ◌≤◌}
use Rattle.twp_excerpt.specs.Excerpts.{line_text}
use Rattle.twp_excerpt.specs.Shown.{AddsShown}
use Rattle.twp_excerpt.specs.Signs.{signs, in_line}
use Rattle.twp_excerpt.proofs.AddingFacts.{AddedSoFar}
use Rattle.twp_excerpt.proofs.SoFar.{left_at}
use Rattle.twp_excerpt.proofs.kept_part.write_in_line.Given as goal

abbrev pub invariant-loop-at : goal.invariant-loop-at
invariant-loop-at l = record {
  within : l.at ≤ length l.bytes;
  safe : AddsShown (string_bytes l.initial.out) (string_bytes l.out);
  added : AddedSoFar (line_text (signs l.bytes)) (left_at in_line l.bytes l.at)
      (string_bytes l.initial.out) (string_bytes l.out);
}

abbrev pub decreases-loop-at : goal.decreases-loop-at
decreases-loop-at l = length l.bytes - l.at
