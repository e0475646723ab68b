use Rattle.std.proofs.Common.{string_bytes, replicate}
use Rattle.twp_excerpt.specs.Shown.{AddsShown}
use Rattle.twp_excerpt.proofs.AddingFacts.{AddedSoFar}
use Rattle.twp_excerpt.proofs.excerpt.push_many.Given as goal

abbrev pub invariant-loop-left : goal.invariant-loop-left
invariant-loop-left l = record {
  safe : AddsShown (string_bytes l.initial.out) (string_bytes l.out);
  added : AddedSoFar (replicate l.count l.character) (replicate l.left l.character)
      (string_bytes l.initial.out) (string_bytes l.out);
}

abbrev pub decreases-loop-left : goal.decreases-loop-left
decreases-loop-left l = l.left
