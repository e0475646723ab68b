use Rattle.std.proofs.Common.{◌≡◌, length}
use Rattle.std.specs.List.{SameFrom}
use Rattle.twp_calls.specs.steps.Plain.{ArePlainTo}
use Rattle.twp_calls.proofs.each_call.put_answers.Given as goal

-- the answers so far were put there
abbrev pub invariant-loop-index : goal.invariant-loop-index
invariant-loop-index l = record {
  length_is : length l.answers ≡ length l.fn.answers;
  plain : ArePlainTo l.index l.given l.answers;
  kept : SameFrom l.fn.answers l.answers l.index;
}
