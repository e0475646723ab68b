use Rattle.std.proofs.Common.{◌≡◌, length}
use Rattle.std.specs.List.{SameFrom}
use Rattle.twp_calls.specs.FullAnswers.{AreFullAnswersTo, calls_on}
use Rattle.twp_calls.proofs.answer_many.township_answer_many.Given as goal

-- the descriptions so far are answered
abbrev pub invariant-loop-index : goal.invariant-loop-index
invariant-loop-index l = record {
  length_is : length l.answers ≡ length l.fn.answers;
  answers : AreFullAnswersTo (calls_on l.plat l.account) l.descriptions l.offsets l.index l.fn.answers
      l.answers;
  kept : SameFrom l.fn.answers l.answers l.index;
}
