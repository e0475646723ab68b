use Rattle.std.proofs.Common.{◌≡◌, length}
use Rattle.std.specs.List.{SameFrom}
use Rattle.twp_calls.specs.FullAnswers.{AreFullAnswersTo}
use Rattle.twp_calls.specs.LotFullAnswers.{calls_by_lots}
use Rattle.twp_calls.proofs.lots_answer_many.township_lots_answer_many.Given as goal

-- the descriptions so far are answered
abbrev pub invariant-loop-index : goal.invariant-loop-index
invariant-loop-index l = record {
  length_is : length l.answers ≡ length l.fn.answers;
  answers : AreFullAnswersTo (calls_by_lots l.lots) l.descriptions l.offsets l.index l.fn.answers l.answers;
  kept : SameFrom l.fn.answers l.answers l.index;
}
