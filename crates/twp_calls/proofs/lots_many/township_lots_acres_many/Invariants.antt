use Rattle.std.proofs.Common.{◌≡◌, length}
use Rattle.std.specs.List.{SameFrom}
use Rattle.twp_calls.specs.LotCalls.{IsLotsAcresCall}
use Rattle.twp_calls.specs.ManyAnswers.{AreManyAnswersTo}
use Rattle.twp_calls.proofs.lots_many.township_lots_acres_many.Given as goal

-- the descriptions so far are answered
abbrev pub invariant-loop-index : goal.invariant-loop-index
invariant-loop-index l = record {
  length_is : length l.answers ≡ length l.fn.answers;
  answers : AreManyAnswersTo (IsLotsAcresCall l.lots) l.descriptions l.offsets l.index l.answers;
  kept : SameFrom l.fn.answers l.answers l.index;
}
