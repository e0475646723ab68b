use Rattle.std.proofs.Common.{◌≡◌, length}
use Rattle.std.specs.List.{SameFrom}
use Rattle.twp_calls.specs.Calls.{IsAcresCall}
use Rattle.twp_calls.specs.ManyAnswers.{AreManyAnswersTo}
use Rattle.twp_calls.proofs.many.township_acres_many.Given as goal

-- the descriptions so far are answered
abbrev pub invariant-loop-index : goal.invariant-loop-index
invariant-loop-index l = record {
  length_is : length l.answers ≡ length l.fn.answers;
  answers : AreManyAnswersTo (λ text. IsAcresCall l.plat text l.account) l.descriptions l.offsets l.index
      l.answers;
  kept : SameFrom l.fn.answers l.answers l.index;
}
