-- The answer by a lot table to each tract of a list, whatever is wrong with the others.
use Rattle.std.specs.Prelude.{ℕ, List}
use Rattle.twp_answers.specs.EachTract.{AnswersByTable}
use Rattle.twp_calls.specs.Calls.{Answers}
use Rattle.twp_calls.specs.EachCalls.{HasAnswers, IsWholeListRefused}
use Rattle.twp_calls.specs.LotCalls.{ByLots}
use Rattle.twp_calls.specs.declared.answer.TownshipAnswer.{TownshipAnswer}
use Rattle.twp_calls.specs.declared.each_call.TownshipTractAnswer.{TownshipTractAnswer}
use Rattle.twp_calls.specs.declared.lots.TownshipLots.{TownshipLots as GivenLots}

-- `township_lots_report_each`: the answer to each tract of the list
abbrev pub IsLotsEachCall : GivenLots → List ℕ → List TownshipTractAnswer → List TownshipTractAnswer
    → TownshipAnswer → Type 0
IsLotsEachCall given list old new = ByLots given (λ township.
    Answers (HasAnswers (AnswersByTable township given.lots) list old new) (IsWholeListRefused list))
