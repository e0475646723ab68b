-- The answers were put there, or the list is refused as a whole, or memory ran out.
use Rattle.std.proofs.Common.{sym, subst}
use Rattle.twp_answers.specs.EachTract.{AnswersByTable}
use Rattle.twp_calls.specs.Calls.{Answers, accepted}
use Rattle.twp_calls.specs.EachCalls.{HasAnswers, IsWholeListRefused}
use Rattle.twp_calls.specs.LotCalls.{by_lots}
use Rattle.twp_calls.proofs.EachFacts.{has_answers, stopped_whole}
use Rattle.twp_calls.proofs.lots_each_call.township_lots_report_each.Goals as goal

pub returns-in-Ok-clause-answer : goal.returns-in-Ok-clause-answer
returns-in-Ok-clause-answer c =
    by_lots c.in-Some.township c.in-Some.ensures
    (accepted (has_answers (AnswersByTable c.in-Some.township c.args.lots.now.lots) c.args.list.now
    c.as_slice.result.now c.args.answers.now c.put_answers.new.answers c.put_answers.result
    c.in-Ok.ensures.list (rw c.as_slice.ensures.value c.in-Ok.ensures.answers) c.put_answers.ensures.put))

pub returns-in-Err-clause-answer : goal.returns-in-Err-clause-answer
returns-in-Err-clause-answer c =
    by_lots c.in-Some.township c.in-Some.ensures
    (subst (Answers (HasAnswers (AnswersByTable c.in-Some.township c.args.lots.now.lots) c.args.list.now
    c.args.answers.now c.args.answers.now) (IsWholeListRefused c.args.list.now)) (sym c.of_fault.ensures)
    (stopped_whole _ c.args.list.now c.in-Err.fault c.in-Err.ensures.fault))
