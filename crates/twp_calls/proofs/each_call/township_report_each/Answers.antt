-- The answers were put there, or the list is refused as a whole, or memory ran out.
use Rattle.std.proofs.Common.{sym, subst}
use Rattle.twp_answers.specs.EachTract.{AnswersOnPlat}
use Rattle.twp_calls.specs.Calls.{Answers, accepted, on_plat}
use Rattle.twp_calls.specs.EachCalls.{HasAnswers, IsWholeListRefused}
use Rattle.twp_calls.proofs.EachFacts.{has_answers, stopped_whole}
use Rattle.twp_calls.proofs.each_call.township_report_each.Goals as goal

pub returns-in-Ok-clause-answer : goal.returns-in-Ok-clause-answer
returns-in-Ok-clause-answer c =
    on_plat c.in-Some.plat c.in-Some.ensures
    (accepted (has_answers (AnswersOnPlat c.in-Some.plat) c.args.list.now c.as_slice.result.now
    c.args.answers.now c.put_answers.new.answers c.put_answers.result c.in-Ok.ensures.list
    (rw c.as_slice.ensures.value c.in-Ok.ensures.answers) c.put_answers.ensures.put))

pub returns-in-Err-clause-answer : goal.returns-in-Err-clause-answer
returns-in-Err-clause-answer c =
    on_plat c.in-Some.plat c.in-Some.ensures
    (subst
    (Answers (HasAnswers (AnswersOnPlat c.in-Some.plat) c.args.list.now c.args.answers.now c.args.answers.now)
    (IsWholeListRefused c.args.list.now)) (sym c.of_fault.ensures)
    (stopped_whole _ c.args.list.now c.in-Err.fault c.in-Err.ensures.fault))
