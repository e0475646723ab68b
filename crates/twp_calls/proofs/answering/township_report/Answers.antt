-- The account was put there, or the list is refused, or memory ran out.
use Rattle.std.proofs.Common.{sym, subst}
use Rattle.twp_answers.specs.ReportAnswers.{IsAccountOf}
use Rattle.twp_calls.specs.Calls.{Answers, IsTextPut, IsRefusedList, accepted, on_plat}
use Rattle.twp_calls.proofs.CallFacts.{text_put, stopped_list}
use Rattle.twp_calls.proofs.answering.township_report.Goals as goal

pub returns-in-Ok-clause-answer : goal.returns-in-Ok-clause-answer
returns-in-Ok-clause-answer c =
    on_plat c.in-Some.plat c.in-Some.ensures
    (accepted (text_put (IsAccountOf c.in-Some.plat c.args.list.now) _ _ _ _ _ _ c.bare-in-Ok.ensures
    c.deref.ensures.value c.in-Ok.ensures.account c.put.ensures.put))

pub returns-in-Err-clause-answer : goal.returns-in-Err-clause-answer
returns-in-Err-clause-answer c =
    on_plat c.in-Some.plat c.in-Some.ensures
    (subst (Answers
    (IsTextPut (IsAccountOf c.in-Some.plat c.args.list.now) c.args.text.now c.args.text.now)
    (IsRefusedList c.in-Some.plat c.args.list.now)) (sym c.of_fault.ensures)
    (stopped_list _ c.in-Some.plat c.args.list.now c.in-Err.fault c.in-Err.ensures.fault))
