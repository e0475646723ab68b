-- The figures were put there, or the list is refused, or memory ran out.
use Rattle.std.proofs.Common.{sym, subst}
use Rattle.twp_calls.specs.Accounts.{AnswersAccount}
use Rattle.twp_calls.specs.Calls.{Answers, IsRefusedList, accepted, on_plat}
use Rattle.twp_calls.proofs.CallFacts.{stopped_list}
use Rattle.twp_calls.proofs.account_call.township_account.Goals as goal

pub returns-in-Ok-clause-answer : goal.returns-in-Ok-clause-answer
returns-in-Ok-clause-answer c =
    on_plat c.in-Some.plat c.in-Some.ensures
    (accepted (c.put_figures.ensures.has c.in-Some.plat c.args.list.now
    (rw c.as_slice.ensures.value c.in-Ok.ensures.account)
    (rw c.as_slice.ensures.value c.in-Ok.ensures.count)))

pub returns-in-Err-clause-answer : goal.returns-in-Err-clause-answer
returns-in-Err-clause-answer c =
    on_plat c.in-Some.plat c.in-Some.ensures
    (subst (Answers
    (AnswersAccount c.in-Some.plat c.args.list.now c.args.tracts.now c.args.tracts.now c.args.totals.now)
    (IsRefusedList c.in-Some.plat c.args.list.now)) (sym c.of_fault.ensures)
    (stopped_list _ c.in-Some.plat c.args.list.now c.in-Err.fault c.in-Err.ensures.fault))
