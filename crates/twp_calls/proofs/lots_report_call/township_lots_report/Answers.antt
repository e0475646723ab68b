-- The account was put there, or the list is refused, or memory ran out.
use Rattle.twp_calls.specs.Calls.{accepted}
use Rattle.twp_calls.specs.LotCalls.{by_lots}
use Rattle.twp_calls.proofs.LotReportFacts.{stopped_list_by}
use Rattle.twp_calls.proofs.lots_report_call.township_lots_report.Goals as goal

pub returns-in-Ok-clause-answer : goal.returns-in-Ok-clause-answer
returns-in-Ok-clause-answer c =
    by_lots c.in-Some.township c.in-Some.ensures
    (accepted (c.put_account.ensures.has c.in-Some.township c.args.lots.now.lots c.args.list.now
    (rw c.as_slice.ensures.value c.in-Ok.ensures.account)))

pub returns-in-Err-clause-answer : goal.returns-in-Err-clause-answer
returns-in-Err-clause-answer c =
    by_lots c.in-Some.township c.in-Some.ensures
    (stopped_list_by _ c.in-Some.township c.args.lots.now.lots c.args.list.now c.in-Err.fault _
    c.of_fault.ensures
    c.in-Err.ensures.fault)
