-- The overlaps were put there, or the list is refused as a whole, or memory ran out.
use Rattle.std.proofs.Common.{sym, subst}
use Rattle.twp_calls.specs.Calls.{Answers, accepted}
use Rattle.twp_calls.specs.EachCalls.{IsWholeListRefused}
use Rattle.twp_calls.specs.LotCalls.{by_lots}
use Rattle.twp_calls.specs.LotOverlapCalls.{HasLotsOverlaps}
use Rattle.twp_calls.proofs.EachFacts.{stopped_whole}
use Rattle.twp_calls.proofs.lots_overlaps_call.township_lots_overlaps.Goals as goal

pub returns-in-Ok-clause-answer : goal.returns-in-Ok-clause-answer
returns-in-Ok-clause-answer c =
    by_lots c.in-Some.township c.in-Some.ensures
    (accepted (record {
      list_is = c.in-Ok.ensures.list;
      overlaps = c.as_slice.result.now;
      are = rw c.as_slice.ensures.value c.in-Ok.ensures.overlaps;
      put = c.put_overlaps.ensures.put;
    }))

pub returns-in-Err-clause-answer : goal.returns-in-Err-clause-answer
returns-in-Err-clause-answer c =
    by_lots c.in-Some.township c.in-Some.ensures
    (subst (Answers (HasLotsOverlaps c.in-Some.township c.args.lots.now.lots c.args.list.now
    c.args.overlaps.now c.args.overlaps.now) (IsWholeListRefused c.args.list.now)) (sym c.of_fault.ensures)
    (stopped_whole _ c.args.list.now c.in-Err.fault c.in-Err.ensures.fault))
