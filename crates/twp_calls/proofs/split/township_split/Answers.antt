-- The parts were put there, and there are no others; or there are none.
use Rattle.std.proofs.Common.{subst}
use Rattle.twp_calls.specs.Splits.{split}
use Rattle.twp_calls.specs.UnreadCalls.{AreStretchesPut}
use Rattle.twp_calls.proofs.SplitParts.{only_split}
use Rattle.twp_calls.proofs.SplitCallFacts.{stop_answered}
use Rattle.twp_calls.proofs.split.township_split.Goals as goal

pub returns-in-Ok-clause-answer : goal.returns-in-Ok-clause-answer
returns-in-Ok-clause-answer c =
    split c.in-Ok.found.items c.in-Ok.ensures.split
    (λ other one.
    only_split c.args.description.now c.in-Ok.found.items other c.in-Ok.ensures.split one)
    (subst (λ list. AreStretchesPut list c.args.parts.now c.put_stretches.new.room c.put_stretches.result)
    c.as_slice.ensures.value c.put_stretches.ensures.put)

pub returns-in-Err-clause-answer : goal.returns-in-Err-clause-answer
returns-in-Err-clause-answer c =
    stop_answered c.args.description.now _ _ c.in-Err.stop c.of_stop.result c.in-Err.ensures.refused
    c.of_stop.ensures
