-- What is unread was put there.
use Rattle.std.proofs.Common.{subst}
use Rattle.twp_calls.specs.UnreadCalls.{AreStretchesPut, unread_found}
use Rattle.twp_calls.proofs.unread.township_unread.Goals as goal

pub returns-in-Ok-clause-answer : goal.returns-in-Ok-clause-answer
returns-in-Ok-clause-answer c =
    unread_found c.in-Ok.found.items c.in-Ok.ensures
    (subst (λ list. AreStretchesPut list c.args.unread.now c.put_stretches.new.room c.put_stretches.result)
    c.as_slice.ensures.value c.put_stretches.ensures.put)
