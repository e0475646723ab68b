use Rattle.std.proofs.Common.{refl}
use Rattle.twp_read.proofs.Leading.{of_the_leads}
use Rattle.twp_read.proofs.usual.part.after_of_the.Goals as goal

pub returns-in-Step-clause-leads : goal.returns-in-Step-clause-leads
returns-in-Step-clause-leads c =
    rw c.in-Step.is (λ items.
    of_the_leads c.args.text.now c.args.end.at items (c.if-goes_on.ensures.spelled refl)
    (c.if-goes_on.ensures.within refl))
