use Rattle.std.proofs.Common.{refl}
use Rattle.twp_read.proofs.Leading.{and_leads}
use Rattle.twp_read.proofs.usual.part.after_and.Goals as goal

pub returns-in-PartComma-clause-leads : goal.returns-in-PartComma-clause-leads
returns-in-PartComma-clause-leads c =
    rw c.in-PartComma.is (λ items.
    and_leads c.args.text.now c.args.comma.at items (c.if-goes_on.ensures.spelled refl)
    (c.if-goes_on.ensures.within refl))
