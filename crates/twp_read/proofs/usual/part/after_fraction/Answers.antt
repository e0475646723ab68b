use Rattle.std.proofs.Common.{refl}
use Rattle.twp_read.proofs.Leading.{half_leads, quarter_leads}
use Rattle.twp_read.proofs.usual.part.after_fraction.Goals as goal

pub returns-in-Side : goal.returns-in-Side
returns-in-Side c =
    rw (c.in-Side.is, c.after_chain_step.ensures) (λ items.
    half_leads c.args.text.now c.args.from.at items (c.if-goes_on.ensures.spelled refl)
    (c.if-goes_on.ensures.within refl))

pub returns-in-Corner : goal.returns-in-Corner
returns-in-Corner c =
    rw (c.in-Corner.is, c.after_chain_step-in-Corner.ensures) (λ items.
    quarter_leads c.args.text.now c.args.from.at items (c.if-goes_on-2.ensures.spelled refl)
    (c.if-goes_on-2.ensures.within refl))
