use Rattle.std.proofs.Common.{refl}
use Rattle.twp_read.proofs.Leading.{comma_space_leads, comma_leads}
use Rattle.twp_read.proofs.usual.part.after_comma.Goals as goal

pub returns-in-Step : goal.returns-in-Step
returns-in-Step c =
    rw c.in-Step.is (λ items.
    comma_space_leads c.args.text.now c.args.end.at items (c.if-goes_on.ensures.spelled refl)
    (c.if-goes_on.ensures.within refl))

pub returns-in-Step-2 : goal.returns-in-Step-2
returns-in-Step-2 c =
    rw c.in-Step-2.is (λ items.
    comma_leads c.args.text.now c.args.end.at c.after_white.result items
    (c.if-goes_on-2.ensures.spelled refl)
    (c.if-goes_on-2.ensures.within refl) c.after_white.ensures.value c.after_white.ensures.range)
