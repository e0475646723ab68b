use Rattle.std.proofs.Common.{refl}
use Rattle.twp_read.proofs.FrontFacts.{west_leads, east_leads}
use Rattle.twp_read.proofs.usual.heading.range_side.Goals as goal

pub returns-then-goes_on : goal.returns-then-goes_on
returns-then-goes_on c items =
    west_leads c.args.text.now c.args.at items (c.if-goes_on.ensures.spelled refl)
    (c.if-goes_on.ensures.within refl)

pub returns-then-goes_on-2 : goal.returns-then-goes_on-2
returns-then-goes_on-2 c items =
    east_leads c.args.text.now c.args.at items (c.if-goes_on-2.ensures.spelled refl)
    (c.if-goes_on-2.ensures.within refl)
