use Rattle.std.proofs.Common.{refl}
use Rattle.twp_read.proofs.FrontFacts.{comma_lots_leads, lots_leads}
use Rattle.twp_read.proofs.usual.section.after_lots.Goals as goal

pub returns-in-SectionNumber-clause-leads : goal.returns-in-SectionNumber-clause-leads
returns-in-SectionNumber-clause-leads c items =
    rw (c.in-SectionNumber.is)
    (comma_lots_leads c.args.text.now c.args.from.at items (c.if-goes_on.ensures.spelled refl)
    (c.if-goes_on.ensures.within refl))

pub returns-in_default-clause-leads : goal.returns-in_default-clause-leads
returns-in_default-clause-leads c items =
    lots_leads c.args.text.now c.args.from.at c.args.from.state items c.if-begins_part.ensures
    (c.if-goes_on-2.ensures.spelled refl) (c.if-goes_on-2.ensures.within refl)
