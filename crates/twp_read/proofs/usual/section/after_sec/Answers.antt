use Rattle.std.proofs.Common.{refl, sym}
use Rattle.twp_read.proofs.FrontFacts.{sec_leads, section_leads}
use Rattle.twp_grammar.proofs.StateFacts.{sections_begin}
use Rattle.twp_read.proofs.usual.section.after_sec.Goals as goal

pub returns-then-goes_on-clause-leads : goal.returns-then-goes_on-clause-leads
returns-then-goes_on-clause-leads c items =
    sec_leads c.args.text.now c.args.from.at c.after_white-at.result c.args.from.state items
    (sym (sections_begin c.args.from.state (sym c.if-not-begins_sections.ensures)))
    c.after_white-at.ensures.value (c.if-goes_on.ensures.spelled refl) (c.if-goes_on.ensures.within refl)

pub returns-then-goes_on-2-clause-leads : goal.returns-then-goes_on-2-clause-leads
returns-then-goes_on-2-clause-leads c items =
    section_leads c.args.text.now c.args.from.at c.after_white-at.result c.args.from.state items
    (sym (sections_begin c.args.from.state (sym c.if-not-begins_sections.ensures)))
    c.after_white-at.ensures.value (c.if-goes_on-2.ensures.spelled refl) (c.if-goes_on-2.ensures.within refl)
