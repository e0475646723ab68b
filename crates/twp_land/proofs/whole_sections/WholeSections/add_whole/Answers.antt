-- The section is added to the set, which doesn't contain it.
use Rattle.std.proofs.Common.{◌∙◌, ap, arith}
use Rattle.twp_land.specs.Storage.{held_by_section, all_if}
use Rattle.twp_land.proofs.WholeFacts.{whole_added, whole_apart}
use Rattle.twp_land.proofs.whole_sections.WholeSections.add_whole.Goals as goal

pub returns-clause-apart : goal.returns-clause-apart
returns-clause-apart c = λ _.
    whole_apart (held_by_section all_if c.args.self.now.held) c.args.section
    (c.has.ensures ∙ ap (λ is. all_if is) c.if-has.false)

pub returns-clause-places : goal.returns-clause-places
returns-clause-places c = λ _.
    let at = c.number.ensures in
    rw (c.from-index.ensures, at.value)
    (whole_added c.args.self.now.held c.args.section (rw at.value at at.range) (omega arith)
    (c.has.ensures ∙ ap (λ is. all_if is) c.if-has.false))
