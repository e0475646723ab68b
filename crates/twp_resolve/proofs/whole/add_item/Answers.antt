use Rattle.twp_resolve.proofs.whole.add_item.Goals as goal

pub returns-then-whole : goal.returns-then-whole
returns-then-whole c = λ is section.
    rw (c.in-Sections.is, c.if-whole.true) (c.add_run.ensures is c.args.township section)
