-- A regular township has land at each place of a section.
use Rattle.std.proofs.Common.{ap, ◌∙◌}
use Rattle.twp_grid.specs.Lands.{union}
use Rattle.twp_land.proofs.LottingFacts.{standard_section, section_apart, section_met}
use Rattle.twp_land.proofs.lotting.StandardLotsLotting.add_section.Goals as goal

pub returns-clause-apart : goal.returns-clause-apart
returns-clause-apart g c is =
    section_apart (g.S.PlaceSet.places c.args.set.now) c.args.section c.whole.result c.whole.ensures
    (c.add_apart.ensures.apart is)

pub returns-clause-met : goal.returns-clause-met
returns-clause-met g c is =
    section_met (g.S.PlaceSet.places c.args.set.now) c.args.section c.whole.result c.whole.ensures
    (c.add_apart.ensures.met is)

pub returns-clause-places : goal.returns-clause-places
returns-clause-places g c is =
    c.add_apart.ensures.places is
    ∙ ap (λ p. union (g.S.PlaceSet.places c.args.set.now) p)
    (standard_section c.args.section c.whole.result c.whole.ensures)
