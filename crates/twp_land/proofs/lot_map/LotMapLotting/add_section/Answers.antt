use Rattle.std.proofs.Common.{ap, subst, sym, ◌∙◌}
use Rattle.twp_grid.specs.Lands.{SharePlace, union}
use Rattle.twp_land.proofs.MarkedLots.{section_places_are}
use Rattle.twp_land.proofs.SectionMarks.{whole_apart, whole_met, whole_section}
use Rattle.twp_land.proofs.lot_map.LotMapLotting.add_section.Goals as goal

pub returns-clause-apart : goal.returns-clause-apart
returns-clause-apart g c is shared =
    let self = c.args.self.now in
    c.add.ensures.apart is
    (subst (λ p. SharePlace (g.S.PlaceSet.places c.args.set.now) p)
    (sym (section_places_are self.positions self.divided c.args.section)) shared)

pub returns-clause-met : goal.returns-clause-met
returns-clause-met g c is =
    let self = c.args.self.now in
    subst (λ p. SharePlace (g.S.PlaceSet.places c.args.set.now) p)
    (section_places_are self.positions self.divided c.args.section) (c.add.ensures.met is)

pub returns-clause-places : goal.returns-clause-places
returns-clause-places g c is =
    let self = c.args.self.now in
    c.add.ensures.places is
    ∙ ap (λ p. union (g.S.PlaceSet.places c.args.set.now) p)
    (section_places_are self.positions self.divided c.args.section)

pub returns-then-has_none_from-clause-apart : goal.returns-then-has_none_from-clause-apart
returns-then-has_none_from-clause-apart g c is =
    let self = c.args.self.now in
    whole_apart self.positions self.divided (g.S.PlaceSet.places c.args.set.now) c.args.section
    c.whole.result c.whole.ensures (c.has_none_from.ensures c.if-has_none_from.true)
    (c.add_apart.ensures.apart is)

pub returns-then-has_none_from-clause-met : goal.returns-then-has_none_from-clause-met
returns-then-has_none_from-clause-met g c is =
    let self = c.args.self.now in
    whole_met self.positions self.divided (g.S.PlaceSet.places c.args.set.now) c.args.section
    c.whole.result c.whole.ensures (c.has_none_from.ensures c.if-has_none_from.true)
    (c.add_apart.ensures.met is)

pub returns-then-has_none_from-clause-places : goal.returns-then-has_none_from-clause-places
returns-then-has_none_from-clause-places g c is =
    let self = c.args.self.now in
    c.add_apart.ensures.places is
    ∙ ap (λ p. union (g.S.PlaceSet.places c.args.set.now) p)
    (whole_section self.positions self.divided c.args.section c.whole.result c.whole.ensures
    (c.has_none_from.ensures c.if-has_none_from.true))
