use Rattle.std.proofs.Common.{ap, subst, sym, ◌∙◌}
use Rattle.twp_grid.specs.Lands.{SharePlace, union}
use Rattle.twp_land.proofs.MarkedLots.{lot_places_are}
use Rattle.twp_land.proofs.OnlyLots.{only_apart, only_lot, only_shared}
use Rattle.twp_land.proofs.lot_map.LotMapLotting.add_lot.Goals as goal

pub returns-clause-apart : goal.returns-clause-apart
returns-clause-apart g c is shared =
    let self = c.args.self.now in
    c.add.ensures.apart is
    (subst (λ p. SharePlace (g.S.PlaceSet.places c.args.set.now) p)
    (sym (lot_places_are self.positions self.divided c.args.section c.args.number c.requires.lot)) shared)

pub returns-clause-met : goal.returns-clause-met
returns-clause-met g c is =
    let self = c.args.self.now in
    subst (λ p. SharePlace (g.S.PlaceSet.places c.args.set.now) p)
    (lot_places_are self.positions self.divided c.args.section c.args.number c.requires.lot)
    (c.add.ensures.met is)

pub returns-clause-places : goal.returns-clause-places
returns-clause-places g c is =
    let self = c.args.self.now in
    c.add.ensures.places is
    ∙ ap (λ p. union (g.S.PlaceSet.places c.args.set.now) p)
    (lot_places_are self.positions self.divided c.args.section c.args.number c.requires.lot)

pub returns-in-Some-clause-apart : goal.returns-in-Some-clause-apart
returns-in-Some-clause-apart g c is =
    let self = c.args.self.now in
    only_apart self.positions self.divided (g.S.PlaceSet.places c.args.set.now) c.args.section c.args.number
    c.in-Some.block c.requires.lot c.in-Some.ensures (c.add_apart.ensures.apart is)

pub returns-in-Some-clause-met : goal.returns-in-Some-clause-met
returns-in-Some-clause-met g c is =
    let self = c.args.self.now in
    only_shared self.positions self.divided (g.S.PlaceSet.places c.args.set.now) c.args.section c.args.number
    c.in-Some.block c.requires.lot c.in-Some.ensures (c.add_apart.ensures.met is)

pub returns-in-Some-clause-places : goal.returns-in-Some-clause-places
returns-in-Some-clause-places g c is =
    let self = c.args.self.now in
    c.add_apart.ensures.places is
    ∙ ap (λ p. union (g.S.PlaceSet.places c.args.set.now) p)
    (only_lot self.positions self.divided c.args.section c.args.number c.in-Some.block c.requires.lot
    c.in-Some.ensures)
