-- Lot by lot, the added places grow by those of a lot that shares none with the land before.
use Rattle.std.proofs.Common.{◌≡◌, ◌-◌, ◌+◌, ◌≤◌, IsTrue, refl, ap, subst, ◌∙◌, arith}
use Rattle.twp_grid.specs.Lands.{lotting, lot_places}
use Rattle.twp_resolve.specs.steps.ResolvingSteps.{lots_from, AreAdded}
use Rattle.twp_resolve.proofs.RangeFacts.{added_none, no_lots, more_added, more_stuck, next_lot, in_next_lot}
use Rattle.twp_resolve.proofs.RangeFacts.{number_of_lot}
use Rattle.twp_resolve.proofs.ranges.add_lots.Goals as goal

pub overflow_add-number-end : goal.overflow_add-number-end
overflow_add-number-end g c =
    let last =
    number_of_lot (lotting (g.P.Lotting.layout c.args.lots.now)) c.args.section c.args.last
    (g.met.P.Lotting.lots c.args.lots.now)
    (c.requires.have c.args.last c.requires.order (omega arith)) in
    omega (arith, last.1)

pub loop-number-init : goal.loop-number-init
loop-number-init g c =
    let first =
    number_of_lot (lotting (g.P.Lotting.layout c.args.lots.now)) c.args.section c.args.first
    (g.met.P.Lotting.lots c.args.lots.now)
    (c.requires.have c.args.first (omega arith) c.requires.order) in
    record {
      least = omega arith;
      added =
          added_none
          (lots_from (lotting (g.P.Lotting.layout c.args.lots.now)) c.args.section c.args.first
          (c.args.first - 1))
          (g.L.PlaceSet.places c.args.land.now)
          (no_lots (lotting (g.P.Lotting.layout c.args.lots.now)) c.args.section c.args.first
          (c.args.first - 1) (omega (arith, first.0)));
      room = refl;
    }

pub overflow_cast-number : goal.overflow_cast-number
overflow_cast-number g c =
    let number =
    number_of_lot (lotting (g.P.Lotting.layout c.args.lots.now)) c.args.section c.loop-number.number
    (g.met.P.Lotting.lots c.args.lots.now)
    (c.requires.have c.loop-number.number c.loop-number.invariant.least (omega arith)) in
    omega (arith, number.1)

pub add_lot-requires-clause-room : goal.add_lot-requires-clause-room
add_lot-requires-clause-room g c =
    ap (λ has_room. has_room c.args.section) c.loop-number.invariant.room ∙ c.requires.room

pub add_lot-requires-clause-lot : goal.add_lot-requires-clause-lot
add_lot-requires-clause-lot g c =
    c.requires.have c.loop-number.number c.loop-number.invariant.least (omega arith)

pub returns-then-not-add_lot : goal.returns-then-not-add_lot
returns-then-not-add_lot g c =
    let so_far = c.loop-number.invariant in
    let first =
    number_of_lot (lotting (g.P.Lotting.layout c.args.lots.now)) c.args.section c.args.first
    (g.met.P.Lotting.lots c.args.lots.now)
    (c.requires.have c.args.first (omega arith) c.requires.order) in (
      refl,
      more_stuck
          (lots_from (lotting (g.P.Lotting.layout c.args.lots.now)) c.args.section c.args.first
          (c.loop-number.number - 1))
          (lots_from (lotting (g.P.Lotting.layout c.args.lots.now)) c.args.section c.args.first c.args.last)
          (g.L.PlaceSet.places c.args.land.now) (g.L.PlaceSet.places c.loop-number.land)
          (lot_places (lotting (g.P.Lotting.layout c.args.lots.now)) c.args.section c.loop-number.number)
          so_far.added (c.add_lot.ensures.met (cc c.if-not-add_lot.true))
          (in_next_lot (lotting (g.P.Lotting.layout c.args.lots.now)) c.args.section c.args.first
          c.loop-number.number c.args.last
          (omega (arith, first.0, so_far.least)) so_far.least (omega arith)),
    )

pub loop-number-preserved : goal.loop-number-preserved
loop-number-preserved g c =
    let so_far = c.loop-number.invariant in
    let first =
    number_of_lot (lotting (g.P.Lotting.layout c.args.lots.now)) c.args.section c.args.first
    (g.met.P.Lotting.lots c.args.lots.now)
    (c.requires.have c.args.first (omega arith) c.requires.order) in
    let next : c.loop-number.number ≡ c.loop-number.number + 1 - 1 = omega arith in
    let is : IsTrue c.add_lot.result = cc (c.if-not-add_lot.false) in
    record {
      least = omega (arith, so_far.least);
      added = subst (λ n.
          AreAdded (lots_from (lotting (g.P.Lotting.layout c.args.lots.now)) c.args.section c.args.first n)
          (g.L.PlaceSet.places c.args.land.now) (g.L.PlaceSet.places c.add_lot.new.set)) next
          (more_added
          (lots_from (lotting (g.P.Lotting.layout c.args.lots.now)) c.args.section c.args.first
          (c.loop-number.number - 1))
          (lots_from (lotting (g.P.Lotting.layout c.args.lots.now)) c.args.section c.args.first
          c.loop-number.number)
          (g.L.PlaceSet.places c.args.land.now) (g.L.PlaceSet.places c.loop-number.land)
          (g.L.PlaceSet.places c.add_lot.new.set)
          (lot_places (lotting (g.P.Lotting.layout c.args.lots.now)) c.args.section c.loop-number.number)
          so_far.added (c.add_lot.ensures.apart is) (c.add_lot.ensures.places is)
          (next_lot (lotting (g.P.Lotting.layout c.args.lots.now)) c.args.section c.args.first
          c.loop-number.number
          (omega (arith, first.0, so_far.least)) so_far.least));
      room = c.add_lot.ensures.room ∙ so_far.room;
    }

pub returns : goal.returns
returns g c =
    let all : c.loop-number.number - 1 ≡ c.args.last = omega (arith, c.requires.order) in
    subst (λ n.
    AreAdded (lots_from (lotting (g.P.Lotting.layout c.args.lots.now)) c.args.section c.args.first n)
    (g.L.PlaceSet.places c.args.land.now)
    (g.L.PlaceSet.places c.loop-number.land)) all c.loop-number.invariant.added
