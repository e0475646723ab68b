-- Lot by lot, the added places grow by those of a lot that shares none with the land before.
use Rattle.std.proofs.Common.{◌≡◌, ◌-◌, ◌+◌, IsTrue, subst, arith}
use Rattle.twp_grid.specs.Lands.{lotting, lot_places}
use Rattle.twp_resolve.specs.steps.ResolvingSteps.{lots_from, AreAdded}
use Rattle.twp_resolve.proofs.RangeFacts.{added_none, more_added, next_lot, no_lots, number_of_lot}
use Rattle.twp_suggest.proofs.meaning.named.add_lots.Goals as goal

pub overflow_add-lot-end : goal.overflow_add-lot-end
overflow_add-lot-end g c =
    let last =
    number_of_lot (lotting (g.P.Lotting.layout c.args.lots.now)) c.args.section c.args.last
    (g.met.P.Lotting.lots c.args.lots.now)
    (c.requires.have c.args.last c.requires.order (omega arith)) in
    omega (arith, last.1)

pub loop-lot-init : goal.loop-lot-init
loop-lot-init g c =
    let lots = lotting (g.P.Lotting.layout c.args.lots.now) in
    let first =
    number_of_lot lots c.args.section c.args.first (g.met.P.Lotting.lots c.args.lots.now)
    (c.requires.have c.args.first (omega arith) c.requires.order) in
    record {
      least = omega arith;
      added =
          added_none (lots_from lots c.args.section c.args.first (c.args.first - 1))
          (g.L.PlaceSet.places c.args.land.now)
          (no_lots lots c.args.section c.args.first (c.args.first - 1) (omega (arith, first.0)));
    }

pub overflow_cast-lot : goal.overflow_cast-lot
overflow_cast-lot g c =
    let number =
    number_of_lot (lotting (g.P.Lotting.layout c.args.lots.now)) c.args.section c.loop-lot.lot
    (g.met.P.Lotting.lots c.args.lots.now)
    (c.requires.have c.loop-lot.lot c.loop-lot.invariant.least (omega arith)) in
    omega (arith, number.1)

pub add_lot-requires-clause-room : goal.add_lot-requires-clause-room
add_lot-requires-clause-room g c = g.met.L.Land.roomy c.loop-lot.land c.args.section

pub add_lot-requires-clause-lot : goal.add_lot-requires-clause-lot
add_lot-requires-clause-lot g c =
    c.requires.have c.loop-lot.lot c.loop-lot.invariant.least (omega arith)

pub loop-lot-preserved : goal.loop-lot-preserved
loop-lot-preserved g c =
    let lots = lotting (g.P.Lotting.layout c.args.lots.now) in
    let so_far = c.loop-lot.invariant in
    let first =
    number_of_lot lots c.args.section c.args.first (g.met.P.Lotting.lots c.args.lots.now)
    (c.requires.have c.args.first (omega arith) c.requires.order) in
    let next : c.loop-lot.lot ≡ c.loop-lot.lot + 1 - 1 = omega arith in
    let is : IsTrue c.add_lot.result = cc (c.if-not-add_lot.false) in
    record {
      least = omega (arith, so_far.least);
      added = subst (λ n.
          AreAdded (lots_from lots c.args.section c.args.first n) (g.L.PlaceSet.places c.args.land.now)
          (g.L.PlaceSet.places c.add_lot.new.set)) next
          (more_added (lots_from lots c.args.section c.args.first (c.loop-lot.lot - 1))
          (lots_from lots c.args.section c.args.first c.loop-lot.lot)
          (g.L.PlaceSet.places c.args.land.now) (g.L.PlaceSet.places c.loop-lot.land)
          (g.L.PlaceSet.places c.add_lot.new.set) (lot_places lots c.args.section c.loop-lot.lot)
          so_far.added (c.add_lot.ensures.apart is) (c.add_lot.ensures.places is)
          (next_lot lots c.args.section c.args.first c.loop-lot.lot
          (omega (arith, first.0, so_far.least)) so_far.least));
    }

pub returns : goal.returns
returns g c =
    let all : c.loop-lot.lot - 1 ≡ c.args.last = omega (arith, c.requires.order) in
    subst (λ n.
    AreAdded (lots_from (lotting (g.P.Lotting.layout c.args.lots.now)) c.args.section c.args.first n)
    (g.L.PlaceSet.places c.args.land.now)
    (g.L.PlaceSet.places c.loop-lot.land)) all c.loop-lot.invariant.added
