-- The order, the first lot, the others, and then the places.
use Rattle.std.proofs.lemmas.Result.{err_from_is_err_and}
use Rattle.twp_resolve.proofs.RangeFaults.{lots_backward, lots_no_first, lots_no_last, lots_taken}
use Rattle.twp_resolve.proofs.RangeFaults.{lots_refused}
use Rattle.twp_resolve.proofs.ranges.resolve_lots.Goals as goal

pub returns-in_err-check_order-clause-refused : goal.returns-in_err-check_order-clause-refused
returns-in_err-check_order-clause-refused g c =
    let gone = err_from_is_err_and c.from_residual.result c.from_residual.ensures.1 in
    rw (gone.1, gone.2, (c.in_err-check_order.ensures).0)
    (lots_backward (g.P.Lotting.layout c.args.lots.now) c.args.section c.args.first c.args.last
    (g.L.PlaceSet.places c.args.land.now) (c.in_err-check_order.ensures).1)

pub returns-then-not-has_lot-clause-refused : goal.returns-then-not-has_lot-clause-refused
returns-then-not-has_lot-clause-refused g c =
    lots_no_first (g.P.Lotting.layout c.args.lots.now) c.args.section c.args.first c.args.last
    (g.L.PlaceSet.places c.args.land.now) c.in_ok-check_order.ensures
    (λ has. cc (c.has_lot.ensures.1 has, c.if-not-has_lot.true))

pub returns-then-not-has_lots-clause-refused : goal.returns-then-not-has_lots-clause-refused
returns-then-not-has_lots-clause-refused g c =
    lots_no_last (g.P.Lotting.layout c.args.lots.now) c.args.section c.args.first c.args.last
    (g.L.PlaceSet.places c.args.land.now) c.in_ok-check_order.ensures
    (c.has_lot.ensures.0 (cc c.if-not-has_lot.false))
    (λ have. cc (c.has_lots.ensures.1 have, c.if-not-has_lots.true))

pub add_lots-requires-clause-have : goal.add_lots-requires-clause-have
add_lots-requires-clause-have g c = c.has_lots.ensures.0 (cc c.if-not-has_lots.false)

pub returns-clause-taken : goal.returns-clause-taken
returns-clause-taken g c =
    lots_taken (g.P.Lotting.layout c.args.lots.now) c.add_lots.result c.args.section c.args.first c.args.last
    (g.L.PlaceSet.places c.args.land.now) (g.L.PlaceSet.places c.add_lots.new.land)
    c.in_ok-check_order.ensures (c.has_lots.ensures.0 (cc c.if-not-has_lots.false)) c.add_lots.ensures

pub returns-clause-refused : goal.returns-clause-refused
returns-clause-refused g c =
    lots_refused (g.P.Lotting.layout c.args.lots.now) c.add_lots.result c.args.section c.args.first
    c.args.last
    (g.L.PlaceSet.places c.args.land.now) (g.L.PlaceSet.places c.add_lots.new.land)
    c.in_ok-check_order.ensures (c.has_lots.ensures.0 (cc c.if-not-has_lots.false)) c.add_lots.ensures
