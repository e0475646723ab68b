-- The first section, the last section, the order, and then the places.
use Rattle.std.proofs.Common.{◌≡◌, true}
use Rattle.std.proofs.lemmas.Result.{err_from_is_err_and}
use Rattle.twp_resolve.proofs.RangeFaults.{sections_no_first, sections_no_last, sections_backward}
use Rattle.twp_resolve.proofs.RangeFaults.{sections_no_land, sections_overlap}
use Rattle.twp_resolve.proofs.ranges.resolve_sections.Goals as goal

pub returns-in_err-from-clause-refused : goal.returns-in_err-from-clause-refused
returns-in_err-from-clause-refused g c =
    let gone = err_from_is_err_and c.from_residual.result c.from_residual.ensures.1 in
    rw (gone.1, gone.2, (c.in_err-from.ensures).0)
    (λ township section.
    sections_no_first (g.P.Lotting.layout c.args.lots.now) section c.args.first c.args.last c.args.whole
    (g.L.PlaceSet.places c.args.land.now)
    (c.in_err-from.ensures).1 township)

pub returns-in_err-to-clause-refused : goal.returns-in_err-to-clause-refused
returns-in_err-to-clause-refused g c =
    let gone = err_from_is_err_and c.from_residual-in_err-to.result c.from_residual-in_err-to.ensures.1 in
    rw (gone.1, gone.2, (c.in_err-to.ensures).0)
    (λ township section.
    sections_no_last (g.P.Lotting.layout c.args.lots.now) section c.args.first c.args.last c.args.whole
    (g.L.PlaceSet.places c.args.land.now)
    (c.in_ok-from.ensures).1 (c.in_err-to.ensures).1 township)

pub returns-in_err-check_order-clause-refused : goal.returns-in_err-check_order-clause-refused
returns-in_err-check_order-clause-refused g c =
    let gone =
    err_from_is_err_and c.from_residual-in_err-check_order.result
    c.from_residual-in_err-check_order.ensures.1 in
    rw (gone.1, gone.2, (c.in_err-check_order.ensures).0)
    (λ township section.
    sections_backward (g.P.Lotting.layout c.args.lots.now) section c.args.first c.args.last c.args.whole
    (g.L.PlaceSet.places c.args.land.now)
    (c.in_ok-from.ensures).1 (c.in_ok-to.ensures).1 (c.in_err-check_order.ensures).1 township)

pub returns-in_err-check_land-clause-refused : goal.returns-in_err-check_land-clause-refused
returns-in_err-check_land-clause-refused g c =
    let whole : c.args.whole ≡ true = cc (c.if-not-whole.false) in
    let gone =
    err_from_is_err_and c.from_residual-in_err-check_land.result
    c.from_residual-in_err-check_land.ensures.1 in
    rw (gone.1, gone.2, (c.in_err-check_land.ensures).1, whole)
    (λ township section.
    sections_no_land (g.P.Lotting.layout c.args.lots.now) section c.args.first c.args.last
    (g.L.PlaceSet.places c.args.land.now) (c.in_err-check_land.ensures).0
    (c.in_ok-from.ensures).1 (c.in_ok-to.ensures).1 c.in_ok-check_order.ensures
    (c.in_err-check_land.ensures).2 township)

pub returns-in_err-add_sections-clause-refused : goal.returns-in_err-add_sections-clause-refused
returns-in_err-add_sections-clause-refused g c =
    let whole : c.args.whole ≡ true = cc (c.if-not-whole.false) in
    let shared = rw (
      c.number.ensures.value,
      c.number-2.ensures.value,
      (c.in_ok-from.ensures).0,
      (c.in_ok-to.ensures).0,
    ) at (c.in_err-add_sections.ensures).1 in
    let gone =
    err_from_is_err_and c.from_residual-in_err-add_sections.result
    c.from_residual-in_err-add_sections.ensures.1 in
    rw (gone.1, gone.2, (c.in_err-add_sections.ensures).0, whole)
    (λ township section.
    sections_overlap (g.P.Lotting.layout c.args.lots.now) section c.args.first c.args.last
    (g.L.PlaceSet.places c.args.land.now)
    (c.in_ok-from.ensures).1 (c.in_ok-to.ensures).1 c.in_ok-check_order.ensures c.in_ok-check_land.ensures
    shared township)
