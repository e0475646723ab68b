-- The items are added one after another; the first of them with a fault has the first fault, and at
-- the end the land is that of all items.
use Rattle.std.proofs.Common.{sym, subst, arith}
use Rattle.std.proofs.lemmas.Result.{err_from_is_err_and}
use Rattle.twp_grid.specs.Lands.{HasWholeLots}
use Rattle.twp_grammar.specs.OnPlat.{IsLandOfItems}
use Rattle.twp_resolve.specs.steps.ResolvingSteps.{number_of_section}
use Rattle.twp_resolve.proofs.LandLots.{land_has_whole_lots}
use Rattle.twp_resolve.proofs.ResolvingFacts.{taken_none, taken_next, refused_here, taken_all}
use Rattle.twp_resolve.proofs.ResolvingFacts.{not_known, may_be_taken, known_next}
use Rattle.twp_grid.specs.Lands.{lotting}
use Rattle.twp_resolve.proofs.resolving.resolve_if_room.Goals as goal

pub loop-item-init : goal.loop-item-init
loop-item-init g c = record {
  taken =
      taken_none (lotting (g.P.Lotting.layout c.args.lots.now)) c.args.township c.items-items.result.now
      (g.L.PlaceSet.places c.clear.new.self)
      c.clear.ensures;
  known =
      not_known c.items-items.result.now
      (rw c.items-items.ensures.items c.items-items.ensures.sections_first);
}

pub make_room_for-requires : goal.make_room_for-requires
make_room_for-requires g c =
    may_be_taken c.loop-item.section c.items-items.result.now c.loop-item.item-index c.item-item.result
    c.loop-item-test.true (sym c.item-item.is) c.loop-item.invariant.known

pub resolve_item-requires-clause-known : goal.resolve_item-requires-clause-known
resolve_item-requires-clause-known g c =
    may_be_taken c.loop-item.section c.items-items.result.now c.loop-item.item-index c.item-item.result
    c.loop-item-test.true (sym c.item-item.is) c.loop-item.invariant.known

pub resolve_item-requires-clause-room : goal.resolve_item-requires-clause-room
resolve_item-requires-clause-room g c = c.make_room_for.ensures.room c.if-not-make_room_for.false

pub returns-in_err-section-clause-refused : goal.returns-in_err-section-clause-refused
returns-in_err-section-clause-refused g c =
    let gone = err_from_is_err_and c.from_residual.result c.from_residual.ensures.1 in
    rw (gone.1, gone.2, ← c.items-items.ensures.items)
    (refused_here (lotting (g.P.Lotting.layout c.args.lots.now)) c.args.township c.items-items.result.now
    c.loop-item.item-index
    (number_of_section c.loop-item.section) c.item-item.result (g.L.PlaceSet.places c.loop-item.land)
    c.in_err-section.field-0.0
    c.loop-item-test.true (sym c.item-item.is) c.loop-item.invariant.taken
    (rw c.make_room_for.ensures.places at c.in_err-section.ensures.refused))

pub loop-item-preserved : goal.loop-item-preserved
loop-item-preserved g c =
    let so_far = c.loop-item.invariant in
    let taken =
    taken_next (lotting (g.P.Lotting.layout c.args.lots.now)) c.args.township c.items-items.result.now
    c.loop-item.item-index
    (number_of_section c.loop-item.section) c.item-item.result (g.L.PlaceSet.places c.loop-item.land)
    (g.L.PlaceSet.places c.resolve_item.new.land)
    c.loop-item-test.true (sym c.item-item.is) so_far.taken
    (rw c.make_room_for.ensures.places at c.in_ok-section.ensures.taken) in
    record {
      taken = rw c.in_ok-section.ensures.after taken;
      known =
          known_next (lotting (g.P.Lotting.layout c.args.lots.now)) c.args.township c.loop-item.section
          c.in_ok-section.section
          c.items-items.result.now c.loop-item.item-index c.item-item.result
          c.loop-item-test.true (sym c.item-item.is) so_far.known c.in_ok-section.ensures.taken.lies
          c.in_ok-section.ensures.after;
    }

pub returns-clause-land : goal.returns-clause-land
returns-clause-land g c = λ _.
    rw (← c.items-items.ensures.items)
    (taken_all (lotting (g.P.Lotting.layout c.args.lots.now)) c.args.township c.items-items.result.now
    c.loop-item.item-index
    (number_of_section c.loop-item.section) (g.L.PlaceSet.places c.loop-item.land) (omega arith)
    c.loop-item.invariant.taken)

pub returns-clause-whole_lots : goal.returns-clause-whole_lots
returns-clause-whole_lots g c = λ _.
    let
    whole : IsLandOfItems (lotting (g.P.Lotting.layout c.args.lots.now)) c.args.township
    c.items-items.result.now
    (g.L.PlaceSet.places c.loop-item.land) =
    taken_all (lotting (g.P.Lotting.layout c.args.lots.now)) c.args.township c.items-items.result.now
    c.loop-item.item-index
    (number_of_section c.loop-item.section) (g.L.PlaceSet.places c.loop-item.land) (omega arith)
    c.loop-item.invariant.taken in
    subst (HasWholeLots (lotting (g.P.Lotting.layout c.args.lots.now))) (sym whole.land_is)
    (land_has_whole_lots (g.P.Lotting.layout c.args.lots.now) c.args.township c.items-items.result.now
    (g.met.P.Lotting.lots c.args.lots.now) whole.on_plat)
