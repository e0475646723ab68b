-- The item with the first fault is the refused one, if the fault is an overlap.
use Rattle.std.proofs.Common.{sym, arith}
use Rattle.twp_grammar.specs.OnPlat.{IsLandOfItems}
use Rattle.twp_resolve.specs.steps.ResolvingSteps.{number_of_section}
use Rattle.twp_resolve.proofs.ResolvingFacts.{taken_none, taken_next, taken_all}
use Rattle.twp_resolve.proofs.ResolvingFacts.{not_known, may_be_taken, known_next}
use Rattle.twp_resolve.proofs.SharedFacts.{not_refused, found_refused, found_section}
use Rattle.twp_resolve.proofs.RoomFacts.{room_for_each}
use Rattle.twp_grid.specs.Lands.{lotting}
use Rattle.twp_resolve.proofs.shared.refused_item.Goals as goal

pub loop-index-init : goal.loop-index-init
loop-index-init g c = record {
  taken =
      taken_none (lotting (g.P.Lotting.layout c.args.lots.now)) c.args.township c.args.items.now
      (g.L.PlaceSet.places c.clear.new.self)
      c.clear.ensures;
  known = not_known c.args.items.now c.requires;
}

pub resolve_item-requires-clause-room : goal.resolve_item-requires-clause-room
resolve_item-requires-clause-room g c =
    room_for_each _ c.loop-index.section c.index-items-index.result (g.met.L.Land.roomy c.loop-index.land)

pub resolve_item-requires-clause-known : goal.resolve_item-requires-clause-known
resolve_item-requires-clause-known g c =
    may_be_taken c.loop-index.section c.args.items.now c.loop-index.index c.index-items-index.result
    c.loop-index-test.true (sym c.index-items-index.is) c.loop-index.invariant.known

pub returns-in-Err-clause-section : goal.returns-in-Err-clause-section
returns-in-Err-clause-section g c =
    found_section c.args.items.now c.loop-index.index c.loop-index.section c.in-Err.fault c.if_overlap.result
    c.loop-index-test.true c.loop-index.invariant.known c.if_overlap.ensures

pub returns-in-Err-clause-refused : goal.returns-in-Err-clause-refused
returns-in-Err-clause-refused g c =
    found_refused (lotting (g.P.Lotting.layout c.args.lots.now)) c.args.township c.args.items.now
    c.loop-index.index c.loop-index.section
    c.index-items-index.result (g.L.PlaceSet.places c.loop-index.land) c.in-Err.fault c.if_overlap.result
    c.loop-index-test.true (sym c.index-items-index.is) c.loop-index.invariant.taken
    c.in-Err.ensures.refused c.if_overlap.ensures

pub loop-index-preserved : goal.loop-index-preserved
loop-index-preserved g c =
    let so_far = c.loop-index.invariant in
    let taken =
    taken_next (lotting (g.P.Lotting.layout c.args.lots.now)) c.args.township c.args.items.now
    c.loop-index.index
    (number_of_section c.loop-index.section) c.index-items-index.result
    (g.L.PlaceSet.places c.loop-index.land)
    (g.L.PlaceSet.places c.resolve_item.new.land)
    c.loop-index-test.true (sym c.index-items-index.is) so_far.taken c.in-Ok.ensures.taken in
    record {
      taken = rw c.in-Ok.ensures.after taken;
      known =
          known_next (lotting (g.P.Lotting.layout c.args.lots.now)) c.args.township c.loop-index.section
          c.in-Ok.after
          c.args.items.now c.loop-index.index c.index-items-index.result
          c.loop-index-test.true (sym c.index-items-index.is) so_far.known c.in-Ok.ensures.taken.lies
          c.in-Ok.ensures.after;
    }

pub returns-clause-refused : goal.returns-clause-refused
returns-clause-refused g c =
    let whole : IsLandOfItems (lotting (g.P.Lotting.layout c.args.lots.now)) c.args.township c.args.items.now
    (g.L.PlaceSet.places c.loop-index.land) =
    taken_all (lotting (g.P.Lotting.layout c.args.lots.now)) c.args.township c.args.items.now
    c.loop-index.index
    (number_of_section c.loop-index.section) (g.L.PlaceSet.places c.loop-index.land) (omega arith)
    c.loop-index.invariant.taken in
    not_refused (lotting (g.P.Lotting.layout c.args.lots.now)) c.args.township c.args.items.now whole.on_plat
