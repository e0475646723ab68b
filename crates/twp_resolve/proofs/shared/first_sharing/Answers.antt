-- An item that shares land with the refused one, or one more that does not; the end is not reached.
use Rattle.std.proofs.Common.{sym, subst, arith}
use Rattle.twp_resolve.specs.steps.ResolvingSteps.{number_of_section}
use Rattle.twp_resolve.proofs.ResolvingFacts.{not_known, may_be_taken, known_next}
use Rattle.twp_resolve.proofs.SharedFacts.{apart_none, apart_next, sharing_here, some_share, before_not_alone}
use Rattle.twp_grid.specs.Lands.{lotting}
use Rattle.twp_resolve.proofs.shared.first_sharing.Goals as goal

pub loop-index-init : goal.loop-index-init
loop-index-init g c = record {
  apart = apart_none (lotting (g.P.Lotting.layout c.args.lots.now)) c.args.items.now c.args.later;
  known = not_known c.args.items.now c.requires.sections_first;
}

pub place_item-requires : goal.place_item-requires
place_item-requires g c =
    may_be_taken c.loop-index.section c.args.items.now c.loop-index.index c.index-items-index.result
    (omega (arith, c.requires.within, c.loop-index-test.true)) (sym c.index-items-index.is)
    c.loop-index.invariant.known

pub returns-in_err-section : goal.returns-in_err-section
returns-in_err-section g c =
    absurd
    (before_not_alone (lotting (g.P.Lotting.layout c.args.lots.now)) c.args.township c.args.items.now
    c.loop-index.index
    (number_of_section c.loop-index.section) c.args.later c.index-items-index.result
    (g.L.PlaceSet.places c.args.named.now)
    (omega (arith, c.requires.within, c.loop-index-test.true)) (sym c.index-items-index.is)
    c.loop-index-test.true c.loop-index.invariant.apart c.requires.refused c.in_err-section.ensures)

pub returns-then-meets_land : goal.returns-then-meets_land
returns-then-meets_land g c =
    sharing_here (lotting (g.P.Lotting.layout c.args.lots.now)) c.args.township c.args.items.now
    c.loop-index.index
    (number_of_section c.loop-index.section) c.args.later c.index-items-index.result
    (g.L.PlaceSet.places c.place_item.new.land) (g.L.PlaceSet.places c.args.named.now)
    (g.L.PlaceSet.places c.keep_common.new.self)
    (omega (arith, c.requires.within, c.loop-index-test.true)) (sym c.index-items-index.is)
    c.loop-index-test.true c.loop-index.invariant.apart (c.in_ok-section.ensures).0
    c.requires.refused.places_are (c.meets_land.ensures.0 c.if-meets_land.true) c.keep_common.ensures

pub loop-index-preserved : goal.loop-index-preserved
loop-index-preserved g c =
    let so_far = c.loop-index.invariant in
    let taken = (c.in_ok-section.ensures).0 in
    let apart =
    apart_next (lotting (g.P.Lotting.layout c.args.lots.now)) c.args.township c.args.items.now
    c.loop-index.index
    (number_of_section c.loop-index.section) c.args.later c.index-items-index.result
    (g.L.PlaceSet.places c.place_item.new.land) (g.L.PlaceSet.places c.args.named.now)
    (omega (arith, c.requires.within, c.loop-index-test.true)) (sym c.index-items-index.is)
    so_far.apart taken c.requires.refused.places_are
    (λ shared. absurd (cc (c.meets_land.ensures.1 shared))) in
    record {
      apart = rw (c.in_ok-section.ensures).1 apart;
      known =
          known_next (lotting (g.P.Lotting.layout c.args.lots.now)) c.args.township c.loop-index.section
          c.in_ok-section.section
          c.args.items.now c.loop-index.index c.index-items-index.result
          (omega (arith, c.requires.within, c.loop-index-test.true)) (sym c.index-items-index.is)
          so_far.known taken.lies (c.in_ok-section.ensures).1;
    }

pub returns : goal.returns
returns g c =
    some_share (lotting (g.P.Lotting.layout c.args.lots.now)) c.args.township c.args.items.now
    c.loop-index.index
    (number_of_section c.loop-index.section) c.args.later (g.L.PlaceSet.places c.args.named.now)
    c.requires.refused c.loop-index-test.false c.loop-index.invariant.apart
