-- The next lot is contained, or not at all; the numbers between are those of no lot.
use Rattle.std.proofs.Common.{refl, arith}
use Rattle.twp_grid.specs.Lands.{lotting, IsWholeOrNot}
use Rattle.twp_land.proofs.WholeLots.{none_whole, whole_contained, whole_last, whole_next, contained_whole}
use Rattle.twp_land.proofs.WholeLots.{section_whole, unmet_whole}
use Rattle.twp_land.proofs.whole_lots.holds_lots_of.Goals as goal

pub returns-then-holds_section : goal.returns-then-holds_section
returns-then-holds_section g c = (
  λ _. section_whole (lotting (g.P.Lotting.layout c.args.lots.now)) c.args.section
      (g.L.PlaceSet.places c.args.land.now c.args.section) (g.met.P.Lotting.lots c.args.lots.now)
      (c.holds_section.ensures.0 c.if-holds_section.true),
  λ _. refl,
)

pub loop-number-init : goal.loop-number-init
loop-number-init g c = record {
  so_far =
      none_whole (lotting (g.P.Lotting.layout c.args.lots.now)) c.args.section
      (g.L.PlaceSet.places c.args.land.now c.args.section) (g.met.P.Lotting.lots c.args.lots.now);
  few = omega arith;
}

pub returns-then-not-holds_lot : goal.returns-then-not-holds_lot
returns-then-not-holds_lot g c = (
  λ h. cc h,
  λ whole.
      let contains =
      whole_contained (lotting (g.P.Lotting.layout c.args.lots.now)) c.args.section c.in-Some.number
      (g.L.PlaceSet.places c.args.land.now) (c.meets_lot.ensures.0 c.if-meets_lot.true)
      (whole c.in-Some.number) in
      absurd (cc (c.holds_lot.ensures.1 contains, c.if-not-holds_lot.true)),
)

pub loop-number-preserved : goal.loop-number-preserved
loop-number-preserved g c =
    let lots = lotting (g.P.Lotting.layout c.args.lots.now) in
    let held = g.L.PlaceSet.places c.args.land.now c.args.section in
    let are = g.met.P.Lotting.lots c.args.lots.now in
    let has = c.in-Some.ensures.has in
    let few = (are.numbered c.args.section c.in-Some.number has.0 has.1 has.2).1 in
    let here : IsWholeOrNot lots c.args.section c.in-Some.number held =
    elim c.else-meets_lot.branch [
      | goal.else-meets_lot-via-then-meets_lot+else-not-holds_lot w ↦
          contained_whole lots c.args.section c.in-Some.number (g.L.PlaceSet.places c.args.land.now) are
          (w.holds_lot.ensures.0 w.if-not-holds_lot.false)
      | goal.else-meets_lot-via-else-meets_lot w ↦
          unmet_whole lots c.args.section c.in-Some.number held are
          (λ met. cc (c.meets_lot.ensures.1 met, w.if-meets_lot.false))
    ] in
    record {
      so_far =
          whole_next lots c.args.section c.loop-number.after c.in-Some.number held
          c.loop-number.invariant.so_far c.in-Some.ensures here;
      few = few;
    }

pub returns : goal.returns
returns g c = (
  λ _. whole_last (lotting (g.P.Lotting.layout c.args.lots.now)) c.args.section c.loop-number.after
      (g.L.PlaceSet.places c.args.land.now c.args.section) c.loop-number.invariant.so_far
      c.in_default.ensures,
  λ _. refl,
)
