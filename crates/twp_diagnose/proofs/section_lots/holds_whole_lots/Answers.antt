-- Lot by lot: one that is held in part is both in the set and missing from it.
use Rattle.std.proofs.Common.{◌≡◌, ◌≤◌, inl, inr, refl, arith}
use Rattle.std.proofs.lemmas.Bool.{cases_lt}
use Rattle.twp_grid.specs.Lands.{lotting}
use Rattle.twp_diagnose.proofs.SectionLotFacts.{missing_is, no_lot, not_whole, whole_if}
use Rattle.twp_diagnose.proofs.section_lots.holds_whole_lots.Goals as goal

pub add_section-requires : goal.add_section-requires
add_section-requires g c = record { room = g.met.L.Land.roomy c.empty-missing.result c.args.section }

pub loop-number-init : goal.loop-number-init
loop-number-init g c = record {
  most = omega arith;
  whole = λ lot most. no_lot (lotting (g.P.Lotting.layout c.args.lots.now)) c.args.section lot _ (λ has.
      let numbered =
      (g.met.P.Lotting.lots c.args.lots.now).numbered c.args.section lot has.0 has.1 has.2 in
      absurd (omega (arith, numbered.0, most)));
}

pub meet_lot-requires : goal.meet_lot-requires
meet_lot-requires g c = c.in-Some.ensures.has

pub returns-then-meet_lot : goal.returns-then-meet_lot
returns-then-meet_lot g c =
    let layout = g.P.Lotting.layout c.args.lots.now in
    let places = g.L.PlaceSet.places c.args.land.now in
    let both = c.meet_lot.ensures.0 c.if-meet_lot.true in
    let missing =
    missing_is (lotting layout) c.args.section c.add_section.result _ _ _ places c.empty-missing.ensures
    c.add_section.ensures.places c.add_section.ensures.met c.take_away.ensures in (
      λ ok. cc ok,
      λ all. absurd
          (not_whole layout c.args.section c.in-Some.number places _ missing both.0 both.1
          (all c.in-Some.number)),
    )

pub loop-number-preserved : goal.loop-number-preserved
loop-number-preserved g c =
    let layout = g.P.Lotting.layout c.args.lots.now in
    let fine = g.met.P.Lotting.lots c.args.lots.now in
    let places = g.L.PlaceSet.places c.args.land.now in
    let next = c.in-Some.ensures in
    let missing =
    missing_is (lotting layout) c.args.section c.add_section.result _ _ _ places c.empty-missing.ensures
    c.add_section.ensures.places c.add_section.ensures.met c.take_away.ensures in
    record {
      most = (fine.numbered c.args.section c.in-Some.number next.has.0 next.has.1 next.has.2).1;
      whole = λ lot most. elim (cases_lt c.loop-number.last lot) [
        | inr before ↦ c.loop-number.invariant.whole lot before
        | inl after ↦ elim (cases_lt lot c.in-Some.number) [
          | inl gap ↦
              no_lot (lotting layout) c.args.section lot _
              (λ has. absurd (omega (arith, gap, next.first lot has after)))
          | inr from ↦
              let same : lot ≡ c.in-Some.number = omega (arith, most, from) in
              rw same
              (whole_if layout c.args.section c.in-Some.number places _ fine missing
              (λ both. absurd (cc (c.meet_lot.ensures.1 both, c.if-meet_lot.false))))
        ]
      ];
    }

pub returns : goal.returns
returns g c = (
  λ _ lot. elim (cases_lt c.loop-number.last lot) [
    | inl after ↦
        no_lot (lotting (g.P.Lotting.layout c.args.lots.now)) c.args.section lot _
        (λ has. absurd (omega (arith, after, c.in_default.ensures lot has)))
    | inr before ↦ c.loop-number.invariant.whole lot before
  ],
  λ _. refl,
)
