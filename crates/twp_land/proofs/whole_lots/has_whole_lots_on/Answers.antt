-- One more section, and all sections: those before the first and after the last have no places.
use Rattle.std.proofs.Common.{◌≡◌, ◌∙◌, subst, refl, inl, inr, arith}
use Rattle.std.proofs.lemmas.Bool.{cases_lt}
use Rattle.twp_grid.specs.Lands.{lotting}
use Rattle.twp_land.specs.steps.Relating.{HoldsWholeLots}
use Rattle.twp_land.proofs.LotFacts.{section_is}
use Rattle.twp_land.proofs.WholeLots.{empty_whole, untouched_whole}
use Rattle.twp_land.proofs.whole_lots.has_whole_lots_on.Goals as goal

pub loop-number-init : goal.loop-number-init
loop-number-init g c = record {
  so_far = λ section below.
      empty_whole (lotting (g.P.Lotting.layout c.args.lots.now)) (g.L.PlaceSet.places c.args.land.now) _ _
      section c.in-Some.ensures.1 (inl (omega (arith, below, c.number-number.ensures.value)));
  first = c.number-number.ensures.range.0;
}

pub loop-number-preserved-then-is_untouched : goal.loop-number-preserved-then-is_untouched
loop-number-preserved-then-is_untouched g c =
    let lots = lotting (g.P.Lotting.layout c.args.lots.now) in
    let places = g.L.PlaceSet.places c.args.land.now in
    let number =
    section_is c.loop-number.number c.unwrap-section.result _ c.new.ensures c.unwrap-section.ensures in
    let here =
    untouched_whole lots c.unwrap-section.result (places c.unwrap-section.result) refl
    (g.met.P.Lotting.lots c.args.lots.now) (c.is_untouched.ensures c.if-is_untouched.true) in
    record {
      so_far = λ section below. elim (cases_lt section c.loop-number.number) [
        | inl before ↦ c.loop-number.invariant.so_far section before
        | inr last ↦
            let same : c.loop-number.number ≡ section = omega (arith, below, last) in
            subst (λ s. HoldsWholeLots lots s (places s)) (number ∙ same) here
      ];
      first = omega (arith, c.loop-number.invariant.first);
    }

pub loop-number-preserved : goal.loop-number-preserved
loop-number-preserved g c =
    let lots = lotting (g.P.Lotting.layout c.args.lots.now) in
    let places = g.L.PlaceSet.places c.args.land.now in
    let number =
    section_is c.loop-number.number c.unwrap-section.result _ c.new.ensures c.unwrap-section.ensures in
    let here = c.holds_lots_of.ensures.0 c.if-not-holds_lots_of.false in
    record {
      so_far = λ section below. elim (cases_lt section c.loop-number.number) [
        | inl before ↦ c.loop-number.invariant.so_far section before
        | inr last ↦
            let same : c.loop-number.number ≡ section = omega (arith, below, last) in
            subst (λ s. HoldsWholeLots lots s (places s)) (number ∙ same) here
      ];
      first = omega (arith, c.loop-number.invariant.first);
    }

pub returns : goal.returns
returns g c = (
  λ _ section lot range. elim (cases_lt section c.loop-number.number) [
    | inl before ↦ c.loop-number.invariant.so_far section before lot
    | inr beyond ↦
        empty_whole (lotting (g.P.Lotting.layout c.args.lots.now)) (g.L.PlaceSet.places c.args.land.now) _ _
        section c.in-Some.ensures.1 (inr (omega (arith, beyond, c.number-number-end.ensures.value))) lot
  ],
  λ _. refl,
)
