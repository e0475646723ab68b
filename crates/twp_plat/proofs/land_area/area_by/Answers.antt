use Rattle.std.proofs.Common.{◌≡◌, ℕ, ◌+◌, ◌-◌, ◌*◌, Bool, refl, sym, subst, arith}
use Rattle.twp_grid.specs.Places.{PLACE_DIGITS}
use Rattle.twp_land.proofs.LotFacts.{section_is}
use Rattle.twp_plat.specs.steps.Bounds.{SECTION_UNITS_MOST}
use Rattle.twp_plat.specs.LandAreas.{section_sum}
use Rattle.twp_plat.specs.steps.Accounts.{over_by}
use Rattle.twp_plat.proofs.AreaFacts.{IsSumOf, grows, sum-first, sum-next, sum-last, sum-none}
use Rattle.twp_plat.proofs.AreaFacts.{area_is, land_area}
use Rattle.twp_plat.proofs.SectionSums.{none_held}
use Rattle.twp_plat.proofs.land_area.area_by.Goals as goal

pub loop-number-init : goal.loop-number-init
loop-number-init g c = record {
  sum = rw c.number-number.ensures.value (sum-first c.args.account c.args.plat.now _ _ _ c.in-Some.ensures.1);
  most = omega arith;
  first = omega arith;
}

pub loop-number-preserved-then-is_untouched : goal.loop-number-preserved-then-is_untouched
loop-number-preserved-then-is_untouched g c =
    let at = c.loop-number.invariant in
    let places : ℕ → ℕ → ℕ → Bool = g.L.PlaceSet.places c.args.land.now in
    let number =
    section_is c.loop-number.number c.unwrap-section.result _ c.new.ensures c.unwrap-section.ensures in
    let none : (pieces : ℕ → ℕ → ℕ) → section_sum PLACE_DIGITS pieces (places c.unwrap-section.result) ≡ 0 =
    λ pieces.
    none_held pieces (places c.unwrap-section.result) (c.is_untouched.ensures c.if-is_untouched.true) in
    let same : c.loop-number.units + 0 ≡ c.loop-number.units = omega arith in
    let sum =
    sum-next c.args.account c.args.plat.now places c.loop-number.number c.unwrap-section.result
    c.loop-number.units 0 at.first number at.sum
    (λ pieces are. sym (none (pieces c.unwrap-section.result))) in
    let most =
    grows c.loop-number.number (SECTION_UNITS_MOST * over_by c.args.account c.args.plat.now)
    c.loop-number.units 0 at.first at.most (omega arith) in
    record {
      sum = subst (IsSumOf c.args.account c.args.plat.now places (c.loop-number.number + 1 - 1)) same sum;
      most = rw same at most;
      first = omega arith;
    }

pub loop-number-preserved : goal.loop-number-preserved
loop-number-preserved g c =
    let at = c.loop-number.invariant in
    let added = c.units_in_section-units.ensures in
    let number =
    section_is c.loop-number.number c.unwrap-section.result _ c.new.ensures c.unwrap-section.ensures in
    record {
      sum =
          sum-next c.args.account c.args.plat.now (g.L.PlaceSet.places c.args.land.now) c.loop-number.number
          c.unwrap-section.result c.loop-number.units c.units_in_section-units.result at.first number at.sum
          added.sum;
      most =
          grows c.loop-number.number (SECTION_UNITS_MOST * over_by c.args.account c.args.plat.now)
          c.loop-number.units c.units_in_section-units.result at.first at.most added.most;
      first = omega arith;
    }

pub returns-in_default : goal.returns-in_default
returns-in_default g c =
    land_area c.args.account c.args.plat.now (g.L.PlaceSet.places c.args.land.now) 37 0 c.over-over.result
    c.zero.result c.over-over.ensures.plat c.requires.whole c.over-over.ensures.value refl
    (sum-none c.args.account c.args.plat.now _ c.in_default.ensures) c.zero.ensures

pub returns : goal.returns
returns g c =
    let lies = c.in-Some.ensures in
    land_area c.args.account c.args.plat.now (g.L.PlaceSet.places c.args.land.now) 37 c.loop-number.units
    c.over-over.result c.unwrap.result c.over-over.ensures.plat c.requires.whole c.over-over.ensures.value
    refl
    (sum-last c.args.account c.args.plat.now (g.L.PlaceSet.places c.args.land.now) _ _ c.loop-number.number
    c.loop-number.units lies.1 (omega arith) (omega arith) (omega arith) c.loop-number.invariant.sum)
    (area_is c.loop-number.units c.over-over.result _ c.unwrap.result c.new-2.ensures c.unwrap.ensures)
