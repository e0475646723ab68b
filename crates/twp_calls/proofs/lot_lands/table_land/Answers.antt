-- The township, the land, and the plat are looked at in this order, and then the lots.
use Rattle.std.proofs.Common.{ap, refl, subst, sym, ◌∙◌}
use Rattle.twp_calls.specs.GivenTownships.{IsGivenTownship}
use Rattle.twp_calls.specs.LandCalls.{on_land, on_no_land}
use Rattle.twp_calls.specs.LotCalls.{by_lots}
use Rattle.twp_calls.specs.LotLandCalls.{with_part}
use Rattle.twp_calls.specs.declared.which_plat.WhichPlat.{WhichPlat}
use Rattle.twp_calls.proofs.LandCallFacts.{agree, differ, on_one, on_two}
use Rattle.twp_calls.proofs.LotLandFacts.{measured, whole_on_table}
use Rattle.twp_calls.proofs.lot_lands.table_land.Goals as goal

pub returns-in_default-land-clause-none : goal.returns-in_default-land-clause-none
returns-in_default-land-clause-none c =
    by_lots c.in-Some.township c.in-Some.ensures
    (on_no_land c.in_default-land.ensures c.bare-in_default-land.ensures)

pub returns-then-not-is_same_township-clause-none : goal.returns-then-not-is_same_township-clause-none
returns-then-not-is_same_township-clause-none c =
    by_lots c.in-Some.township c.in-Some.ensures
    (on_land c.in-Some-land.land.township _ c.in-Some-land.ensures
    (differ _ c.in-Some.township c.in-Some-land.land.township c.in-Some.township
    c.is_same_township.result _ refl c.is_same_township.ensures c.if-not-is_same_township.true
    c.bare-then-not-is_same_township.ensures))

pub returns-then-not-is_measured_by-clause-none : goal.returns-then-not-is_measured_by-clause-none
returns-then-not-is_measured_by-clause-none c =
    by_lots c.in-Some.township c.in-Some.ensures
    (on_land c.in-Some-land.land.township _ c.in-Some-land.ensures
    (agree _ c.in-Some.township c.in-Some-land.land.township c.in-Some.township
    c.is_same_township.result _ refl c.is_same_township.ensures c.if-not-is_same_township.false
    (on_two _ _ c.is_measured_by.result _
    (measured _ _ _ _ c.is_measured_by.result c.plat-plat.ensures c.plat.ensures c.is_measured_by.ensures)
    c.if-not-is_measured_by.true c.bare-then-not-is_measured_by.ensures)))

pub returns-then-not-has_whole_lots_on-clause-none : goal.returns-then-not-has_whole_lots_on-clause-none
returns-then-not-has_whole_lots_on-clause-none c =
    by_lots c.in-Some.township c.in-Some.ensures
    (on_land c.in-Some-land.land.township _ c.in-Some-land.ensures
    (agree _ c.in-Some.township c.in-Some-land.land.township c.in-Some.township
    c.is_same_township.result _ refl c.is_same_township.ensures c.if-not-is_same_township.false
    (on_one _ _ c.is_measured_by.result _
    (measured _ _ _ _ c.is_measured_by.result c.plat-plat.ensures c.plat.ensures c.is_measured_by.ensures)
    c.if-not-is_measured_by.false
    (with_part (λ whole. cc (c.has_whole_lots_on.ensures.1 whole, c.if-not-has_whole_lots_on.true))
    c.bare-then-not-has_whole_lots_on.ensures))))

pub returns-then-plat-eq0-clause-found : goal.returns-then-plat-eq0-clause-found
returns-then-plat-eq0-clause-found c =
    let plat =
    (measured _ _ _ _ c.is_measured_by.result c.plat-plat.ensures c.plat.ensures
    c.is_measured_by.ensures).0
    c.if-not-is_measured_by.false in
    let none = ap (λ (plat : WhichPlat). plat.own_lots) (sym c.plat-plat.ensures) ∙ c.if-plat-eq0.true in
    record {
      township_is =
          subst (IsGivenTownship c.args.lots.now.township)
          (c.is_same_township.ensures.0 c.if-not-is_same_township.false) c.in-Some.ensures;
      land_is = c.in-Some-land.ensures;
      plat_is = plat;
      whole =
          whole_on_table c.args.lots.now c.args.land.now _ none plat (c.in-Some-land.ensures.whole none);
    }

pub returns-clause-found : goal.returns-clause-found
returns-clause-found c = record {
  township_is =
      subst (IsGivenTownship c.args.lots.now.township)
      (c.is_same_township.ensures.0 c.if-not-is_same_township.false) c.in-Some.ensures;
  land_is = c.in-Some-land.ensures;
  plat_is =
      (measured _ _ _ _ c.is_measured_by.result c.plat-plat.ensures c.plat.ensures
      c.is_measured_by.ensures).0
      c.if-not-is_measured_by.false;
  whole = c.has_whole_lots_on.ensures.0 c.if-not-has_whole_lots_on.false;
}
