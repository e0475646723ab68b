-- There is no such land; or the townships or the plats differ; or the lands compare in the way that was
-- written.
use Rattle.std.proofs.Common.{refl}
use Rattle.twp_calls.specs.LandCalls.{HasComparison, on_land, on_no_land}
use Rattle.twp_calls.proofs.LandCallFacts.{agree, differ, given_land, on_one, on_two, same_plats}
use Rattle.twp_calls.proofs.LandCallFacts.{no_land_unless, without_lots, without_township}
use Rattle.twp_calls.proofs.combining.township_land_compare.Goals as goal

pub returns-in_default-clause-answer : goal.returns-in_default-clause-answer
returns-in_default-clause-answer c =
    on_no_land (without_township c.args.first.now c.in_default.ensures) c.bare.ensures

pub returns-in_default-township-clause-answer : goal.returns-in_default-township-clause-answer
returns-in_default-township-clause-answer c =
    no_land_unless c.args.first.now c.in-Some.township c.in-Some.ensures _ _
    c.bare-in_default-township.ensures
    (λ valid. on_no_land (without_township c.args.second.now c.in_default-township.ensures)
    c.bare-in_default-township.ensures)

pub returns-in_default-compared_places-clause-answer :
    goal.returns-in_default-compared_places-clause-answer
returns-in_default-compared_places-clause-answer c =
    no_land_unless c.args.first.now c.in-Some.township c.in-Some.ensures _ _
    c.bare-in_default-compared_places.ensures
    (λ valid. on_no_land
    (without_lots c.args.second.now (λ other. c.in_default-compared_places.ensures (valid, other)))
    c.bare-in_default-compared_places.ensures)

pub returns-then-not-is_same_township-clause-answer : goal.returns-then-not-is_same_township-clause-answer
returns-then-not-is_same_township-clause-answer c =
    let compared = c.in-Some-compared_places.ensures in
    on_land c.in-Some.township _
    (given_land c.args.first.now c.in-Some.township c.in-Some.ensures compared.0)
    (on_land c.in-Some-township.other _
    (given_land c.args.second.now c.in-Some-township.other c.in-Some-township.ensures compared.1)
    (differ _ c.in-Some.township c.in-Some-township.other c.in-Some.township
    c.is_same_township.result _ refl c.is_same_township.ensures c.if-not-is_same_township.true
    c.bare-then-not-is_same_township.ensures))

pub returns-then-not-is_same-clause-answer : goal.returns-then-not-is_same-clause-answer
returns-then-not-is_same-clause-answer c =
    let compared = c.in-Some-compared_places.ensures in
    on_land c.in-Some.township _
    (given_land c.args.first.now c.in-Some.township c.in-Some.ensures compared.0)
    (on_land c.in-Some-township.other _
    (given_land c.args.second.now c.in-Some-township.other c.in-Some-township.ensures compared.1)
    (agree _ c.in-Some.township c.in-Some-township.other c.in-Some.township
    c.is_same_township.result _ refl c.is_same_township.ensures c.if-not-is_same_township.false
    (on_two _ (HasComparison _ _ _) c.is_same.result _
    (same_plats _ _ _ _ c.is_same.result c.plat.ensures c.plat-2.ensures c.is_same.ensures)
    c.if-not-is_same.true
    c.bare-then-not-is_same.ensures)))

pub returns-clause-answer : goal.returns-clause-answer
returns-clause-answer c =
    let compared = c.in-Some-compared_places.ensures in
    on_land c.in-Some.township _
    (given_land c.args.first.now c.in-Some.township c.in-Some.ensures compared.0)
    (on_land c.in-Some-township.other _
    (given_land c.args.second.now c.in-Some-township.other c.in-Some-township.ensures compared.1)
    (agree _ c.in-Some.township c.in-Some-township.other c.in-Some.township
    c.is_same_township.result _ refl c.is_same_township.ensures c.if-not-is_same_township.false
    (on_one _ (HasComparison _ _ _) c.is_same.result _
    (same_plats _ _ _ _ c.is_same.result c.plat.ensures c.plat-2.ensures c.is_same.ensures)
    c.if-not-is_same.false
    (record {
      comparison = c.in-Some-compared_places.compared;
      compares = compared.2;
      code_is = c.code_of_comparison.ensures;
      answer_is = c.bare-2.ensures;
    }))))
