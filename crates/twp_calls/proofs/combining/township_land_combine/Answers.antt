-- There is no such land, or no such operation; or the townships or the plats differ; or the land is that of
-- the operation.
use Rattle.std.proofs.Common.{sym, ◌∙◌, refl}
use Rattle.twp_calls.specs.LandCalls.{IsCombined, by_no_operation, by_operation, on_land, on_no_land}
use Rattle.twp_calls.proofs.LandCallFacts.{agree, combined_given, differ, on_one, on_two, same_plats}
use Rattle.twp_calls.proofs.combining.township_land_combine.Goals as goal

pub returns-in_default-valid_township-clause-answer : goal.returns-in_default-valid_township-clause-answer
returns-in_default-valid_township-clause-answer c =
    on_land c.in-Some.township _ c.in-Some.ensures
    (on_no_land c.in_default-valid_township.ensures c.bare-in_default-valid_township.ensures)

pub returns-in_default-operation_of-clause-answer : goal.returns-in_default-operation_of-clause-answer
returns-in_default-operation_of-clause-answer c =
    on_land c.in-Some.township _ c.in-Some.ensures
    (on_land c.in-Some-valid_township.other _ c.in-Some-valid_township.ensures
    (by_no_operation (sym c.operation_of.ensures ∙ c.in_default-operation_of.is)
    c.bare-in_default-operation_of.ensures))

pub returns-then-not-is_same_township-clause-answer : goal.returns-then-not-is_same_township-clause-answer
returns-then-not-is_same_township-clause-answer c =
    on_land c.in-Some.township _ c.in-Some.ensures
    (on_land c.in-Some-valid_township.other _ c.in-Some-valid_township.ensures
    (by_operation c.in-Some-operation_of.operation (sym c.operation_of.ensures ∙ c.in-Some-operation_of.is)
    (differ _ c.in-Some.township c.in-Some-valid_township.other c.in-Some.township
    c.is_same_township.result _ refl c.is_same_township.ensures c.if-not-is_same_township.true
    c.bare-then-not-is_same_township.ensures)))

pub returns-then-not-is_same-clause-answer : goal.returns-then-not-is_same-clause-answer
returns-then-not-is_same-clause-answer c =
    on_land c.in-Some.township _ c.in-Some.ensures
    (on_land c.in-Some-valid_township.other _ c.in-Some-valid_township.ensures
    (by_operation c.in-Some-operation_of.operation (sym c.operation_of.ensures ∙ c.in-Some-operation_of.is)
    (agree _ c.in-Some.township c.in-Some-valid_township.other c.in-Some.township
    c.is_same_township.result _ refl c.is_same_township.ensures c.if-not-is_same_township.false
    (on_two _ (IsCombined c.in-Some-operation_of.operation c.in-Some.township _ _ _ _) c.is_same.result _
    (same_plats _ _ _ _ c.is_same.result c.plat-plat.ensures c.plat.ensures c.is_same.ensures)
    c.if-not-is_same.true c.bare-then-not-is_same.ensures))))

pub returns-clause-answer : goal.returns-clause-answer
returns-clause-answer c =
    on_land c.in-Some.township _ c.in-Some.ensures
    (on_land c.in-Some-valid_township.other _ c.in-Some-valid_township.ensures
    (by_operation c.in-Some-operation_of.operation (sym c.operation_of.ensures ∙ c.in-Some-operation_of.is)
    (agree _ c.in-Some.township c.in-Some-valid_township.other c.in-Some.township
    c.is_same_township.result _ refl c.is_same_township.ensures c.if-not-is_same_township.false
    (on_one _ (IsCombined c.in-Some-operation_of.operation c.in-Some.township _ _ _ _) c.is_same.result _
    (same_plats _ _ _ _ c.is_same.result c.plat-plat.ensures c.plat.ensures c.is_same.ensures)
    c.if-not-is_same.false (record {
      given =
          combined_given c.in-Some-operation_of.operation c.in-Some.township c.args.first.now
          c.args.second.now _ _ _ c.in-Some.ensures c.in-Some-valid_township.other
          c.in-Some-valid_township.ensures
          ((same_plats _ _ _ _ c.is_same.result c.plat-plat.ensures c.plat.ensures
          c.is_same.ensures).0 c.if-not-is_same.false) refl refl
          c.write.ensures;
      plat_is = refl;
      answer_is = c.bare-2.ensures;
    })))))
