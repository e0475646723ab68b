-- What the calls on land by a lot table answer, by what their stages came to; over plain values.
use Rattle.std.proofs.Common.{◌≡◌, ◌⊎◌, ◌↔◌, ℕ, zero, suc, Bool, IsTrue, List, refl, sym}
use Rattle.std.proofs.Common.{◌∙◌, ap, arith, inl, inr, subst}
use Rattle.std.proofs.Math.Dec.{eqb-suc-zero}
use Rattle.twp_grid.specs.Lands.{HasWholeLots, Lotting, STANDARD_LOTS, lotting}
use Rattle.twp_land.specs.LotMaps.{layout_of_plat}
use Rattle.twp_plat.specs.LotTables.{lots_of}
use Rattle.twp_grid.specs.Townships.{Designation}
use Rattle.twp_answers.specs.Answers.{IsNoDescription}
use Rattle.twp_answers.specs.OnPlats.{StopsOn}
use Rattle.twp_answers.specs.declared.stop.Stop.{Stop}
use Rattle.twp_calls.specs.Answers.{stopped}
use Rattle.twp_calls.specs.Calls.{Answers, IsRefusedFor}
use Rattle.twp_calls.specs.LandCalls.{in_one, in_two, of_one, of_two, on_land, on_no_land}
use Rattle.twp_calls.specs.LotCalls.{by_lots, by_no_lots}
use Rattle.twp_calls.specs.LotLandCalls.{OnTableLand, with_part, with_whole}
use Rattle.twp_calls.specs.WhichPlats.{IsMeasuredBy, code_of_lots, plat_of_land, plat_of_lots}
use Rattle.twp_calls.specs.declared.which_plat.WhichPlat.{WhichPlat}
use Rattle.twp_calls.specs.declared.answer.TownshipAnswer.{TownshipAnswer}
use Rattle.twp_calls.specs.declared.land.TownshipLand.{TownshipLand as GivenLand}
use Rattle.twp_calls.specs.declared.lots.TownshipLots.{TownshipLots as GivenLots}
use Rattle.twp_calls.specs.steps.LotSteps.{IsNoTableLand, IsTableLand}
use Rattle.twp_calls.proofs.CallFacts.{stopped_on}

-- the call answers for the land on the table's plat
pub table_land : (Accepted : Designation → (ℕ → ℕ → ℕ → Bool) → TownshipAnswer → Type 0)
    (given : GivenLots) (land : GivenLand) (township : Designation) (places : ℕ → ℕ → ℕ → Bool)
    (answer : TownshipAnswer) → IsTableLand given land township places
    → Accepted township places answer → OnTableLand given land Accepted answer
table_land Accepted given land township places answer is accepted =
    by_lots township is.township_is (on_land township places is.land_is
    (in_one refl (of_one is.plat_is (with_whole is.whole accepted))))

-- the call answers why there is none, as each does
pub no_table_land : (Accepted : Designation → (ℕ → ℕ → ℕ → Bool) → TownshipAnswer → Type 0)
    (given : GivenLots) (land : GivenLand) (answer : TownshipAnswer) → IsNoTableLand given land answer
    → OnTableLand given land Accepted answer
no_table_land Accepted given land answer (by_no_lots none answer_is) = by_no_lots none answer_is
no_table_land Accepted given land answer (by_lots township is (on_no_land none answer_is)) =
    by_lots township is (on_no_land none answer_is)
no_table_land Accepted given land answer (by_lots township is (on_land other places land_is
    (in_two apart answer_is))) =
    by_lots township is (on_land other places land_is (in_two apart answer_is))
no_table_land Accepted given land answer (by_lots township is (on_land other places land_is
    (in_one same (of_two apart answer_is)))) =
    by_lots township is (on_land other places land_is (in_one same (of_two apart answer_is)))
no_table_land Accepted given land answer (by_lots township is (on_land other places land_is
    (in_one same (of_one plat (with_part part answer_is))))) =
    by_lots township is (on_land other places land_is
    (in_one same (of_one plat (with_part part answer_is))))
no_table_land Accepted given land answer (by_lots township is (on_land other places land_is
    (in_one same (of_one plat (with_whole whole none))))) = absurd none

-- a description that is refused on the table's plat, or for which memory ran out
pub stops_by_table : {lots : Lotting} (Accepted : TownshipAnswer → Type 0) (township : Designation)
    (description : List ℕ) (stopping : Stop) (answer : TownshipAnswer) → answer ≡ stopped stopping
    → StopsOn lots township description stopping
    → Answers Accepted (IsRefusedFor (IsNoDescription lots township description)) answer
stops_by_table {lots = lots} Accepted township description stopping answer same stops =
    subst (Answers Accepted (IsRefusedFor (IsNoDescription lots township description))) (sym same)
    (stopped_on Accepted township description stopping stops)

-- the plats that were compared are those of the land and the table
pub measured : (one other land table : WhichPlat) (is : Bool) → one ≡ land → other ≡ table
    → (IsTrue is ↔ IsMeasuredBy one other) → (IsTrue is ↔ IsMeasuredBy land table)
measured one other land table is one_is other_is tells =
    subst (λ p. IsTrue is ↔ IsMeasuredBy p table) one_is
    (subst (λ q. IsTrue is ↔ IsMeasuredBy one q) other_is tells)

-- the lots of a table that doesn't say where they lie are the standard ones
standard_lots : (mapped : ℕ) (positions divided : List ℕ) → code_of_lots mapped ≡ 0
    → lotting (layout_of_plat mapped positions divided) ≡ STANDARD_LOTS
standard_lots zero positions divided is = refl
standard_lots (suc more) positions divided is =
    absurd (let one : 1 ≡ 0 = rw (eqb-suc-zero more) at is in omega arith)

-- and so are those of a table by which land with the standard lots is measured
own_of_table : (land table : WhichPlat) → land.own_lots ≡ 0 → IsMeasuredBy land table → table.own_lots ≡ 0
own_of_table land table none (inl same) = ap (λ (plat : WhichPlat). plat.own_lots) (sym same) ∙ none
own_of_table land table none (inr (regular, is)) = is

pub whole_on_table : (given : GivenLots) (land : GivenLand) (places : ℕ → ℕ → ℕ → Bool)
    → land.own_lots ≡ 0 → IsMeasuredBy (plat_of_land land) (plat_of_lots given)
    → HasWholeLots STANDARD_LOTS places → HasWholeLots (lots_of given.lots) places
whole_on_table given land places none is whole =
    subst (λ lots. HasWholeLots lots places)
    (sym (standard_lots given.lots.plat.mapped given.lots.plat.map.positions given.lots.plat.map.divided
    (own_of_table (plat_of_land land) (plat_of_lots given) none is)))
    whole
