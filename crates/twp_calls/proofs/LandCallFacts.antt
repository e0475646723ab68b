-- What the calls on land answer, by what their stages came to; over plain values.
use Rattle.std.proofs.Common.{◌≡◌, ◌⊎◌, ℕ, Bool, List, ap, sym, subst, ◌∙◌, refl, inl, inr}
use Rattle.std.proofs.Common.{true, false, ◌≢◌, ◌↔◌, ◌≤◌, IsTrue, arith}
use Rattle.std.proofs.Math.Dec.{eqb}
use Rattle.std.proofs.lemmas.Bool.Decides.{eqb_tells}
use Rattle.std.proofs.lemmas.Bool.{false≢true}
use Rattle.twp_grid.specs.Townships.{Designation}
use Rattle.twp_grid.specs.Lands.{HasWholeLots}
use Rattle.twp_grid.specs.Lands.{STANDARD_LOTS}
use Rattle.twp_land.specs.Storage.{land_of_rows}
use Rattle.twp_land.proofs.CombinedLots.{combined_lots_are_whole}
use Rattle.twp_land.proofs.WholeDecided.{whole_lots_decided}
use Rattle.twp_answers.specs.Answers.{IsNoDescription}
use Rattle.twp_answers.specs.OnPlats.{StopsOn}
use Rattle.twp_answers.specs.declared.stop.Stop.{Stop}
use Rattle.twp_calls.specs.Answers.{NO_LAND, OTHER_PLAT, OTHER_TOWNSHIP, bare, stopped}
use Rattle.twp_calls.specs.Calls.{Answers, IsRefusedFor}
use Rattle.twp_calls.specs.LandCalls.{InOneTownship, InTownship, OfOnePlat, OnLand, combined, in_one}
use Rattle.twp_calls.specs.LandCalls.{in_township, in_two, of_one, of_two, on_land, on_no_land}
use Rattle.twp_calls.specs.GivenLands.{IsGivenLand, IsNoGivenLand}
use Rattle.twp_calls.specs.GivenTownships.{IsGivenTownship, IsNoGivenTownship}
use Rattle.twp_calls.specs.declared.answer.TownshipAnswer.{TownshipAnswer}
use Rattle.twp_calls.specs.declared.combining.Operation.{Operation}
use Rattle.twp_calls.specs.declared.combining.Operation.TheVariants as operation
use Rattle.twp_calls.specs.declared.designation.TownshipDesignation.{TownshipDesignation}
use Rattle.twp_calls.specs.declared.land.TownshipLand.{TownshipLand as GivenLand}
use Rattle.twp_calls.specs.WhichPlats.{plat_of_land}
use Rattle.twp_calls.specs.declared.which_plat.WhichPlat.{WhichPlat}
use Rattle.twp_calls.specs.steps.LandSteps.{AreLotsValid}
use Rattle.twp_calls.proofs.CallFacts.{stopped_on}

-- the townships differ, or are the same
pub differ : (Holds : TownshipAnswer → Type 0) (township other found : Designation) (same : Bool)
    (answer : TownshipAnswer) → found ≡ township → (IsTrue same ↔ (found ≡ other)) → same ≡ false
    → answer ≡ bare OTHER_TOWNSHIP → InOneTownship township other Holds answer
differ Holds township other found same answer found_is is false_is answer_is =
    in_two (λ one. false≢true (sym false_is ∙ is.1 (found_is ∙ one))) answer_is

pub agree : (Holds : TownshipAnswer → Type 0) (township other found : Designation) (same : Bool)
    (answer : TownshipAnswer) → found ≡ township → (IsTrue same ↔ (found ≡ other)) → same ≡ true
    → Holds answer → InOneTownship township other Holds answer
agree Holds township other found same answer found_is is true_is holds =
    in_one (sym found_is ∙ is.0 true_is) holds

-- a description that is refused in a township, or for which memory ran out
pub stops_in : (given : TownshipDesignation) (township : Designation) → IsGivenTownship given township
    → (Accepted : Designation → TownshipAnswer → Type 0) (description : List ℕ) (stopping : Stop)
    (answer : TownshipAnswer) → answer ≡ stopped stopping
    → StopsOn STANDARD_LOTS township description stopping
    → InTownship given (λ township. Answers (Accepted township)
    (IsRefusedFor (IsNoDescription STANDARD_LOTS township description))) answer
stops_in given township is Accepted description stopping answer same stops =
    in_township township is
    (subst (Answers (Accepted township) (IsRefusedFor (IsNoDescription STANDARD_LOTS township description)))
    (sym same)
    (stopped_on (Accepted township) township description stopping stops))

-- the land that an operation makes has whole lots
pub combined_whole : (by : Operation) (places more : ℕ → ℕ → ℕ → Bool) → HasWholeLots STANDARD_LOTS places
    → HasWholeLots STANDARD_LOTS more → HasWholeLots STANDARD_LOTS (combined by places more)
combined_whole operation.Union places more whole other =
    (combined_lots_are_whole STANDARD_LOTS places more whole other).0
combined_whole operation.Intersection places more whole other =
    (combined_lots_are_whole STANDARD_LOTS places more whole other).1
combined_whole operation.Difference places more whole other =
    (combined_lots_are_whole STANDARD_LOTS places more whole other).2

-- the lots of the data are valid or not
pub lots_decided : (given : GivenLand) → AreLotsValid given ⊎ ¬ AreLotsValid given
lots_decided given =
    go (whole_lots_decided (land_of_rows given.rows)) (eqb_tells given.own_lots 0)
    (eqb_tells given.own_lots 1)
  where
    go : HasWholeLots STANDARD_LOTS (land_of_rows given.rows)
        ⊎ ¬ HasWholeLots STANDARD_LOTS (land_of_rows given.rows)
        → ((eqb given.own_lots 0 ≡ true) × (given.own_lots ≡ 0))
        ⊎ ((eqb given.own_lots 0 ≡ false) × (given.own_lots ≢ 0))
        → ((eqb given.own_lots 1 ≡ true) × (given.own_lots ≡ 1))
        ⊎ ((eqb given.own_lots 1 ≡ false) × (given.own_lots ≢ 1))
        → AreLotsValid given ⊎ ¬ AreLotsValid given
    go (inl whole) (inl standard) one =
        inl (record { lots_are = omega (arith, standard.1); whole = λ none. whole })
    go (inr cut) (inl standard) one = inr (λ valid. cut (valid.whole standard.1))
    go whole (inr own) (inl one) =
        inl (record { lots_are = omega (arith, one.1); whole = λ none. absurd (own.1 none) })
    go whole (inr own) (inr other) = inr (λ valid. other.1 (omega (arith, valid.lots_are, own.1)))

-- the data is land where it stands
pub given_land : (given : GivenLand) (township : Designation)
    → IsGivenTownship given.township township → AreLotsValid given
    → IsGivenLand given township (land_of_rows given.rows)
given_land given township is valid = record {
  township_is = is;
  places_are = refl;
  lots_are = valid.lots_are;
  whole = valid.whole;
}

-- and its lots are valid then
pub valid_lots : (given : GivenLand) (township : Designation) (places : ℕ → ℕ → ℕ → Bool)
    → IsGivenLand given township places → AreLotsValid given
valid_lots given township places is = record {
  lots_are = is.lots_are;
  whole = λ none. subst (HasWholeLots STANDARD_LOTS) is.places_are (is.whole none);
}

-- the data has no township, or its lots are not valid
pub without_township : (given : GivenLand) → IsNoGivenTownship given.township → IsNoGivenLand given
without_township given none township places is = none township is.township_is

pub without_lots : (given : GivenLand) → ¬ AreLotsValid given → IsNoGivenLand given
without_lots given none township places is = none (valid_lots given township places is)

-- The data has a township, and the call answers that some data is no land: this data, if its lots are not
-- valid.
pub no_land_unless : (given : GivenLand) (township : Designation) → IsGivenTownship given.township township
    → (Answers : Designation → (ℕ → ℕ → ℕ → Bool) → TownshipAnswer → Type 0) (answer : TownshipAnswer)
    → answer ≡ bare NO_LAND
    → (AreLotsValid given → Answers township (land_of_rows given.rows) answer)
    → OnLand given Answers answer
no_land_unless given township is Answers answer none other = go (lots_decided given)
  where
    go : AreLotsValid given ⊎ ¬ AreLotsValid given → OnLand given Answers answer
    go (inl valid) =
        on_land township (land_of_rows given.rows) (given_land given township is valid) (other valid)
    go (inr invalid) = on_no_land (without_lots given invalid) none

-- the two are on one plat, or on different ones
pub on_one : (Same : Type 0) (Holds : TownshipAnswer → Type 0) (same : Bool) (answer : TownshipAnswer)
    → (IsTrue same ↔ Same) → same ≡ true → Holds answer → OfOnePlat Same Holds answer
on_one Same Holds same answer is true_is holds = of_one (is.0 true_is) holds

pub on_two : (Same : Type 0) (Holds : TownshipAnswer → Type 0) (same : Bool) (answer : TownshipAnswer)
    → (IsTrue same ↔ Same) → same ≡ false → answer ≡ bare OTHER_PLAT → OfOnePlat Same Holds answer
on_two Same Holds same answer is false_is answer_is =
    of_two (λ one. false≢true (sym false_is ∙ is.1 one)) answer_is

-- the land that an operation makes of two lands on one plat
pub combined_given : (by : Operation) (township : Designation) (first second made : GivenLand)
    (places more : ℕ → ℕ → ℕ → Bool) → IsGivenLand first township places
    → (other : Designation) → IsGivenLand second other more
    → plat_of_land first ≡ plat_of_land second
    → made.township ≡ first.township → made.own_lots ≡ first.own_lots
    → land_of_rows made.rows ≡ combined by places more
    → IsGivenLand made township (combined by places more)
combined_given by township first second made places more is other also same township_is lots_are rows_are =
    let own : first.own_lots ≡ second.own_lots = ap (λ (plat : WhichPlat). plat.own_lots) same in
    record {
      township_is = subst (λ given. IsGivenTownship given township) (sym township_is) is.township_is;
      places_are = sym rows_are;
      lots_are = rw lots_are is.lots_are;
      whole = λ none.
          let standard : first.own_lots ≡ 0 = sym lots_are ∙ none in
          combined_whole by places more (is.whole standard) (also.whole (sym own ∙ standard));
    }

-- the plats that were compared are those of the two
pub same_plats : (one other first second : WhichPlat) (same : Bool) → one ≡ first → other ≡ second
    → (IsTrue same ↔ (one ≡ other)) → (IsTrue same ↔ (first ≡ second))
same_plats one other first second same one_is other_is is = (
  λ true_is. sym one_is ∙ is.0 true_is ∙ other_is,
  λ alike. is.1 (one_is ∙ alike ∙ sym other_is),
)
