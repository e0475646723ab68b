-- What each call on land answers, for all that it can be given.
use Rattle.std.specs.Prelude.{◌≡◌, ◌≢◌, ◌==◌, ℕ, List, Bool, Option, Some, None, if◌then◌else◌}
use Rattle.twp_measure.specs.Areas.{Fraction}
use Rattle.twp_grid.specs.Places.{PLACE_DIGITS}
use Rattle.twp_grid.specs.Townships.{Designation}
use Rattle.twp_grid.specs.Lands.{STANDARD_LOTS, union, intersection, difference}
use Rattle.twp_land.specs.Comparisons.{Compares}
use Rattle.twp_land.specs.declared.comparing.Comparison.{Comparison}
use Rattle.twp_land.specs.declared.comparing.Comparison.TheVariants.{Same, Contains, IsContained}
use Rattle.twp_land.specs.declared.comparing.Comparison.TheVariants.{Overlaps, Disjoint}
use Rattle.twp_plat.specs.Plats.{SurveyPlat}
use Rattle.twp_plat.specs.PlatAccounts.{IsAreaBy}
use Rattle.twp_plat.specs.declared.land_area.Account.{Account}
use Rattle.twp_spell.specs.CanonicalText.{IsCanonicalText}
use Rattle.twp_answers.specs.Answers.{IsNoDescription}
use Rattle.twp_answers.specs.OnLands.{IsLandOf, AreAcresOf}
use Rattle.twp_calls.specs.Answers.{ACCEPTED, NO_LAND, NO_TOWNSHIP, NO_OPERATION, OTHER_PLAT}
use Rattle.twp_calls.specs.Answers.{OTHER_TOWNSHIP}
use Rattle.twp_calls.specs.Answers.{bare, accepted_acres}
use Rattle.twp_calls.specs.Calls.{Answers, ByAccount, IsFractionOf, IsRefusedFor, IsTextPut, OnPlat}
use Rattle.twp_calls.specs.GivenLands.{IsGivenLand, IsNoGivenLand}
use Rattle.twp_calls.specs.GivenTownships.{IsGivenTownship, IsNoGivenTownship}
use Rattle.twp_calls.specs.WhichPlats.{REGULAR, plat_of_land}
use Rattle.twp_calls.specs.declared.answer.TownshipAnswer.{TownshipAnswer}
use Rattle.twp_calls.specs.declared.fraction.TownshipFraction.{TownshipFraction}
use Rattle.twp_calls.specs.declared.combining.Operation.{Operation}
use Rattle.twp_calls.specs.declared.combining.Operation.TheVariants as operation
use Rattle.twp_calls.specs.declared.designation.TownshipDesignation.{TownshipDesignation}
use Rattle.twp_calls.specs.declared.land.TownshipLand.{TownshipLand as GivenLand}
use Rattle.twp_calls.specs.declared.plat.TownshipPlat.{TownshipPlat}
use Rattle.twp_calls.specs.declared.which_plat.WhichPlat.{WhichPlat}

-- The given parts are those of a township, for which the call answers, or of none.
pub data InTownship (given : TownshipDesignation) (Answers : Designation → TownshipAnswer → Type 0)
    (answer : TownshipAnswer) : Type 0 where
  in_township : (township : Designation) → IsGivenTownship given township → Answers township answer
      → InTownship given Answers answer
  in_none : IsNoGivenTownship given → answer ≡ bare NO_TOWNSHIP → InTownship given Answers answer

-- The given data is land, for which the call answers, or it is none.
pub data OnLand (given : GivenLand)
    (Answers : Designation → (ℕ → ℕ → ℕ → Bool) → TownshipAnswer → Type 0)
    (answer : TownshipAnswer) : Type 0 where
  on_land : (township : Designation) (places : ℕ → ℕ → ℕ → Bool) → IsGivenLand given township places
      → Answers township places answer → OnLand given Answers answer
  on_no_land : IsNoGivenLand given → answer ≡ bare NO_LAND → OnLand given Answers answer

-- The two are in one township, and this holds of the answer; or they are in different townships.
pub data InOneTownship (township other : Designation) (Answers : TownshipAnswer → Type 0)
    (answer : TownshipAnswer) : Type 0 where
  in_one : township ≡ other → Answers answer → InOneTownship township other Answers answer
  in_two : township ≢ other → answer ≡ bare OTHER_TOWNSHIP
      → InOneTownship township other Answers answer

-- The two are of one plat, and this holds of the answer; or they are of different plats.
pub data OfOnePlat (Same : Type 0) (Answers : TownshipAnswer → Type 0) (answer : TownshipAnswer)
    : Type 0 where
  of_one : Same → Answers answer → OfOnePlat Same Answers answer
  of_two : ¬ Same → answer ≡ bare OTHER_PLAT → OfOnePlat Same Answers answer

-- `township_land_read`: the land that the description names in the township
pub record IsLandRead (township : Designation) (description : List ℕ) (new : GivenLand)
    (answer : TownshipAnswer) : Type 0 where
  pub places : ℕ → ℕ → ℕ → Bool
  pub named : IsLandOf STANDARD_LOTS township description places
  pub given : IsGivenLand new township places
  pub plat_is : plat_of_land new ≡ REGULAR
  pub answer_is : answer ≡ bare ACCEPTED

abbrev pub IsLandReadCall : TownshipDesignation → List ℕ → GivenLand → TownshipAnswer → Type 0
IsLandReadCall given description new = InTownship given (λ township.
    Answers (IsLandRead township description new)
    (IsRefusedFor (IsNoDescription STANDARD_LOTS township description)))

-- the plat of the land has the standard lots
abbrev pub HasStandardLots : GivenLand → Type 0
HasStandardLots land = land.own_lots ≡ 0

-- what a call answers for land on a plat of field notes, which has the standard lots, by an account
abbrev pub OnPlatAndLand : TownshipPlat → GivenLand → ℕ
    → (SurveyPlat → Account → (ℕ → ℕ → ℕ → Bool) → TownshipAnswer → Type 0)
    → TownshipAnswer → Type 0
OnPlatAndLand given land code Accepted =
    OnPlat given (λ plat. OnLand land (λ township places. ByAccount code (λ account.
    InOneTownship plat.township township
    (OfOnePlat (HasStandardLots land) (Accepted plat account places)))))

-- `township_land_acres`: the hundredths of an acre of the land
pub record HasLandAcres (plat : SurveyPlat) (account : Account) (places : ℕ → ℕ → ℕ → Bool)
    (answer : TownshipAnswer) : Type 0 where
  pub hundredths : ℕ
  pub acres : AreAcresOf plat account places hundredths
  pub answer_is : answer ≡ accepted_acres hundredths

abbrev pub IsLandAcresCall : TownshipPlat → GivenLand → ℕ → TownshipAnswer → Type 0
IsLandAcresCall given land code = OnPlatAndLand given land code HasLandAcres

-- `township_land_area`: the parts of the exact area of the land
pub record HasLandArea (new : TownshipFraction) (plat : SurveyPlat) (account : Account)
    (places : ℕ → ℕ → ℕ → Bool) (answer : TownshipAnswer) : Type 0 where
  pub area : Fraction
  pub area_is : IsAreaBy account PLACE_DIGITS plat places area
  pub parts : IsFractionOf new area
  pub answer_is : answer ≡ bare ACCEPTED

abbrev pub IsLandAreaCall : TownshipPlat → GivenLand → ℕ → TownshipFraction → TownshipAnswer → Type 0
IsLandAreaCall given land code new = OnPlatAndLand given land code (HasLandArea new)

-- what a call answers for land on any plat with the standard lots
abbrev pub OnRegularLand : GivenLand → (Designation → (ℕ → ℕ → ℕ → Bool) → TownshipAnswer → Type 0)
    → TownshipAnswer → Type 0
OnRegularLand land Accepted = OnLand land (λ township places.
    OfOnePlat (HasStandardLots land) (Accepted township places))

-- `township_land_text`: the canonical text of the land, which nothing refuses
abbrev pub IsLandTextCall : GivenLand → List ℕ → List ℕ → TownshipAnswer → Type 0
IsLandTextCall land old new = OnRegularLand land (λ township places.
    Answers (IsTextPut (IsCanonicalText STANDARD_LOTS township places) old new) (λ answer. ⊥))

-- the operation that a number stands for
abbrev pub operation_of : ℕ → Option Operation
operation_of code =
    if code == 0 then Some operation.Union
    else if code == 1 then Some operation.Intersection
    else if code == 2 then Some operation.Difference
    else None

-- the places that an operation makes of two sets
abbrev pub combined : Operation → (ℕ → ℕ → ℕ → Bool) → (ℕ → ℕ → ℕ → Bool) → ℕ → ℕ → ℕ → Bool
combined operation.Union places more = union places more
combined operation.Intersection places more = intersection places more
combined operation.Difference places more = difference places more

-- The given number stands for an operation, by which the call answers, or for none.
pub data ByOperation (code : ℕ) (Answers : Operation → TownshipAnswer → Type 0)
    (answer : TownshipAnswer) : Type 0 where
  by_operation : (by : Operation) → operation_of code ≡ Some by → Answers by answer
      → ByOperation code Answers answer
  by_no_operation : operation_of code ≡ None → answer ≡ bare NO_OPERATION
      → ByOperation code Answers answer

-- what a call answers for two sets of land, which are on one plat of a township
abbrev pub OnOnePlat : GivenLand → GivenLand → Designation → Designation
    → (TownshipAnswer → Type 0) → TownshipAnswer → Type 0
OnOnePlat first second township other Accepted = InOneTownship township other
    (OfOnePlat (plat_of_land first ≡ plat_of_land second) Accepted)

-- `township_land_combine`: the land on this plat that the operation makes of the two
pub record IsCombined (by : Operation) (township : Designation) (plat : WhichPlat)
    (places more : ℕ → ℕ → ℕ → Bool) (new : GivenLand) (answer : TownshipAnswer) : Type 0 where
  pub given : IsGivenLand new township (combined by places more)
  pub plat_is : plat_of_land new ≡ plat
  pub answer_is : answer ≡ bare ACCEPTED

abbrev pub IsCombineCall : GivenLand → GivenLand → ℕ → GivenLand → TownshipAnswer → Type 0
IsCombineCall first second code new = OnLand first (λ township places.
    OnLand second (λ other more. ByOperation code (λ by. OnOnePlat first second township other
    (IsCombined by township (plat_of_land first) places more new))))

-- the number of a comparison
abbrev pub code_of_comparison : Comparison → ℕ
code_of_comparison Same = 0
code_of_comparison Contains = 1
code_of_comparison IsContained = 2
code_of_comparison Overlaps = 3
code_of_comparison Disjoint = 4

-- `township_land_compare`: how the first land compares to the second
pub record HasComparison (places more : ℕ → ℕ → ℕ → Bool) (new : ℕ) (answer : TownshipAnswer)
    : Type 0 where
  pub comparison : Comparison
  pub compares : Compares comparison places more
  pub code_is : new ≡ code_of_comparison comparison
  pub answer_is : answer ≡ bare ACCEPTED

abbrev pub IsCompareCall : GivenLand → GivenLand → ℕ → TownshipAnswer → Type 0
IsCompareCall first second new = OnLand first (λ township places. OnLand second (λ other more.
    OnOnePlat first second township other (HasComparison places more new)))
