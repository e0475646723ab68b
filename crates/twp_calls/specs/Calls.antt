-- What each call of the library answers, for all that it can be given.
use Rattle.std.specs.Prelude.{◌≡◌, ℕ, ◌+◌, ◌*◌, ◌^◌, ◌<◌, ◌≤◌, ◌++◌, List, length, drop, Option, Some, None}
use Rattle.std.specs.Prelude.{◌==◌, if◌then◌else◌, codes}
use Rattle.twp_measure.specs.Areas.{Fraction}
use Rattle.twp_grid.specs.declared.refusal.Refusal.{Refusal}
use Rattle.twp_plat.specs.Plats.{SurveyPlat}
use Rattle.twp_plat.specs.declared.land_area.Account.{Account}
use Rattle.twp_plat.specs.declared.land_area.Account.TheVariants.{Exact, Plat}
use Rattle.twp_answers.specs.Answers.{ArePlatted, IsNoPlat, IsNoDescription}
use Rattle.twp_answers.specs.OnPlats.{HasAcresOn, HasAreaOn, HasNormalOn, IsTextOfPlat}
use Rattle.twp_answers.specs.ReportAnswers.{IsAccountOf}
use Rattle.twp_answers.specs.TractFaults.{IsFirstTractFault, verdict_of}
use Rattle.twp_answers.specs.declared.stop.Verdict.{Verdict}
use Rattle.twp_answers.specs.declared.tract_fault.TractFault.{TractFault}
use Rattle.twp_calls.specs.Answers.{ACCEPTED, NO_PLAT, NO_ACCOUNT, NO_MEMORY, bare, accepted_acres}
use Rattle.twp_calls.specs.Answers.{with_text, without_room, refused, verdict_answer}
use Rattle.twp_calls.specs.GivenPlats.{IsGivenPlat, IsNoGivenPlat, given_of}
use Rattle.twp_calls.specs.declared.answer.TownshipAnswer.{TownshipAnswer}
use Rattle.twp_calls.specs.declared.plat.TownshipPlat.{TownshipPlat}
use Rattle.twp_calls.specs.declared.fraction.TownshipFraction.{TownshipFraction}
use Rattle.twp_grid.specs.Lands.{STANDARD_LOTS}

-- The given parts are those of a plat, on which the call answers, or of none.
pub data OnPlat (given : TownshipPlat) (Answers : SurveyPlat → TownshipAnswer → Type 0)
    (answer : TownshipAnswer) : Type 0 where
  on_plat : (plat : SurveyPlat) → IsGivenPlat given plat → Answers plat answer
      → OnPlat given Answers answer
  on_none : IsNoGivenPlat given → answer ≡ bare NO_PLAT → OnPlat given Answers answer

-- the account that a number stands for
abbrev pub account_of : ℕ → Option Account
account_of code = if code == 0 then Some Exact else if code == 1 then Some Plat else None

-- The given number stands for an account, by which the call answers, or for none.
pub data ByAccount (code : ℕ) (Answers : Account → TownshipAnswer → Type 0)
    (answer : TownshipAnswer) : Type 0 where
  by_account : (account : Account) → account_of code ≡ Some account → Answers account answer
      → ByAccount code Answers answer
  by_none : account_of code ≡ None → answer ≡ bare NO_ACCOUNT → ByAccount code Answers answer

-- The input is accepted, and this holds of the answer; or it is refused, and this; or memory ran out.
pub data Answers (Accepted Refused : TownshipAnswer → Type 0) (answer : TownshipAnswer) : Type 0 where
  accepted : Accepted answer → Answers Accepted Refused answer
  refused_for : Refused answer → Answers Accepted Refused answer
  no_memory : answer ≡ bare NO_MEMORY → Answers Accepted Refused answer

-- the answer is the refusal of the first fault
pub record IsRefusedFor (HasFirst : Refusal → Type 0) (answer : TownshipAnswer) : Type 0 where
  pub refusal : Refusal
  pub first : HasFirst refusal
  pub answer_is : answer ≡ refused refusal

-- A text was written at the front of the room, beside an answer; or there is less room than it has
-- bytes.
pub data IsPut (explained : TownshipAnswer) (text old new : List ℕ) (answer : TownshipAnswer)
    : Type 0 where
  put : length text ≤ length old → new ≡ text ++ drop (length text) old
      → answer ≡ with_text explained (length text) → IsPut explained text old new answer
  not_put : length old < length text → answer ≡ without_room explained (length text)
      → IsPut explained text old new answer

-- such a text was put there
pub record IsTextPut (IsSuch : List ℕ → Type 0) (old new : List ℕ) (answer : TownshipAnswer)
    : Type 0 where
  pub text : List ℕ
  pub is : IsSuch text
  pub put_is : IsPut (bare ACCEPTED) text old new answer

-- `township_read`: the parts of the plat that the notes make
pub record IsRead (notes : List ℕ) (new : TownshipPlat) (answer : TownshipAnswer) : Type 0 where
  pub plat : SurveyPlat
  pub platted : ArePlatted notes plat
  pub parts : new ≡ given_of plat
  pub answer_is : answer ≡ bare ACCEPTED

abbrev pub IsReadCall : List ℕ → TownshipPlat → TownshipAnswer → Type 0
IsReadCall notes new = Answers (IsRead notes new) (IsRefusedFor (IsNoPlat notes))

-- `township_acres`: the hundredths of an acre of the land described
pub record AnswersAcres (plat : SurveyPlat) (description : List ℕ) (account : Account)
    (answer : TownshipAnswer) : Type 0 where
  pub hundredths : ℕ
  pub has : HasAcresOn plat description account hundredths
  pub answer_is : answer ≡ accepted_acres hundredths

-- what a call answers on the plat that the parts make, of a description
abbrev pub OfDescription : TownshipPlat → List ℕ → (SurveyPlat → TownshipAnswer → Type 0)
    → TownshipAnswer → Type 0
OfDescription given description Accepted = OnPlat given (λ plat.
    Answers (Accepted plat) (IsRefusedFor (IsNoDescription STANDARD_LOTS plat.township description)))

-- the same by an account
abbrev pub OfDescriptionBy : TownshipPlat → List ℕ → ℕ
    → (SurveyPlat → Account → TownshipAnswer → Type 0) → TownshipAnswer → Type 0
OfDescriptionBy given description code Accepted = OnPlat given (λ plat. ByAccount code (λ account.
    Answers (Accepted plat account) (IsRefusedFor (IsNoDescription STANDARD_LOTS plat.township description))))

abbrev pub IsAcresCall : TownshipPlat → List ℕ → ℕ → TownshipAnswer → Type 0
IsAcresCall given description code = OfDescriptionBy given description code (λ plat account.
    AnswersAcres plat description account)

-- the parts of an area: its units in two words of 64 bits, and their denominator
pub record IsFractionOf (parts : TownshipFraction) (area : Fraction) : Type 0 where
  pub units : parts.units_low + 2 ^ 64 * parts.units_high ≡ area.units
  pub over : parts.over ≡ area.over

-- `township_area`: the parts of the exact area of the land described
pub record HasArea (plat : SurveyPlat) (description : List ℕ) (account : Account)
    (new : TownshipFraction) (answer : TownshipAnswer) : Type 0 where
  pub area : Fraction
  pub has : HasAreaOn plat description account area
  pub parts : IsFractionOf new area
  pub answer_is : answer ≡ bare ACCEPTED

abbrev pub IsAreaCall : TownshipPlat → List ℕ → ℕ → TownshipFraction → TownshipAnswer → Type 0
IsAreaCall given description code new = OfDescriptionBy given description code (λ plat account.
    HasArea plat description account new)

-- `township_normal`: the canonical text of the land described
abbrev pub IsNormalCall : TownshipPlat → List ℕ → List ℕ → List ℕ → TownshipAnswer → Type 0
IsNormalCall given description old new = OfDescription given description (λ plat.
    IsTextPut (HasNormalOn plat description) old new)

-- `township_print`: the text of the plat, which nothing refuses
abbrev pub IsPrintCall : TownshipPlat → List ℕ → List ℕ → TownshipAnswer → Type 0
IsPrintCall given old new = OnPlat given (λ plat.
    Answers (IsTextPut (IsTextOfPlat plat) old new) (λ answer. ⊥))

-- the answer is the verdict on the first fault of the list
pub record IsRefusedList (plat : SurveyPlat) (list : List ℕ) (answer : TownshipAnswer)
    : Type 0 where
  pub fault : TractFault
  pub first : IsFirstTractFault STANDARD_LOTS plat.township list fault
  pub verdict : Verdict
  pub verdict_is : verdict_of fault ≡ Some verdict
  pub answer_is : answer ≡ verdict_answer verdict

-- `township_report`: the account of the list
abbrev pub IsReportCall : TownshipPlat → List ℕ → List ℕ → List ℕ → TownshipAnswer → Type 0
IsReportCall given list old new = OnPlat given (λ plat.
    Answers (IsTextPut (IsAccountOf plat list) old new) (IsRefusedList plat list))

-- `township_version`: the text of the version
abbrev pub IsVersionCall : List ℕ → List ℕ → TownshipAnswer → Type 0
IsVersionCall old new = IsTextPut (λ text. text ≡ codes "1.0.0") old new
