-- The answers on an existing plat: for the bytes of a description, its acres, its area, and its
-- canonical text, or the first fault; and the text of the plat itself.
use Rattle.std.specs.Prelude.{◌≡◌, ℕ, List, Bool, Result, Ok, Err}
use Rattle.twp_measure.specs.Areas.{Fraction, IsRounded}
use Rattle.twp_grid.specs.Places.{PLACE_DIGITS}
use Rattle.twp_grid.specs.Townships.{Designation}
use Rattle.twp_plat.specs.Plats.{SurveyPlat}
use Rattle.twp_plat.specs.PlatAccounts.{IsAreaBy}
use Rattle.twp_plat.specs.PlatFigures.{PlatFigures, AreFigures}
use Rattle.twp_plat.specs.declared.land_area.Account.{Account}
use Rattle.twp_spell.specs.CanonicalText.{IsCanonicalText}
use Rattle.twp_answers.specs.Answers.{Describe, IsNoDescription}
use Rattle.twp_answers.specs.PlatAnswers.{plat_text}
use Rattle.twp_answers.specs.declared.stop.Stop.{Stop}
use Rattle.twp_answers.specs.declared.stop.Stop.TheVariants as stop
use Rattle.twp_answers.specs.declared.stop.RunFault.TheVariants as run
use Rattle.twp_grid.specs.Lands.{Lotting, STANDARD_LOTS}

-- the bytes describe land on the plat, and this is its area by the account
pub record HasAreaOn (plat : SurveyPlat) (description : List ℕ) (account : Account)
    (area : Fraction) : Type 0 where
  pub places : ℕ → ℕ → ℕ → Bool
  pub described : Describe STANDARD_LOTS plat.township description places
  pub area_is : IsAreaBy account PLACE_DIGITS plat places area

-- The bytes describe land on the plat, and these are its hundredths of an acre by the account: its
-- area, rounded once, half up.
pub record HasAcresOn (plat : SurveyPlat) (description : List ℕ) (account : Account)
    (hundredths : ℕ) : Type 0 where
  pub area : Fraction
  pub area_is : HasAreaOn plat description account area
  pub rounded : IsRounded area hundredths

-- the bytes describe land on the plat, and this is its canonical text
pub record HasNormalOn (plat : SurveyPlat) (description text : List ℕ) : Type 0 where
  pub places : ℕ → ℕ → ℕ → Bool
  pub described : Describe STANDARD_LOTS plat.township description places
  pub text_is : IsCanonicalText STANDARD_LOTS plat.township places text

-- this is the text of the plat
pub record IsTextOfPlat (plat : SurveyPlat) (text : List ℕ) : Type 0 where
  pub figures : PlatFigures
  pub are : AreFigures plat figures
  pub text_is : text ≡ plat_text figures

-- why there is no answer: the bytes are not a description of land on the plat of the township, for
-- their first fault, or memory ran out
abbrev pub StopsOn : Lotting → Designation → List ℕ → Stop → Type 0
StopsOn lots township description (stop.Refused refusal) =
    IsNoDescription lots township description refusal
StopsOn lots township description (stop.Failed fault) = fault ≡ run.Memory

-- the answer for the bytes on the plat, or why there is none
abbrev pub AnswersOn : {T : Type 0} → (T → Type 0) → SurveyPlat → List ℕ → Result T Stop
    → Type 0
AnswersOn Has plat description (Ok answer) = Has answer
AnswersOn Has plat description (Err stopped) = StopsOn STANDARD_LOTS plat.township description stopped
