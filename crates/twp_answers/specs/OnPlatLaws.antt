-- Laws of the answers on an existing plat: with notes that make the plat, they are the answers of
-- the runs.
use Rattle.std.specs.Prelude.{◌≡◌, ◌↔◌, ℕ, List}
use Rattle.twp_measure.specs.Areas.{Fraction}
use Rattle.twp_grid.specs.declared.refusal.Refusal.{Refusal}
use Rattle.twp_plat.specs.Plats.{SurveyPlat}
use Rattle.twp_plat.specs.declared.land_area.Account.{Account}
use Rattle.twp_answers.specs.Answers.{ArePlatted, IsNoDescription, IsRefusal}
use Rattle.twp_answers.specs.AccountAnswers.{HasAcresBy}
use Rattle.twp_answers.specs.NormalAnswers.{IsNormalForm}
use Rattle.twp_answers.specs.PlatAnswers.{IsPrintedPlat}
use Rattle.twp_answers.specs.OnPlats.{HasAreaOn, HasAcresOn, HasNormalOn, IsTextOfPlat}
use Rattle.twp_grid.specs.Lands.{STANDARD_LOTS}

-- with any notes that make the plat, the acres on it are those of the notes and the description
abbrev pub AcresOnAreOfNotes : Type 0
AcresOnAreOfNotes = (notes description : List ℕ) (plat : SurveyPlat) (account : Account)
    (hundredths : ℕ) → ArePlatted notes plat
    → HasAcresOn plat description account hundredths
    ↔ HasAcresBy account notes description hundredths

-- so is the canonical text
abbrev pub NormalOnIsOfNotes : Type 0
NormalOnIsOfNotes = (notes description text : List ℕ) (plat : SurveyPlat)
    → ArePlatted notes plat
    → HasNormalOn plat description text ↔ IsNormalForm notes description text

-- so is the text of the plat
abbrev pub TextOfPlatIsOfNotes : Type 0
TextOfPlatIsOfNotes = (notes text : List ℕ) (plat : SurveyPlat) → ArePlatted notes plat
    → IsTextOfPlat plat text ↔ IsPrintedPlat notes text

-- bytes are refused on the plat exactly as they are with the notes
abbrev pub RefusalOnIsOfNotes : Type 0
RefusalOnIsOfNotes = (notes description : List ℕ) (plat : SurveyPlat) (refusal : Refusal)
    → ArePlatted notes plat
    → IsNoDescription STANDARD_LOTS plat.township description refusal ↔ IsRefusal notes description refusal

-- bytes that have an area on a plat are not refused there
abbrev pub AnsweredOrRefusedOn : Type 0
AnsweredOrRefusedOn = (description : List ℕ) (plat : SurveyPlat) (account : Account)
    (area : Fraction) (refusal : Refusal) → HasAreaOn plat description account area
    → ¬ IsNoDescription STANDARD_LOTS plat.township description refusal

-- a description has only one area on a plat by each account
abbrev pub OneAreaOn : Type 0
OneAreaOn = (description : List ℕ) (plat : SurveyPlat) (account : Account)
    (area area' : Fraction) → HasAreaOn plat description account area
    → HasAreaOn plat description account area' → area ≡ area'
