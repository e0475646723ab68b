-- Laws over the answers of the runs.
use Rattle.std.specs.Prelude.{◌≡◌, ℕ, List, Bool}
use Rattle.twp_plat.specs.Plats.{SurveyPlat}
use Rattle.twp_plat.specs.declared.land_area.Account.{Account}
use Rattle.twp_answers.specs.Answers.{IsLandOnPlat}
use Rattle.twp_answers.specs.Answers.{IsAcresAnswer}
use Rattle.twp_answers.specs.AccountAnswers.{IsAcresAnswerBy}
use Rattle.twp_answers.specs.PlatAnswers.{IsPlatAnswer}
use Rattle.twp_answers.specs.NormalAnswers.{IsNormalAnswer}
use Rattle.twp_answers.specs.Runs.{AnswerRelation}
use Rattle.twp_answers.specs.declared.stop.Verdict.{Verdict}

-- the relation allows at most one answer and one verdict
abbrev pub IsOne : AnswerRelation → Type 0
IsOne Answers = (answer answer' : List ℕ) (verdict verdict' : Verdict)
    → Answers answer verdict → Answers answer' verdict'
    → (answer ≡ answer') × (verdict ≡ verdict')

-- the same field notes and description always have one answer and one verdict
abbrev pub OneAnswer : Type 0
OneAnswer = (notes description : List ℕ) → IsOne (IsAcresAnswer notes description)

-- however land is described, it has only one answer with the same notes
abbrev pub OneAnswerOfLand : Type 0
OneAnswerOfLand = (notes description description' answer answer' : List ℕ)
    (verdict verdict' : Verdict) (plat : SurveyPlat) (places : ℕ → ℕ → ℕ → Bool)
    → IsLandOnPlat notes description plat places → IsLandOnPlat notes description' plat places
    → IsAcresAnswer notes description answer verdict
    → IsAcresAnswer notes description' answer' verdict'
    → (answer ≡ answer') × (verdict ≡ verdict')

-- the same field notes always have one printed plat, or one refusal
abbrev pub OnePlatAnswer : Type 0
OnePlatAnswer = (notes : List ℕ) → IsOne (IsPlatAnswer notes)

-- the same two texts, the field notes and the description, always have one canonical text, or one
-- refusal
abbrev pub OneNormalAnswer : Type 0
OneNormalAnswer = (notes description : List ℕ) → IsOne (IsNormalAnswer notes description)

-- by each account, the same field notes and description always have one answer and one verdict
abbrev pub OneAnswerBy : Type 0
OneAnswerBy = (account : Account) (notes description : List ℕ)
    → IsOne (IsAcresAnswerBy account notes description)
