-- The steps of the runs: what they read, and their answers on the plat of the notes. No public
-- contract cites this module.
use Rattle.std.specs.Prelude.{◌≡◌, ℕ, List, Result, Ok, Err}
use Rattle.twp_plat.specs.Plats.{SurveyPlat}
use Rattle.twp_plat.specs.declared.land_area.Account.{Account}
use Rattle.twp_answers.specs.Answers.{AnswersRefusal, ArePlatted, IsNoDescription, IsNoText}
use Rattle.twp_answers.specs.Answers.{IsRefusal}
use Rattle.twp_answers.specs.Answers.{acres_line}
use Rattle.twp_answers.specs.OnPlats.{HasAcresOn, HasNormalOn}
use Rattle.twp_answers.specs.Runs.{AnswerRelation}
use Rattle.twp_answers.specs.PlatReading.{IfRefused}
use Rattle.twp_answers.specs.declared.runs.answer.Texts.{Texts}
use Rattle.twp_answers.specs.declared.stop.Stop.{Stop}
use Rattle.twp_answers.specs.declared.stop.Verdict.TheVariants.{Accepted, Refused, TractRefused}
use Rattle.twp_grid.specs.Lands.{STANDARD_LOTS}

-- the bytes that were read, or their refusal
abbrev pub IsTextRead : {V : Type 0} → (V → List ℕ) → List ℕ → Result V Stop → Type 0
IsTextRead items description (Ok text) = items text ≡ description
IsTextRead items description (Err stopped) = IfRefused stopped (IsNoText description)

-- the plat of the notes, and the bytes of the description; or the refusal of the two texts
abbrev pub AreRead : List ℕ → List ℕ → Result Texts Stop → Type 0
AreRead notes description (Ok read) =
    ArePlatted notes read.plat × (read.description.items ≡ description)
AreRead notes description (Err stopped) = IfRefused stopped (IsRefusal notes description)

-- the acres of the land described on the plat, or the refusal
abbrev pub IsAcresAnswerOn : Account → SurveyPlat → List ℕ → AnswerRelation
IsAcresAnswerOn account plat description answer Accepted =
    (hundredths : ℕ) × HasAcresOn plat description account hundredths
    × (answer ≡ acres_line hundredths)
IsAcresAnswerOn account plat description answer (Refused refusal) =
    AnswersRefusal (IsNoDescription STANDARD_LOTS plat.township description) refusal answer
IsAcresAnswerOn account plat description answer (TractRefused at inner) = ⊥

-- the canonical text of the land described on the plat, or the refusal
abbrev pub IsNormalAnswerOn : SurveyPlat → List ℕ → AnswerRelation
IsNormalAnswerOn plat description answer Accepted = HasNormalOn plat description answer
IsNormalAnswerOn plat description answer (Refused refusal) =
    AnswersRefusal (IsNoDescription STANDARD_LOTS plat.township description) refusal answer
IsNormalAnswerOn plat description answer (TractRefused at inner) = ⊥
