-- The answer of the spelling run: the canonical text of the land described, or the refusal.
use Rattle.std.specs.Prelude.{ℕ, List, Bool}
use Rattle.twp_plat.specs.Plats.{SurveyPlat}
use Rattle.twp_spell.specs.CanonicalText.{IsCanonicalText}
use Rattle.twp_answers.specs.Answers.{AnswersRefusal, IsLandOnPlat, IsRefusal}
use Rattle.twp_answers.specs.declared.stop.Verdict.{Verdict}
use Rattle.twp_answers.specs.declared.stop.Verdict.TheVariants.{Accepted, Refused, TractRefused}
use Rattle.twp_grid.specs.Lands.{STANDARD_LOTS}

-- the notes make a plat, the description names land on it, and this is the land's canonical text
pub record IsNormalForm (notes description text : List ℕ) : Type 0 where
  pub plat : SurveyPlat
  pub places : ℕ → ℕ → ℕ → Bool
  pub land : IsLandOnPlat notes description plat places
  pub text_is : IsCanonicalText STANDARD_LOTS plat.township places text

-- The canonical text of the land described, if the notes make a plat and the description's parts
-- lie on it without overlapping; otherwise the refusal of the first fault.
abbrev pub IsNormalAnswer : List ℕ → List ℕ → List ℕ → Verdict → Type 0
IsNormalAnswer notes description answer Accepted = IsNormalForm notes description answer
IsNormalAnswer notes description answer (Refused refusal) =
    AnswersRefusal (IsRefusal notes description) refusal answer
IsNormalAnswer notes description answer (TractRefused at inner) = ⊥
