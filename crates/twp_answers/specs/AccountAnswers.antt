-- The answer of the acreage run by an account: the acres of the land described, with whole lots at
-- their exact areas or at the acreage that the plat shows, or the refusal.
use Rattle.std.specs.Prelude.{◌≡◌, ℕ, List, Bool}
use Rattle.twp_measure.specs.Areas.{Fraction, IsRounded}
use Rattle.twp_grid.specs.Places.{PLACE_DIGITS}
use Rattle.twp_plat.specs.Plats.{SurveyPlat}
use Rattle.twp_answers.specs.Answers.{AnswersRefusal, IsLandOnPlat, IsRefusal}
use Rattle.twp_answers.specs.Answers.{HasAcres, acres_line}
use Rattle.twp_plat.specs.PlatAccounts.{IsPlatArea}
use Rattle.twp_answers.specs.Runs.{AnswerRelation}
use Rattle.twp_plat.specs.declared.land_area.Account.{Account}
use Rattle.twp_plat.specs.declared.land_area.Account.TheVariants.{Exact, Plat}
use Rattle.twp_answers.specs.declared.stop.Verdict.TheVariants.{Accepted, Refused, TractRefused}

-- The hundredths of an acre of a set of places by the plat: its plat area, rounded once, half up.
pub record ArePlatHundredthsOf (plat : SurveyPlat) (places : ℕ → ℕ → ℕ → Bool) (hundredths : ℕ)
    : Type 0 where
  pub area : Fraction
  pub area_is : IsPlatArea PLACE_DIGITS plat places area
  pub rounded : IsRounded area hundredths

-- the notes make a plat, the description names land on it, and these are the land's hundredths of
-- an acre by the plat
pub record HasPlatAcres (notes description : List ℕ) (hundredths : ℕ) : Type 0 where
  pub plat : SurveyPlat
  pub places : ℕ → ℕ → ℕ → Bool
  pub land : IsLandOnPlat notes description plat places
  pub acres : ArePlatHundredthsOf plat places hundredths

-- the hundredths of an acre of the land described, by the account
abbrev pub HasAcresBy : Account → List ℕ → List ℕ → ℕ → Type 0
HasAcresBy Exact notes description hundredths = HasAcres notes description hundredths
HasAcresBy Plat notes description hundredths = HasPlatAcres notes description hundredths

-- The acres of the land described, if the notes make a plat and the description's parts lie on it
-- without overlapping; otherwise the refusal of the first fault. By the exact account, this is the
-- answer of the acreage run.
abbrev pub IsAcresAnswerBy : Account → List ℕ → List ℕ → AnswerRelation
IsAcresAnswerBy account notes description answer Accepted =
    (hundredths : ℕ) × HasAcresBy account notes description hundredths
    × (answer ≡ acres_line hundredths)
IsAcresAnswerBy account notes description answer (Refused refusal) =
    AnswersRefusal (IsRefusal notes description) refusal answer
IsAcresAnswerBy account notes description answer (TractRefused at inner) = ⊥
