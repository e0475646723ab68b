-- What an explanation is of, and where there is none.
use Rattle.std.specs.Prelude.{◌≡◌, ◌≢◌, ◌⊎◌, ℕ, Bool, List, Option, Some, None}
use Rattle.twp_grid.specs.Townships.{Designation}
use Rattle.twp_grid.specs.declared.refusal.Refusal.{Refusal}
use Rattle.twp_plat.specs.Plats.{SurveyPlat}
use Rattle.twp_answers.specs.Answers.{ArePlatted, Describe, IsNoPlat}
use Rattle.twp_answers.specs.ReportAnswers.{IsAccountOf}
use Rattle.twp_answers.specs.TractFaults.{IsFirstTractFault, refusal_of, verdict_of}
use Rattle.twp_answers.specs.declared.tract_fault.TractFault.{TractFault}
use Rattle.twp_answers.specs.declared.stop.Verdict.{Verdict}
use Rattle.twp_answers.specs.declared.stop.Verdict.TheVariants.{Accepted, Refused, TractRefused}
use Rattle.twp_diagnose.specs.declared.finding.SearchStop.{SearchStop}
use Rattle.twp_diagnose.specs.declared.finding.SearchStop.TheVariants.{Found, Memory}
use Rattle.twp_grid.specs.Lands.{Lotting, STANDARD_LOTS}

-- the verdict is not one of these refusals
abbrev pub IsOfNone : (Refusal → Type 0) → Verdict → Type 0
IsOfNone Is verdict = (refusal : Refusal) → Is refusal → verdict ≢ Refused refusal

-- something was found, and the verdict is another
abbrev pub IsNotOf : SearchStop → Verdict → Type 0
IsNotOf (Found finding) verdict = verdict ≢ Refused finding.refusal
IsNotOf Memory verdict = ⊥

-- the bytes are a description of land on the plat of the township with these lots
abbrev pub DescribeLand : Lotting → Designation → List ℕ → Type 0
DescribeLand lots township bytes = (places : ℕ → ℕ → ℕ → Bool) × Describe lots township bytes places

-- the list has an account on the plat
abbrev pub HasAccount : SurveyPlat → List ℕ → Type 0
HasAccount plat list = (text : List ℕ) × IsAccountOf plat list text

-- the refusal of a verdict, without that of a tract's description
abbrev pub first_refusal : Verdict → Option Refusal
first_refusal Accepted = None
first_refusal (Refused refusal) = Some refusal
first_refusal (TractRefused at_ inner) = Some (record { number = 83; at = at_ })

-- the notes make a plat, and the list has this verdict and refusal, for its first fault
pub record IsRefusalOfList (notes tracts : List ℕ) (verdict : Verdict) (refusal : Refusal)
    : Type 0 where
  pub plat : SurveyPlat
  pub platted : ArePlatted notes plat
  pub fault : TractFault
  pub first : IsFirstTractFault STANDARD_LOTS plat.township tracts fault
  pub verdict_is : verdict_of fault ≡ Some verdict
  pub refusal_is : refusal_of fault ≡ Some refusal

-- the notes make no plat, or else the list is refused
abbrev pub IsListRefusal : List ℕ → List ℕ → Verdict → Refusal → Type 0
IsListRefusal notes tracts verdict refusal =
    (IsNoPlat notes refusal × (verdict ≡ Refused refusal))
    ⊎ IsRefusalOfList notes tracts verdict refusal
