-- The results of the stages of an answer. No public contract cites this module.
use Rattle.std.specs.Prelude.{ℕ, Bool, List, Result, Ok, Err, ⊤}
use Rattle.twp_grid.specs.Townships.{Designation}
use Rattle.twp_answers.specs.Answers.{Describe, IsNoDescription}
use Rattle.twp_answers.specs.PlatReading.{IfRefused}
use Rattle.twp_answers.specs.declared.stop.RunFault.{RunFault}
use Rattle.twp_answers.specs.declared.stop.Stop.{Stop}
use Rattle.twp_answers.specs.declared.stop.Stop.TheVariants as stop
use Rattle.twp_grid.specs.Lands.{Lotting}

-- the stop is a refusal, or its fault has this property
abbrev pub IfFailed : Stop → (RunFault → Type 0) → Type 0
IfFailed (stop.Refused refusal) Holds = ⊤
IfFailed (stop.Failed fault) Holds = Holds fault

-- the land that the bytes describe, or their refusal
abbrev pub IsLandOrRefusal : {L : Type 0} → (L → ℕ → ℕ → ℕ → Bool) → Lotting → Designation → List ℕ
    → Result L Stop → Type 0
IsLandOrRefusal places lots township description (Ok land) = Describe lots township description (places land)
IsLandOrRefusal places lots township description (Err stopped) =
    IfRefused stopped (IsNoDescription lots township description)
