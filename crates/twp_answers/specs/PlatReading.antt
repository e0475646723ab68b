-- The result of reading field notes: their plat, or why there is none.
use Rattle.std.specs.Prelude.{◌≡◌, ◌≢◌, ◌↔◌, ℕ, ◌+◌, true, false, List, Result, Ok, Err, IfErr}
use Rattle.std.specs.Prelude.{IsErrOf, ⊤}
use Rattle.twp_grid.specs.Devices.{TakesAtMost}
use Rattle.twp_grid.specs.declared.refusal.Refusal.{Refusal}
use Rattle.twp_grid.specs.Devices.{TakesFirst}
use Rattle.twp_plat.specs.Plats.{SurveyPlat}
use Rattle.twp_answers.specs.Answers.{ArePlatted, IsNoPlat}
use Rattle.twp_answers.specs.Uses.{Use}
use Rattle.twp_answers.specs.declared.stop.Stop.{Stop}
use Rattle.twp_answers.specs.declared.stop.Stop.TheVariants as stop
use Rattle.twp_answers.specs.declared.stop.RunFault.{RunFault}
use Rattle.twp_answers.specs.declared.stop.RunFault.TheVariants.{Read, Write, Memory}

-- the stop is not a refusal, or its refusal has this property
abbrev pub IfRefused : Stop → (Refusal → Type 0) → Type 0
IfRefused (stop.Refused refusal) Holds = Holds refusal
IfRefused (stop.Failed fault) Holds = ⊤

-- the plat that the bytes make as notes, or their refusal
abbrev pub IsPlatted : List ℕ → Result SurveyPlat Stop → Type 0
IsPlatted notes (Ok plat) = ArePlatted notes plat
IsPlatted notes (Err stopped) = IfRefused stopped (IsNoPlat notes)

-- What each stage promises that reads one source up to a limit of bytes. The fault of a run is
-- converted to that of the stage.
pub record ReadsUpTo {T E : Type 0} (passed_on : RunFault → E) (most : ℕ) (source : Use)
    (result : Result T E) : Type 0 where
  -- It fails to read exactly if the source failed in this call, and never fails to write.
  pub read : IsErrOf result (passed_on Read) ↔ (source.has_failed ≡ true)
  pub no_write : IfErr result (λ fault. fault ≢ passed_on Write)
  -- Reading ends at most one byte past the limit; it ends exactly there or at the end of the input,
  -- if the source does not fail and memory does not run out.
  pub most_is : TakesAtMost source.old source.new (most + 1)
  pub exact : source.has_failed ≡ false → result ≢ Err (passed_on Memory)
      → TakesFirst source.old source.new (most + 1)
