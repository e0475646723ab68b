-- What the stages of a run read. No public contract cites this module.
use Rattle.std.specs.Prelude.{◌≡◌, ◌≢◌, ◌↔◌, ℕ, ◌+◌, true, false, List, Some, Result, Err}
use Rattle.std.specs.Prelude.{IfErr, IsErrOf}
use Rattle.twp_grid.specs.Devices.{TakesAtMost}
use Rattle.twp_notes.specs.FieldNotes.{NOTES_MOST}
use Rattle.twp_grid.specs.Devices.{TakesFirst}
use Rattle.twp_answers.specs.Answers.{MakePlat}
use Rattle.twp_answers.specs.Uses.{Use}
use Rattle.twp_answers.specs.Runs.{AnyFailed}
use Rattle.twp_answers.specs.declared.stop.RunFault.{RunFault}
use Rattle.twp_answers.specs.declared.stop.RunFault.TheVariants.{Read, Write, Memory}

-- a fault of a run that stays the same
abbrev pub same_fault : RunFault → RunFault
same_fault fault = fault

-- What each stage promises that reads field notes and, only if the notes make a plat, a second text
-- up to a limit of bytes. The fault of a run is converted to that of the stage.
pub record ReadsOnPlat {T E : Type 0} (passed_on : RunFault → E) (most : ℕ) (notes second : Use)
    (is_unread : Type 0) (result : Result T E) : Type 0 where
  -- It fails to read exactly if one of the two sources failed in this call, and never fails to
  -- write.
  pub read : IsErrOf result (passed_on Read) ↔ AnyFailed notes.has_failed second.has_failed
  pub unread_after_fault : notes.has_failed ≡ true → is_unread
  pub no_write : IfErr result (λ fault. fault ≢ passed_on Write)
  -- Reading ends at most one byte past the limit.
  pub notes_most : TakesAtMost notes.old notes.new (NOTES_MOST + 1)
  pub second_most : TakesAtMost second.old second.new (most + 1)
  -- It ends exactly there or at the end of the input, if no device fails and memory does not run
  -- out: for the notes, and for the second text if they make a plat.
  pub notes_exact : notes.has_failed ≡ false → result ≢ Err (passed_on Memory)
      → TakesFirst notes.old notes.new (NOTES_MOST + 1)
  pub second_exact : (n : List ℕ) → notes.old ≡ Some n → MakePlat n
      → notes.has_failed ≡ false → second.has_failed ≡ false → result ≢ Err (passed_on Memory)
      → TakesFirst second.old second.new (most + 1)
