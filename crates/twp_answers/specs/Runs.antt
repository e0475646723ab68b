-- What a run reads, and what it writes.
use Rattle.std.specs.Prelude.{◌≡◌, ◌≢◌, ◌⊎◌, ◌↔◌, ℕ, ◌+◌, ◌≤◌, Bool, true, false, List, length}
use Rattle.std.specs.Prelude.{take, Option, Some, Result, Ok, Err, IfOk, IsErrOf, IsOkUnless}
use Rattle.std.specs.Io.KnownBytes.{Appends, Keeps}
use Rattle.twp_grid.specs.Devices.{Tells, TakesAtMost}
use Rattle.twp_notes.specs.FieldNotes.{NOTES_MOST}
use Rattle.twp_grid.specs.Devices.{TakesFirst}
use Rattle.twp_answers.specs.Answers.{MakePlat}
use Rattle.twp_answers.specs.Uses.{Use}
use Rattle.twp_answers.specs.declared.stop.Verdict.{Verdict}
use Rattle.twp_answers.specs.declared.stop.RunFault.{RunFault}
use Rattle.twp_answers.specs.declared.stop.RunFault.TheVariants.{Read, Write, Memory}

-- an answer and its verdict
abbrev pub AnswerRelation : Type 1
AnswerRelation = List ℕ → Verdict → Type 0

-- a prefix of these bytes, or all of them, was appended to the known bytes
pub record AppendsFront (old new : Option (List ℕ)) (bytes : List ℕ) : Type 0 where
  pub count : ℕ
  pub within : count ≤ length bytes
  pub appended : Appends old new (take count bytes)

-- the whole answer with this verdict was written
pub record Writes (Answers : AnswerRelation) (old new : Option (List ℕ)) (verdict : Verdict)
    : Type 0 where
  pub answer : List ℕ
  pub answers : Answers answer verdict
  pub appended : Appends old new answer

-- a prefix of an answer was written
pub record WritesFront (Answers : AnswerRelation) (old new : Option (List ℕ)) : Type 0 where
  pub answer : List ℕ
  pub verdict : Verdict
  pub answers : Answers answer verdict
  pub front : AppendsFront old new answer

-- What a run leaves in its writer: with a verdict, the whole answer that the verdict belongs to; a
-- prefix of an answer if the writer failed; and nothing else if a reader failed or memory ran out.
abbrev pub IsRun : AnswerRelation → Option (List ℕ) → Option (List ℕ)
    → Result Verdict RunFault → Type 0
IsRun Answers old new (Ok verdict) = Writes Answers old new verdict
IsRun Answers old new (Err Write) = WritesFront Answers old new
IsRun Answers old new (Err Read) = Keeps old new
IsRun Answers old new (Err Memory) = Keeps old new

-- the run gave this verdict and wrote this answer, unless it ended with a fault
abbrev pub IsAnswered : Option (List ℕ) → Option (List ℕ) → List ℕ → Verdict
    → Result Verdict RunFault → Type 0
IsAnswered old new answer verdict result = IfOk result (λ given. (given ≡ verdict) × Appends old new answer)

-- the bytes that two sources had to give, the second of which was read only if those of the first allow it
pub record ReadsTwo (first second : Option (List ℕ)) (GoesOn : List ℕ → Type 0) (unread : Type 0)
    (Holds : List ℕ → List ℕ → Type 0) : Type 0 where
  pub first_bytes : List ℕ
  pub second_bytes : List ℕ
  pub first_tells : Tells first first_bytes
  pub second_tells : Tells second second_bytes
  pub holds : Holds first_bytes second_bytes
  pub order : GoesOn first_bytes ⊎ unread

-- one of two devices has failed
abbrev pub AnyFailed : Bool → Bool → Type 0
AnyFailed first second = (first ≡ true) ⊎ (second ≡ true)

-- what a run promises that reads field notes and, only if these make a plat, a second text up to a limit
pub record RunsOnPlat (Answers : List ℕ → List ℕ → AnswerRelation) (most : ℕ)
    (notes second out : Use) (is_unread : Type 0) (result : Result Verdict RunFault) : Type 0 where
  -- The answer for known texts; a verdict if no device fails and memory does not run out.
  pub told : (n s : List ℕ) → notes.old ≡ Some n → second.old ≡ Some s
      → IsRun (Answers n s) out.old out.new result
  pub answers : notes.has_failed ≡ false → second.has_failed ≡ false → out.has_failed ≡ false
      → IsOkUnless result Memory
  -- The same, whether or not the bytes of the devices are known. The second text is read only if
  -- the notes make a plat.
  pub ran : ReadsTwo notes.old second.old MakePlat is_unread
      (λ n s. IsRun (Answers n s) out.old out.new result)
  pub unread : (n : List ℕ) → notes.old ≡ Some n → (MakePlat n → ⊥) → is_unread
  pub unread_after_fault : notes.has_failed ≡ true → is_unread
  -- A device's fault is returned exactly if that device failed in this call.
  pub read : IsErrOf result Read ↔ AnyFailed notes.has_failed second.has_failed
  pub write : IsErrOf result Write ↔ (out.has_failed ≡ true)
  -- Reading ends at most one byte past the limit.
  pub notes_most : TakesAtMost notes.old notes.new (NOTES_MOST + 1)
  pub second_most : TakesAtMost second.old second.new (most + 1)
  -- It ends exactly there or at the end of the input, if no device fails and memory does not run
  -- out: for the notes, and for the second text if they make a plat.
  pub notes_exact : notes.has_failed ≡ false → result ≢ Err Memory
      → TakesFirst notes.old notes.new (NOTES_MOST + 1)
  pub second_exact : (n : List ℕ) → notes.old ≡ Some n → MakePlat n
      → notes.has_failed ≡ false → second.has_failed ≡ false → result ≢ Err Memory
      → TakesFirst second.old second.new (most + 1)
