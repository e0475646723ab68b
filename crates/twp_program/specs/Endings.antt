-- How the program ends, by the words of its command line.
use Rattle.std.specs.Prelude.{◌≡◌, ◌≢◌, ◌⊎◌, ◌↔◌, ℕ, ◌+◌, ◌<◌, true, false, List, length, ⊤}
use Rattle.std.specs.Prelude.{Some, Result, Err, IsErrOf, IsOkUnless}
use Rattle.clap.specs.Words.{Text}
use Rattle.clap.specs.declared.error.kind.ErrorKind.TheVariants.{DisplayHelp}
use Rattle.twp_grid.specs.Devices.{TakesAtMost}
use Rattle.twp_notes.specs.FieldNotes.{NOTES_MOST}
use Rattle.twp_grid.specs.Devices.{TakesFirst}
use Rattle.twp_answers.specs.Uses.{Reads, Use}
use Rattle.twp_answers.specs.Runs.{AnswerRelation, IsRun}
use Rattle.twp_answers.specs.PlatAnswers.{IsPlatAnswer}
use Rattle.twp_answers.specs.Answers.{IsAcresAnswer}
use Rattle.twp_answers.specs.AccountAnswers.{IsAcresAnswerBy}
use Rattle.twp_answers.specs.NormalAnswers.{IsNormalAnswer}
use Rattle.twp_answers.specs.ReportAnswers.{IsReportAnswer}
use Rattle.twp_answers.specs.declared.stop.Verdict.{Verdict}
use Rattle.twp_answers.specs.declared.stop.RunFault.{RunFault}
use Rattle.twp_answers.specs.declared.stop.RunFault.TheVariants.{Read, Write, Memory}
use Rattle.twp_program.specs.Joined.{joined_description, joined_notes}
use Rattle.twp_program.specs.Tasks.{HasKindAt, IsFaultOf, IsTaskOf}
use Rattle.twp_program.specs.declared.program.Ending.{Ending}
use Rattle.twp_program.specs.declared.program.Ending.TheVariants.{Answered, Helps, Misused, Failed}
use Rattle.twp_program.specs.declared.program.Failure.{Failure}
use Rattle.twp_program.specs.declared.program.Failure.TheVariants.{Open, Run}
use Rattle.twp_program.specs.declared.task.Task.{Task}
use Rattle.twp_program.specs.declared.task.Task.TheVariants.{Plat, Acres, Normal, Report}
use Rattle.twp_program.specs.declared.task.TaskFault.TheVariants.{Usage}

-- the task has this file
abbrev pub IsFileOf : Task → Text → Type 0
IsFileOf (Plat notes) name = name ≡ notes
IsFileOf (Acres notes description account) name = (name ≡ notes) ⊎ (name ≡ description)
IsFileOf (Normal notes description) name = (name ≡ notes) ⊎ (name ≡ description)
IsFileOf (Report notes tracts) name = (name ≡ notes) ⊎ (name ≡ tracts)

-- the answer of the task for the bytes of its files; for a plat, only those of the first
abbrev pub AnswerTo : Task → List ℕ → List ℕ → AnswerRelation
AnswerTo (Plat notes) first second = IsPlatAnswer first
AnswerTo (Acres notes description account) first second = IsAcresAnswerBy account first second
AnswerTo (Normal notes description) first second = IsNormalAnswer first second
AnswerTo (Report notes tracts) first second = IsReportAnswer first second

-- the verdict is that of the task's answer for some bytes, because the bytes of files are not known
pub record IsVerdictOf (task : Task) (verdict : Verdict) : Type 0 where
  pub first : List ℕ
  pub second : List ℕ
  pub answer : List ℕ
  pub answers : AnswerTo task first second answer verdict

-- a task fails because a file of its own cannot be opened, or in its run
abbrev pub FailsOn : Task → Failure → Type 0
FailsOn task (Open name) = IsFileOf task name
FailsOn task (Run fault) = ⊤

-- What a run promises that writes an answer for field notes alone.
pub record RunsOnNotes (Answers : List ℕ → AnswerRelation) (notes out : Use)
    (result : Result Verdict RunFault) : Type 0 where
  pub explained : (n : List ℕ) → notes.old ≡ Some n → IsRun (Answers n) out.old out.new result
  pub answers : notes.has_failed ≡ false → out.has_failed ≡ false → IsOkUnless result Memory
  pub ran : Reads notes.old (λ n. IsRun (Answers n) out.old out.new result)
  pub read : IsErrOf result Read ↔ (notes.has_failed ≡ true)
  pub write : IsErrOf result Write ↔ (out.has_failed ≡ true)
  pub most : TakesAtMost notes.old notes.new (NOTES_MOST + 1)
  pub exact : notes.has_failed ≡ false → result ≢ Err Memory
      → TakesFirst notes.old notes.new (NOTES_MOST + 1)

-- the words ask for some task
abbrev pub AskForTask : List Text → Type 0
AskForTask words = (task : Task) × IsTaskOf words task

-- If there are words, a device fails only in a task that they ask for. Memory can run out anywhere.
abbrev pub MayFail : List Text → RunFault → Type 0
MayFail words Read = AskForTask words
MayFail words Write = AskForTask words
MayFail words Memory = ⊤

-- There is an answer only if the words ask for a task, and its verdict is the task's; there is help
-- only if they ask for help, and usage only if they misuse the command.
abbrev pub EndsAs : List Text → Ending → Type 0
EndsAs words (Answered verdict) = (task : Task) × IsTaskOf words task × IsVerdictOf task verdict
EndsAs words (Helps text) = HasKindAt words DisplayHelp
EndsAs words (Misused text) = IsFaultOf words (Usage text)
EndsAs words (Failed (Open name)) = (task : Task) × IsTaskOf words task × IsFileOf task name
EndsAs words (Failed (Run fault)) = MayFail words fault

-- the verdict is that for some joined input, because the bytes of standard input are not known
pub record IsJoinedVerdict (verdict : Verdict) : Type 0 where
  pub bytes : List ℕ
  pub answer : List ℕ
  pub answers : IsAcresAnswer (joined_notes bytes) (joined_description bytes) answer verdict

-- the words cannot be obtained because memory ran out, or because they cannot be read
abbrev pub IsWordsFault : RunFault → Type 0
IsWordsFault Write = ⊥
IsWordsFault fault = ⊤

-- no file is opened if there are no words
abbrev pub IsRunFailure : Failure → Type 0
IsRunFailure (Open name) = ⊥
IsRunFailure (Run fault) = ⊤

-- if there are no words, standard input is answered, or a device or memory fails
abbrev pub EndsWithoutWords : Ending → Type 0
EndsWithoutWords (Answered verdict) = IsJoinedVerdict verdict
EndsWithoutWords (Failed failure) = IsRunFailure failure
EndsWithoutWords other = ⊥

-- the program ends as it does for some words after its name, because the host's words are not
-- known, or for none
abbrev pub EndsProgram : Ending → Type 0
EndsProgram ending =
    ((words : List Text) × (1 < length words) × EndsAs words ending) ⊎ EndsWithoutWords ending
