-- How the program ends after a run.
use Rattle.std.proofs.Common.{ℕ, List, Result, Ok, Err, Option}
use Rattle.std.specs.Prelude.{IfOk, IfErr}
use Rattle.clap.specs.Words.{Text}
use Rattle.twp_answers.specs.PlatAnswers.{IsPlatAnswer}
use Rattle.twp_answers.specs.Answers.{IsAcresAnswer}
use Rattle.twp_answers.specs.Uses.{Reads, Use}
use Rattle.twp_answers.specs.Runs.{IsRun, RunsOnPlat}
use Rattle.twp_answers.specs.declared.stop.Verdict.{Verdict}
use Rattle.twp_answers.specs.declared.stop.RunFault.{RunFault}
use Rattle.twp_answers.specs.declared.stop.RunFault.TheVariants.{Read, Write, Memory}
use Rattle.twp_program.specs.Endings.{AnswerTo, EndsAs, FailsOn, IsJoinedVerdict, IsRunFailure}
use Rattle.twp_program.specs.Endings.{IsVerdictOf, RunsOnNotes}
use Rattle.twp_program.specs.Joined.{joined_description, joined_notes}
use Rattle.twp_program.specs.Statuses.{ending_of, ending_of_fault, failing}
use Rattle.twp_program.specs.Tasks.{IsFaultOf, IsTaskOf}
use Rattle.twp_program.specs.declared.program.Failure.{Failure}
use Rattle.twp_program.specs.declared.program.Failure.TheVariants.{Open, Run}
use Rattle.twp_program.specs.declared.task.Task.{Task}
use Rattle.twp_program.specs.declared.task.Task.TheVariants.{Plat}
use Rattle.twp_program.specs.declared.task.TaskFault.{TaskFault}
use Rattle.twp_program.specs.declared.task.TaskFault.TheVariants as fault

-- the program ends with the outcome of the run of a task, for the words that ask for it
pub ends_as : (words : List Text) (task : Task) (r : Result Verdict Failure) → IsTaskOf words task
    → IfOk r (IsVerdictOf task) → IfErr r (FailsOn task) → EndsAs words (ending_of r)
ends_as words task (Ok verdict) asked answers fails = (task, asked, answers)
ends_as words task (Err (Open name)) asked answers fails = (task, asked, fails)
ends_as words task (Err (Run Read)) asked answers fails = (task, asked)
ends_as words task (Err (Run Write)) asked answers fails = (task, asked)
ends_as words task (Err (Run Memory)) asked answers fails = tt

-- if the words are not a task, the program ends with their fault
pub ends_as_fault : (words : List Text) (f : TaskFault) → IsFaultOf words f
    → EndsAs words (ending_of_fault f)
ends_as_fault words (fault.Usage text) is = is
ends_as_fault words (fault.Help text) is = is
ends_as_fault words fault.Memory is = tt

-- a run on two files gives the answer of its task
pub task_answers : (task : Task) (most : ℕ) (notes second out : Use) (unread : Type 0)
    (ran : Result Verdict RunFault)
    → RunsOnPlat (AnswerTo task) most notes second out unread ran
    → IfOk (failing ran) (IsVerdictOf task)
task_answers task most notes second out unread (Ok verdict) run = record {
  first = run.ran.first_bytes;
  second = run.ran.second_bytes;
  answer = run.ran.holds.answer;
  answers = run.ran.holds.answers;
}
task_answers task most notes second out unread (Err fault) run = tt

-- a run on notes alone gives the answer of the plat's task
pub plat_answers : (name : Text) (notes out : Use) (ran : Result Verdict RunFault)
    → RunsOnNotes IsPlatAnswer notes out ran → IfOk (failing ran) (IsVerdictOf (Plat name))
plat_answers name notes out (Ok verdict) run = record {
  first = run.ran.bytes;
  second = run.ran.bytes;
  answer = run.ran.holds.answer;
  answers = run.ran.holds.answers;
}
plat_answers name notes out (Err fault) run = tt

-- if a run fails, that is the task's failure
pub task_fails : (task : Task) (ran : Result Verdict RunFault) → IfErr (failing ran) (FailsOn task)
task_fails task (Ok verdict) = tt
task_fails task (Err fault) = tt

-- the outcome of the run on joined input is a verdict on it, or a fault of the run
pub joined_answers : (explained old new : Option (List ℕ)) (ran : Result Verdict RunFault)
    → Reads explained (λ bytes.
    IsRun (IsAcresAnswer (joined_notes bytes) (joined_description bytes)) old new ran)
    → IfOk (failing ran) IsJoinedVerdict
joined_answers explained old new (Ok verdict) read = record {
  bytes = read.bytes;
  answer = read.holds.answer;
  answers = read.holds.answers;
}
joined_answers explained old new (Err fault) read = tt

pub joined_fails : (ran : Result Verdict RunFault) → IfErr (failing ran) IsRunFailure
joined_fails (Ok verdict) = tt
joined_fails (Err fault) = tt
