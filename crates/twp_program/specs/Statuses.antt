-- How the program ends, and with what status.
use Rattle.std.specs.Prelude.{◌≡◌, ◌⊎◌, ℕ, Result, Ok, Err}
use Rattle.std.specs.declared.io.ErrorKind.{ErrorKind}
use Rattle.std.specs.declared.io.ErrorKind.TheVariants.{OutOfMemory}
use Rattle.twp_answers.specs.declared.stop.RunFault.{RunFault}
use Rattle.twp_answers.specs.declared.stop.RunFault.TheVariants as fault
use Rattle.twp_answers.specs.declared.stop.Verdict.{Verdict}
use Rattle.twp_answers.specs.declared.stop.Verdict.TheVariants.{Accepted, Refused, TractRefused}
use Rattle.twp_program.specs.declared.program.Ending.{Ending}
use Rattle.twp_program.specs.declared.program.Ending.TheVariants.{Answered, Helps, Misused, Failed}
use Rattle.twp_program.specs.declared.program.Failure.{Failure}
use Rattle.twp_program.specs.declared.program.Failure.TheVariants.{Run}
use Rattle.twp_program.specs.declared.task.TaskFault.{TaskFault}
use Rattle.twp_program.specs.declared.task.TaskFault.TheVariants.{Usage, Help, Memory}

-- 0 if the input was accepted or help was asked for, 1 if the input was refused, 2 if the command
-- line was misused, 3 if there is no answer
abbrev pub status_of : Ending → ℕ
status_of (Answered Accepted) = 0
status_of (Answered (Refused refusal)) = 1
status_of (Answered (TractRefused at inner)) = 1
status_of (Helps text) = 0
status_of (Misused text) = 2
status_of (Failed failure) = 3

-- the status of the ending; if help was asked for but cannot be written, the status for no answer
abbrev pub IsStatusOf : Ending → ℕ → Type 0
IsStatusOf (Helps text) status = (status ≡ 0) ⊎ (status ≡ 3)
IsStatusOf ending status = status ≡ status_of ending

-- how the program ends after a run
abbrev pub ending_of : Result Verdict Failure → Ending
ending_of (Ok verdict) = Answered verdict
ending_of (Err failure) = Failed failure

-- how the program ends if the words are not a task
abbrev pub ending_of_fault : TaskFault → Ending
ending_of_fault (Usage text) = Misused text
ending_of_fault (Help text) = Helps text
ending_of_fault Memory = Failed (Run fault.Memory)

-- a run's fault is the program's
abbrev pub failing : Result Verdict RunFault → Result Verdict Failure
failing (Ok verdict) = Ok verdict
failing (Err fault) = Err (Run fault)

-- why the words of the command line cannot be obtained: memory ran out, or they cannot be read
abbrev pub words_fault : ErrorKind → RunFault
words_fault OutOfMemory = fault.Memory
words_fault _ = fault.Read
