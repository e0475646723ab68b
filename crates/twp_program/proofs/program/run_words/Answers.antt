-- The words ask for the task that was run, or the fault is theirs.
use Rattle.std.specs.Prelude.{map, string_bytes}
use Rattle.twp_program.proofs.EndingFacts.{ends_as, ends_as_fault}
use Rattle.twp_program.proofs.program.run_words.Goals as goal

pub returns-in-Ok : goal.returns-in-Ok
returns-in-Ok g c =
    rw c.after.ensures (ends_as (map string_bytes c.args.words.items) c.in-Ok.task c.run_task.result
    c.in-Ok.ensures.task c.run_task.ensures.answers c.run_task.ensures.fails)

pub returns-in-Err : goal.returns-in-Err
returns-in-Err g c =
    rw c.after_fault.ensures (ends_as_fault (map string_bytes c.args.words.items) c.in-Err.fault
    c.in-Err.ensures.fault)
