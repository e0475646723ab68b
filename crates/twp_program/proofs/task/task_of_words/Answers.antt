-- clap's rules for the command, as its contract's clauses give them, are those in this contract.
use Rattle.std.specs.Prelude.{map, string_bytes}
use Rattle.clap.specs.Words.{app_of, found_of, kind_of, rows_of, subcommand_rows_of}
use Rattle.twp_program.proofs.TaskFacts.{parse_fault, parse_task, parse_whole}
use Rattle.twp_program.proofs.task.task_of_words.Goals as goal

pub task_of-requires : goal.task_of-requires
task_of-requires c = record {
  whole =
      parse_whole (app_of c.in_ok-command.command) (map string_bytes c.args.words.now)
      (rows_of (found_of c.in-Ok.matches))
      (subcommand_rows_of c.in-Ok.matches) c.in_ok-command.ensures c.in-Ok.ensures.kinds
      c.in-Ok.ensures.matches;
}

pub returns-in_ok-task_of-in-Ok-clause-task : goal.returns-in_ok-task_of-in-Ok-clause-task
returns-in_ok-task_of-in-Ok-clause-task c =
    parse_task (app_of c.in_ok-command.command) (map string_bytes c.args.words.now)
    (rows_of (found_of c.in-Ok.matches))
    (subcommand_rows_of c.in-Ok.matches) c.in_ok-task_of-in-Ok.field-0 c.in_ok-command.ensures
    c.in-Ok.ensures.kinds c.in-Ok.ensures.matches
    c.in_ok-task_of-in-Ok.ensures.task

pub returns-in-Err-clause-fault : goal.returns-in-Err-clause-fault
returns-in-Err-clause-fault c =
    parse_fault (app_of c.in_ok-command.command) (map string_bytes c.args.words.now) (kind_of c.in-Err.error)
    c.fault_of.result
    c.in_ok-command.ensures c.in-Err.ensures.kinds c.fault_of.ensures
