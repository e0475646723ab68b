-- The run's verdict is that of its answer for the bytes that it read.
use Rattle.twp_program.proofs.EndingFacts.{task_answers, task_fails}
use Rattle.twp_program.specs.declared.task.Task.TheVariants.{Acres}
use Rattle.twp_program.proofs.subcommand.open_acres.Goals as goal

pub returns-clause-answers : goal.returns-clause-answers
returns-clause-answers g c =
    rw c.outcome_of.ensures (task_answers (Acres c.args.notes c.args.description c.args.account) _ _ _ _ _
    c.acres-ran.result.outcome c.acres-ran.ensures)

pub returns-clause-fails : goal.returns-clause-fails
returns-clause-fails g c =
    rw c.outcome_of.ensures
    (task_fails (Acres c.args.notes c.args.description c.args.account) c.acres-ran.result.outcome)
