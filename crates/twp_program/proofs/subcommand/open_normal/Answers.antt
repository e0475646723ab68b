-- The run's verdict is that of its answer for the bytes that it read.
use Rattle.twp_program.proofs.EndingFacts.{task_answers, task_fails}
use Rattle.twp_program.specs.declared.task.Task.TheVariants.{Normal}
use Rattle.twp_program.proofs.subcommand.open_normal.Goals as goal

pub returns-clause-answers : goal.returns-clause-answers
returns-clause-answers g c =
    rw c.outcome_of.ensures (task_answers (Normal c.args.notes c.args.description) _ _ _ _ _
    c.normal-ran.result.outcome c.normal-ran.ensures)

pub returns-clause-fails : goal.returns-clause-fails
returns-clause-fails g c =
    rw c.outcome_of.ensures (task_fails (Normal c.args.notes c.args.description) c.normal-ran.result.outcome)
