-- The run's verdict is that of its answer for the bytes that it read.
use Rattle.twp_program.proofs.EndingFacts.{task_answers, task_fails}
use Rattle.twp_program.specs.declared.task.Task.TheVariants.{Report}
use Rattle.twp_program.proofs.subcommand.open_report.Goals as goal

pub returns-clause-answers : goal.returns-clause-answers
returns-clause-answers g c =
    rw c.outcome_of.ensures (task_answers (Report c.args.notes c.args.tracts) _ _ _ _ _
    c.report-ran.result.outcome c.report-ran.ensures)

pub returns-clause-fails : goal.returns-clause-fails
returns-clause-fails g c =
    rw c.outcome_of.ensures (task_fails (Report c.args.notes c.args.tracts) c.report-ran.result.outcome)
