-- The run's verdict is that of its answer for the bytes that it read.
use Rattle.twp_program.proofs.EndingFacts.{plat_answers, task_fails}
use Rattle.twp_program.specs.declared.task.Task.TheVariants.{Plat}
use Rattle.twp_program.proofs.subcommand.open_plat.Goals as goal

pub returns-clause-answers : goal.returns-clause-answers
returns-clause-answers g c =
    rw c.outcome_of.ensures (plat_answers c.args.notes _ _ c.plat-outcome.result c.plat-outcome.ensures)

pub returns-clause-fails : goal.returns-clause-fails
returns-clause-fails g c =
    rw c.outcome_of.ensures (task_fails (Plat c.args.notes) c.plat-outcome.result)
