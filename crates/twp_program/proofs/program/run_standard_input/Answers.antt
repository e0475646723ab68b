-- The outcome of the run on joined input.
use Rattle.twp_program.proofs.EndingFacts.{joined_answers, joined_fails}
use Rattle.twp_program.proofs.program.run_standard_input.Goals as goal

pub returns-clause-answers : goal.returns-clause-answers
returns-clause-answers g c =
    rw c.outcome_of.ensures
    (joined_answers _ _ _ c.run_joined_noting-ran.result.outcome c.run_joined_noting-ran.ensures.ran)

pub returns-clause-fails : goal.returns-clause-fails
returns-clause-fails g c =
    rw c.outcome_of.ensures (joined_fails c.run_joined_noting-ran.result.outcome)
