-- It is the outcome of the run by the exact account.
use Rattle.twp_answers.proofs.runs.running.run_acres.Goals as goal

pub returns-clause-acres : goal.returns-clause-acres
returns-clause-acres g c = c.run_acres_noting.ensures.acres

pub returns-clause-refusals : goal.returns-clause-refusals
returns-clause-refusals g c = c.run_acres_noting.ensures.refusals

pub returns-clause-run : goal.returns-clause-run
returns-clause-run g c = c.run_acres_noting.ensures.run
