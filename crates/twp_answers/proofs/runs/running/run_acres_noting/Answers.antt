-- The run stopped, or had the answer and wrote it; for known bytes, there is only one answer.
use Rattle.twp_read.specs.TextFaults.{TEXT_LIMIT}
use Rattle.twp_answers.specs.AccountAnswers.{IsAcresAnswerBy}
use Rattle.twp_answers.proofs.runs.AcresRuns.{acres_written, refusal_written}
use Rattle.twp_answers.proofs.RunFacts.{run_on_plat, run_stopped}
use Rattle.twp_answers.proofs.runs.running.run_acres_noting.Goals as goal

pub returns-in-Err-clause-run : goal.returns-in-Err-clause-run
returns-in-Err-clause-run g c =
    let stopped = c.in-Err.ensures in
    rw c.failed.ensures.outcome (run_stopped (IsAcresAnswerBy c.args.account) TEXT_LIMIT _ _ _ _ _
    c.in-Err.fault _ stopped.answer stopped.reads c.requires.out)

pub returns-in-Ok-clause-run : goal.returns-in-Ok-clause-run
returns-in-Ok-clause-run g c =
    let answer = c.in-Ok.ensures in
    let wrote = c.write_answer.ensures in
    run_on_plat c.in-Ok.answer (IsAcresAnswerBy c.args.account) TEXT_LIMIT _ _ _ _ _ _
    c.write_answer.result answer.answer answer.reads wrote.verdict wrote.whole wrote.front
    wrote.write wrote.failed

pub returns-in-Err-clause-acres : goal.returns-in-Err-clause-acres
returns-in-Err-clause-acres g c =
    acres_written c.args.account TEXT_LIMIT _ _ _ _ _ (returns-in-Err-clause-run g c)

pub returns-in-Ok-clause-acres : goal.returns-in-Ok-clause-acres
returns-in-Ok-clause-acres g c =
    acres_written c.args.account TEXT_LIMIT _ _ _ _ _ (returns-in-Ok-clause-run g c)

pub returns-in-Err-clause-refusals : goal.returns-in-Err-clause-refusals
returns-in-Err-clause-refusals g c =
    refusal_written c.args.account TEXT_LIMIT _ _ _ _ _ (returns-in-Err-clause-run g c)

pub returns-in-Ok-clause-refusals : goal.returns-in-Ok-clause-refusals
returns-in-Ok-clause-refusals g c =
    refusal_written c.args.account TEXT_LIMIT _ _ _ _ _ (returns-in-Ok-clause-run g c)
