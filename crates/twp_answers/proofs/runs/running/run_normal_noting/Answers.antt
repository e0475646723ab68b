-- The run stopped, or had the answer and wrote it.
use Rattle.twp_read.specs.TextFaults.{TEXT_LIMIT}
use Rattle.twp_answers.specs.NormalAnswers.{IsNormalAnswer}
use Rattle.twp_answers.proofs.RunFacts.{run_on_plat, run_stopped}
use Rattle.twp_answers.proofs.runs.running.run_normal_noting.Goals as goal

pub returns-in-Err-clause-run : goal.returns-in-Err-clause-run
returns-in-Err-clause-run g c =
    let stopped = c.in-Err.ensures in
    rw c.failed.ensures.outcome (run_stopped IsNormalAnswer TEXT_LIMIT _ _ _ _ _
    c.in-Err.fault _ stopped.answer stopped.reads c.requires.out)

pub returns-in-Ok-clause-run : goal.returns-in-Ok-clause-run
returns-in-Ok-clause-run g c =
    let answer = c.in-Ok.ensures in
    let wrote = c.write_answer.ensures in
    run_on_plat c.in-Ok.answer IsNormalAnswer TEXT_LIMIT _ _ _ _ _ _
    c.write_answer.result answer.answer answer.reads wrote.verdict wrote.whole wrote.front
    wrote.write wrote.failed
