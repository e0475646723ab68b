-- The description was read, and names land on the plat; otherwise the answer is its refusal.
use Rattle.std.proofs.Common.{refl}
use Rattle.twp_read.specs.Doubts.{HasNoDoubtfulPlace}
use Rattle.twp_answers.specs.steps.OnPlatSteps.{IsAcresAnswerOn}
use Rattle.twp_answers.proofs.runs.ClarityFacts.{says_nothing, says_the_same}
use Rattle.twp_answers.proofs.runs.OnPlatFacts.{area_accepted, stop_memory, stop_refused}
use Rattle.twp_answers.proofs.runs.acres_answer.answer_on.Goals as goal

pub returns-in-Err-clause-answer : goal.returns-in-Err-clause-answer
returns-in-Err-clause-answer c =
    stop_refused (IsAcresAnswerOn c.args.account c.args.plat.now c.args.description.now)
    c.args.plat.now.township
    c.args.description.now c.in-Err.stop c.answer_stop.result
    (c.in-Err.ensures.stopped c.args.plat.now.township) c.answer_stop.ensures.answer
    (λ refusal is. (is, refl))

pub returns-in-Err-clause-memory : goal.returns-in-Err-clause-memory
returns-in-Err-clause-memory c =
    stop_memory c.args.plat.now.township c.args.description.now c.in-Err.stop c.answer_stop.result
    (c.in-Err.ensures.stopped c.args.plat.now.township) c.answer_stop.ensures.answer

pub returns-in-Err-clause-clear : goal.returns-in-Err-clause-clear
returns-in-Err-clause-clear c =
    says_nothing c.answer_stop.result (HasNoDoubtfulPlace c.args.description.now)
    c.answer_stop.ensures.unclear

pub returns-clause-answer : goal.returns-clause-answer
returns-clause-answer c =
    stop_refused (IsAcresAnswerOn c.args.account c.args.plat.now c.args.description.now)
    c.args.plat.now.township
    c.args.description.now c.in-Err-area_described.stop c.answer_stop-in-Err-area_described.result
    (c.in-Err-area_described.ensures c.args.description.now c.in-Ok.ensures.read)
    c.answer_stop-in-Err-area_described.ensures.answer (λ refusal is. (is, refl))

pub returns-clause-memory : goal.returns-clause-memory
returns-clause-memory c =
    stop_memory c.args.plat.now.township c.args.description.now c.in-Err-area_described.stop
    c.answer_stop-in-Err-area_described.result
    (c.in-Err-area_described.ensures c.args.description.now c.in-Ok.ensures.read)
    c.answer_stop-in-Err-area_described.ensures.answer

pub returns-clause-clear : goal.returns-clause-clear
returns-clause-clear c =
    says_nothing c.answer_stop-in-Err-area_described.result (HasNoDoubtfulPlace c.args.description.now)
    c.answer_stop-in-Err-area_described.ensures.unclear

pub returns-in-Ok-area_described-clause-answer : goal.returns-in-Ok-area_described-clause-answer
returns-in-Ok-area_described-clause-answer c =
    area_accepted c.args.account c.args.plat.now c.args.description.now c.in-Ok-area_described.area
    c.hundredths.result c.accept.result
    (c.in-Ok-area_described.ensures c.args.description.now c.in-Ok.ensures.read) c.hundredths.ensures
    c.accept.ensures.answer

pub returns-in-Ok-area_described-clause-clear : goal.returns-in-Ok-area_described-clause-clear
returns-in-Ok-area_described-clause-clear c =
    says_the_same c.accept.result c.in-Ok.noted.clarity (HasNoDoubtfulPlace c.args.description.now)
    c.accept.ensures.clarity c.in-Ok.ensures.clear
