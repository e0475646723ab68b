-- The texts that were read do not change, and a stop is answered with its refusal.
use Rattle.std.proofs.Common.{refl}
use Rattle.twp_read.specs.Doubts.{HasNoDoubtfulPlace}
use Rattle.twp_read.specs.TextFaults.{TEXT_LIMIT}
use Rattle.twp_answers.specs.Answers.{IsRefusal}
use Rattle.twp_answers.specs.NormalAnswers.{IsNormalAnswer}
use Rattle.twp_answers.specs.steps.OnPlatSteps.{IsNormalAnswerOn}
use Rattle.twp_answers.proofs.runs.ClarityFacts.{says_nothing_of, says_of_two}
use Rattle.twp_answers.proofs.runs.OnPlatFacts.{answered_of_two, normal_answered}
use Rattle.twp_answers.proofs.runs.StopFacts.{accepted_on_plat, refused_of_two, stopped_on_plat}
use Rattle.twp_answers.proofs.runs.normal_answer.answer_of.Goals as goal

pub returns-in-Ok-clause-reads : goal.returns-in-Ok-clause-reads
returns-in-Ok-clause-reads g c =
    accepted_on_plat TEXT_LIMIT _ _ _ c.in-Ok.read c.answer_on.result c.in-Ok.ensures.reads
    c.answer_on.ensures.memory

pub returns-in-Ok-clause-answer : goal.returns-in-Ok-clause-answer
returns-in-Ok-clause-answer g c =
    answered_of_two _ _ _ _ IsNormalAnswerOn IsNormalAnswer c.in-Ok.read.plat
    c.in-Ok.read.description.items c.answer_on.result
    (λ n d a v platted is. normal_answered n d c.in-Ok.read.plat a v platted is)
    c.in-Ok.ensures.texts (rw c.as_slice.ensures.value at c.answer_on.ensures.answer)

pub returns-in-Err-clause-reads : goal.returns-in-Err-clause-reads
returns-in-Err-clause-reads g c =
    stopped_on_plat TEXT_LIMIT _ _ _ c.in-Err.stop c.answer_stop.result c.in-Err.ensures.reads
    c.answer_stop.ensures.answer

pub returns-in-Err-clause-answer : goal.returns-in-Err-clause-answer
returns-in-Err-clause-answer g c =
    refused_of_two _ _ _ _ IsRefusal IsNormalAnswer c.in-Err.stop c.answer_stop.result
    c.in-Err.ensures.texts c.answer_stop.ensures.answer (λ n d refusal is. (is, refl))

pub returns-in-Ok-clause-clear : goal.returns-in-Ok-clause-clear
returns-in-Ok-clause-clear g c =
    says_of_two _ _ _ _ c.in-Ok.read.plat c.in-Ok.read.description.items c.answer_on.result
    c.in-Ok.ensures.texts (rw c.as_slice.ensures.value at c.answer_on.ensures.clear)

pub returns-in-Err-clause-clear : goal.returns-in-Err-clause-clear
returns-in-Err-clause-clear g c =
    says_nothing_of c.answer_stop.result (g.D.Source.remaining c.args.description.now)
    (λ d. HasNoDoubtfulPlace d) c.answer_stop.ensures.unclear
