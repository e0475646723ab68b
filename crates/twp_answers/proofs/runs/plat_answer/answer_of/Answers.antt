-- A stop is answered with its refusal.
use Rattle.std.proofs.Common.{refl}
use Rattle.twp_notes.specs.FieldNotes.{NOTES_MOST}
use Rattle.twp_plat.specs.Plats.{SurveyPlat}
use Rattle.twp_answers.specs.Answers.{IsNoPlat}
use Rattle.twp_answers.specs.PlatAnswers.{IsPlatAnswer}
use Rattle.twp_answers.proofs.runs.StopFacts.{accepted_up_to, refused_of_one, stopped_up_to}
use Rattle.twp_answers.proofs.runs.plat_answer.answer_of.Goals as goal

pub returns-in-Ok-clause-reads : goal.returns-in-Ok-clause-reads
returns-in-Ok-clause-reads g c =
    accepted_up_to {T = SurveyPlat} NOTES_MOST _ c.in-Ok.plat c.accept.result c.in-Ok.ensures.reads
    c.accept.ensures.memory

pub returns-in-Err-clause-reads : goal.returns-in-Err-clause-reads
returns-in-Err-clause-reads g c =
    stopped_up_to {T = SurveyPlat} NOTES_MOST _ c.in-Err.stop c.answer_stop.result c.in-Err.ensures.reads
    c.answer_stop.ensures.answer

pub returns-in-Err-clause-answer : goal.returns-in-Err-clause-answer
returns-in-Err-clause-answer g c =
    refused_of_one _ IsNoPlat IsPlatAnswer c.in-Err.stop c.answer_stop.result c.in-Err.ensures.plat
    c.answer_stop.ensures.answer (λ n refusal is. (is, refl))
