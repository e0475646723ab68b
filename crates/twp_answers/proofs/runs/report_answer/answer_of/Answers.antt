-- If the notes make no plat, the list is unchanged.
use Rattle.std.proofs.Common.{inl, refl}
use Rattle.std.specs.Prelude.{⊤}
use Rattle.twp_plat.specs.Plats.{SurveyPlat}
use Rattle.twp_answers.specs.Answers.{IsNoPlat}
use Rattle.twp_answers.specs.Tracts.{TRACTS_LIMIT}
use Rattle.twp_answers.specs.ReportAnswers.{IsReportAnswer}
use Rattle.twp_answers.specs.steps.Stages.{same_fault}
use Rattle.twp_answers.specs.ClearTracts.{IsClearList}
use Rattle.twp_answers.proofs.runs.ClarityFacts.{says_nothing_of}
use Rattle.twp_answers.proofs.runs.StopFacts.{first_stopped, refused_of_first, second_read, stopped_on_plat}
use Rattle.twp_answers.proofs.runs.report_answer.answer_of.Goals as goal

pub returns-in-Ok-clause-reads : goal.returns-in-Ok-clause-reads
returns-in-Ok-clause-reads g c =
    second_read {P = SurveyPlat} same_fault TRACTS_LIMIT _ _ _ c.in-Ok.plat c.report_on.result
    c.in-Ok.ensures.reads c.report_on.ensures.reads

pub returns-in-Err-clause-reads : goal.returns-in-Err-clause-reads
returns-in-Err-clause-reads g c =
    let notes = c.in-Err.ensures in
    stopped_on_plat TRACTS_LIMIT _ _ _ c.in-Err.stop c.answer_stop.result
    (first_stopped {T = SurveyPlat} {U = ⊤} TRACTS_LIMIT _ _ _ _ c.in-Err.stop notes.reads notes.plat
    c.requires.tracts refl) c.answer_stop.ensures.answer

pub returns-in-Err-clause-answer : goal.returns-in-Err-clause-answer
returns-in-Err-clause-answer g c =
    refused_of_first _ _ _ _ IsNoPlat IsReportAnswer c.in-Err.stop c.answer_stop.result
    c.in-Err.ensures.plat c.answer_stop.ensures.answer (λ n t refusal is. inl (is, refl)) refl

pub returns-in-Err-clause-clear : goal.returns-in-Err-clause-clear
returns-in-Err-clause-clear g c =
    says_nothing_of c.answer_stop.result (g.T.Source.remaining c.args.tracts.now) (λ t. IsClearList t)
    c.answer_stop.ensures.unclear
