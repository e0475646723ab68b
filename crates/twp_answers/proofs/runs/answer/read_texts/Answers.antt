-- If the notes make no plat, the description is unchanged.
use Rattle.std.proofs.Common.{[], inr, refl}
use Rattle.std.specs.Prelude.{unwrap_or}
use Rattle.std.proofs.lemmas.Result.{err_from_is_err_and}
use Rattle.twp_plat.specs.Plats.{SurveyPlat}
use Rattle.twp_read.specs.TextFaults.{TEXT_LIMIT}
use Rattle.twp_answers.specs.declared.stop.Stop.TheVariants as stop
use Rattle.twp_answers.proofs.RunFacts.{some_bytes, refused_of_notes}
use Rattle.twp_answers.proofs.runs.StopFacts.{first_stopped, other_stop, other_value, second_read}
use Rattle.twp_answers.proofs.runs.answer.read_texts.Goals as goal

pub returns-in_err-plat-clause-texts : goal.returns-in_err-plat-clause-texts
returns-in_err-plat-clause-texts g c =
    let told = g.D.Source.remaining c.args.description.now in
    let notes = c.in_err-plat.ensures.plat in
    let gone = err_from_is_err_and c.from_residual.result c.from_residual.ensures.1 in
    record {
      first_bytes = notes.bytes;
      second_bytes = unwrap_or told [];
      first_tells = notes.tells;
      second_tells = some_bytes told;
      holds =
          rw (gone.1, gone.2)
          (refused_of_notes notes.bytes (unwrap_or told []) c.in_err-plat.field-0.0 notes.holds);
      order = inr refl;
    }

pub returns-in_err-plat-clause-reads : goal.returns-in_err-plat-clause-reads
returns-in_err-plat-clause-reads g c =
    let stopped = c.in_err-plat.ensures in
    let gone = err_from_is_err_and c.from_residual.result c.from_residual.ensures.1 in
    rw (gone.1, gone.2) (first_stopped {T = SurveyPlat} TEXT_LIMIT _ _ _ _ c.in_err-plat.field-0.0
    stopped.reads stopped.plat c.requires.description refl)

pub returns-in_err-description-clause-reads : goal.returns-in_err-description-clause-reads
returns-in_err-description-clause-reads g c =
    let gone = err_from_is_err_and c.from_residual-in_err-description.result
    c.from_residual-in_err-description.ensures.1 in
    rw (gone.1, gone.2) (other_stop TEXT_LIMIT _ _ _ c.in_err-description.field-0.0
    (second_read {P = SurveyPlat} stop.Failed TEXT_LIMIT _ _ _ c.in_ok-plat.plat _
    c.in_ok-plat.ensures.reads c.in_err-description.ensures.reads))

pub returns-clause-reads : goal.returns-clause-reads
returns-clause-reads g c =
    other_value TEXT_LIMIT _ _ _ c.in_ok-description.description _
    (second_read {P = SurveyPlat} stop.Failed TEXT_LIMIT _ _ _ c.in_ok-plat.plat _
    c.in_ok-plat.ensures.reads c.in_ok-description.ensures.reads)
