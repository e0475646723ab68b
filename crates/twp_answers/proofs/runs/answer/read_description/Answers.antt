-- If reading failed, there is no refusal.
use Rattle.std.proofs.Common.{[]}
use Rattle.std.specs.Prelude.{unwrap_or}
use Rattle.std.proofs.lemmas.Result.{err_from_is_err_and}
use Rattle.twp_answers.proofs.RunFacts.{some_bytes}
use Rattle.twp_answers.proofs.runs.answer.read_description.Goals as goal

pub returns-in_err-text-clause-text : goal.returns-in_err-text-clause-text
returns-in_err-text-clause-text g c =
    let told = g.D.Source.remaining c.args.description.now in
    let gone = err_from_is_err_and c.from_residual.result c.from_residual.ensures.1 in
    record { bytes = unwrap_or told []; tells = some_bytes told; holds = rw (gone.1, gone.2) tt }
