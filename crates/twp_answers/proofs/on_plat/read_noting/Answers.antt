-- A text that can't be read stops the call.
use Rattle.std.proofs.lemmas.Result.{err_from_is_err_and}
use Rattle.twp_grid.specs.Lands.{STANDARD_LOTS}
use Rattle.twp_answers.proofs.StopsOnPlat.{text_stops_on}
use Rattle.twp_answers.proofs.on_plat.read_noting.Goals as goal

pub returns-in_err-read_noting-clause-stopped : goal.returns-in_err-read_noting-clause-stopped
returns-in_err-read_noting-clause-stopped c =
    let gone = err_from_is_err_and c.from_residual.result c.from_residual.ensures.1 in
    rw gone.1
    (λ township.
    text_stops_on STANDARD_LOTS township c.args.description.now c.in_err-read_noting.field-0.0 _
    c.in_err-read_noting.ensures.refused
    gone.2)
