-- Items that do not lie on the plat are refused for their fault.
use Rattle.std.proofs.lemmas.Result.{err_from_is_err_and}
use Rattle.twp_answers.proofs.StopsOnPlat.{stopped_by_places, places_never_fail}
use Rattle.twp_answers.proofs.on_plat.describe_into.Goals as goal

pub returns-in_err-resolve_into-clause-memory : goal.returns-in_err-resolve_into-clause-memory
returns-in_err-resolve_into-clause-memory g c =
    let gone =
    err_from_is_err_and c.from_residual-in_err-resolve_into.result
    c.from_residual-in_err-resolve_into.ensures.1 in
    rw gone.1 (places_never_fail _ _ _ gone.2)

pub returns-in_err-resolve_into-clause-land : goal.returns-in_err-resolve_into-clause-land
returns-in_err-resolve_into-clause-land g c =
    let gone =
    err_from_is_err_and c.from_residual-in_err-resolve_into.result
    c.from_residual-in_err-resolve_into.ensures.1 in
    rw gone.1
    (stopped_by_places _ _ c.args.text.now _ _ _ c.in_ok-noted.ensures.read
    c.in_err-resolve_into.ensures.refused gone.2)
