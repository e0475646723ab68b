-- The description was read, or it stops the call.
use Rattle.std.proofs.lemmas.Result.{err_from_is_err_and}
use Rattle.twp_answers.proofs.on_plat.normal_on.Goals as goal

pub returns-in_err-noted : goal.returns-in_err-noted
returns-in_err-noted c =
    let gone = err_from_is_err_and c.from_residual.result c.from_residual.ensures.1 in
    rw (gone.1, gone.2) (c.in_err-noted.ensures.stopped c.args.plat.now.township)

pub returns : goal.returns
returns c = c.normal_described.ensures c.args.description.now c.in_ok-noted.ensures.read
