-- The text is that of the items' places, or they stop the call.
use Rattle.std.proofs.lemmas.Result.{err_from_is_err_and}
use Rattle.twp_grid.specs.Lands.{STANDARD_LOTS}
use Rattle.twp_answers.proofs.StopsOnPlat.{places_stop_on}
use Rattle.twp_answers.proofs.on_plat.normal_described.Goals as goal

pub returns-in_err-resolve_if_room : goal.returns-in_err-resolve_if_room
returns-in_err-resolve_if_room c = λ text read.
    let gone = err_from_is_err_and c.from_residual.result c.from_residual.ensures.1 in
    rw gone.1
    (places_stop_on STANDARD_LOTS c.args.plat.now.township text c.args.description.now
    c.in_err-resolve_if_room.field-0.0 _
    read
    (rw c.township.ensures at c.in_err-resolve_if_room.ensures.refused) gone.2)

pub returns : goal.returns
returns c = λ text read. record {
  places = _;
  described = record {
    items = c.args.description.now;
    read = read;
    land = rw c.township.ensures at (c.in_ok-resolve_if_room.ensures.land (cc c.if-not-branch.false));
  };
  text_is = rw c.township-2.ensures at c.in_ok-spell_set.ensures.text;
}
