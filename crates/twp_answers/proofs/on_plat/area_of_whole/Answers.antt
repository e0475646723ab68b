-- The area is that of the items' places.
use Rattle.twp_answers.proofs.on_plat.area_of_whole.Goals as goal

pub returns : goal.returns
returns c = λ text read. record {
  places = _;
  described = record {
    items = c.args.description.now;
    read = read;
    land = rw c.township.ensures at (c.resolve_whole.ensures.land (cc c.if-not-resolve_whole.false));
  };
  area_is = c.area_by.ensures;
}
