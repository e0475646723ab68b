-- The places are those of the rows.
use Rattle.std.proofs.Common.{subst, sym}
use Rattle.twp_grid.specs.Lands.{HasWholeLots, STANDARD_LOTS}
use Rattle.twp_calls.proofs.land.TownshipLand.land.Goals as goal

pub returns : goal.returns
returns c = record {
  township_is = c.in_ok-township.ensures.township_is;
  places_are = c.of_rows-places.ensures;
  lots_are = c.in_ok-township.ensures.lots_are;
  whole = λ none.
      subst (HasWholeLots STANDARD_LOTS) (sym c.of_rows-places.ensures) (c.in_ok-township.ensures.whole none);
}
