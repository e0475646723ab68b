use Rattle.twp_grid.specs.Places.{PLACE_DIGITS, places_across}
use Rattle.twp_land.proofs.RowFacts.{held_in_none}
use Rattle.twp_land.proofs.rows.RowsPlot.empty.Goals as goal

pub returns : goal.returns
returns c = held_in_none (places_across PLACE_DIGITS) (places_across PLACE_DIGITS)
