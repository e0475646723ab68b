use Rattle.twp_grid.specs.Places.{PLACE_DIGITS, places_across}
use Rattle.twp_land.proofs.LaneFacts.{held_in_no_lanes}
use Rattle.twp_land.proofs.lanes.LaneRowsPlot.empty.Goals as goal

pub invariant_of-result : goal.invariant_of-result
invariant_of-result c = record { untouched = λ _. held_in_no_lanes (places_across PLACE_DIGITS) }

pub returns : goal.returns
returns c = held_in_no_lanes (places_across PLACE_DIGITS)
