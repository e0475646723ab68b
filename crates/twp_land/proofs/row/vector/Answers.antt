use Rattle.std.proofs.Common.{arith}
use Rattle.std.proofs.lemmas.List.{take_all}
use Rattle.twp_grid.specs.Places.{PLACE_DIGITS, places_across}
use Rattle.twp_land.proofs.row.vector.Goals as goal

pub returns-clause-lanes : goal.returns-clause-lanes
returns-clause-lanes c = take_all (places_across PLACE_DIGITS) c.args.lanes.now (omega (arith, c.requires))
