use Rattle.std.proofs.Common.{◌≡◌, length}
use Rattle.twp_grid.specs.Places.{PLACE_DIGITS, places_across}
use Rattle.twp_land.specs.steps.RowTests.{IsCleared}
use Rattle.twp_land.proofs.row.cleared.Given as goal

abbrev pub invariant-loop-along : goal.invariant-loop-along
invariant-loop-along l = (length l.cleared ≡ places_across PLACE_DIGITS) × IsCleared l.row (record {
  start = l.start;
  len = l.along;
}) l.cleared
