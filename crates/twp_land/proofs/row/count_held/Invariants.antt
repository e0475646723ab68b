use Rattle.std.proofs.Common.{◌≡◌, ◌≤◌}
use Rattle.twp_land.specs.steps.RowTests.{count_in_row}
use Rattle.twp_land.proofs.row.count_held.Given as goal

abbrev pub invariant-loop-along : goal.invariant-loop-along
invariant-loop-along l = (l.count ≡ count_in_row l.row l.start l.along) × (l.count ≤ l.along)
