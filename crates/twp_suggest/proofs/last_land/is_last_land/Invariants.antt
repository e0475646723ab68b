use Rattle.std.proofs.Common.{◌≤◌}
use Rattle.twp_suggest.proofs.last_land.is_last_land.Given as goal

-- each place is tried once
abbrev pub invariant-loop-count : goal.invariant-loop-count
invariant-loop-count g l = l.tried ≤ l.count
