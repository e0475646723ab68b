use Rattle.std.proofs.Common.{◌≤◌}
use Rattle.twp_suggest.proofs.last_land.are_all_parts.Given as goal

-- each place is tried once
abbrev pub invariant-loop-at : goal.invariant-loop-at
invariant-loop-at g l = l.tried ≤ l.at
