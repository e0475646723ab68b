use Rattle.std.proofs.Common.{length, ◌-◌}
use Rattle.twp_calls.proofs.SplitFacts.{AtToken}
use Rattle.twp_calls.proofs.next_heading.next_heading.Given as goal

-- no token so far begins a heading, and this is the end of land after them
abbrev pub invariant-tokens : goal.invariant-tokens
invariant-tokens l = AtToken l.text l.from l.at l.land_end

abbrev pub decreases-tokens : goal.decreases-tokens
decreases-tokens l = length l.text - l.at
