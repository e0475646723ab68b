use Rattle.std.proofs.Common.{length, ◌-◌}
use Rattle.twp_read.proofs.Watched.{Watched}
use Rattle.twp_read.proofs.description.Description.read_within.Given as goal

-- the tokens so far led here, with these items, and were watched
abbrev pub invariant-tokens : goal.invariant-tokens
invariant-tokens l = Watched l.text l.reached.at l.reached.state l.items l.watch

abbrev pub decreases-tokens : goal.decreases-tokens
decreases-tokens l = length l.text - l.reached.at
