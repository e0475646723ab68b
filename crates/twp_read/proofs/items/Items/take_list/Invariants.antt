use Rattle.std.proofs.Common.{length, ◌-◌}
use Rattle.twp_read.specs.steps.Usual.{Leads}
use Rattle.twp_read.proofs.items.Items.take_list.Given as goal

-- the numbers so far led here
abbrev pub invariant-words : goal.invariant-words
invariant-words l = Leads l.text l.fn.from.at l.fn.from.state l.fn.self l.reached.at l.reached.state l.self

abbrev pub decreases-words : goal.decreases-words
decreases-words l = length l.text - l.reached.at
