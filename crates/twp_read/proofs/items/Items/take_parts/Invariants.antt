use Rattle.std.proofs.Common.{length, ◌-◌}
use Rattle.twp_read.specs.steps.Usual.{Leads}
use Rattle.twp_read.proofs.items.Items.take_parts.Given as goal

-- the parts so far led here
abbrev pub invariant-loop-alloc : goal.invariant-loop-alloc
invariant-loop-alloc l =
    Leads l.text l.fn.from.at l.fn.from.state l.fn.self l.reached.at l.reached.state l.self

abbrev pub decreases-loop-alloc : goal.decreases-loop-alloc
decreases-loop-alloc l = length l.text - l.reached.at
