use Rattle.std.proofs.Common.{length, ◌-◌, ◌≡◌, Some}
use Rattle.twp_read.specs.steps.Usual.{Leads, listed_in}
use Rattle.twp_read.proofs.items.Items.take_numbers.Given as goal

-- the numbers so far led here, where the list continues
abbrev pub invariant-numbers : goal.invariant-numbers
invariant-numbers l = record {
  led : Leads l.text l.fn.from.at l.fn.from.state l.fn.self l.reached.at l.reached.state l.self;
  goes_on : listed_in l.reached.state ≡ Some l.list;
}

abbrev pub decreases-numbers : goal.decreases-numbers
decreases-numbers l = length l.text - l.reached.at
