use Rattle.std.proofs.Common.{length, ◌-◌}
use Rattle.twp_calls.proofs.DesignationFacts.{Standing}
use Rattle.twp_calls.proofs.designation_reading.progress_in.Given as goal

-- the tokens so far led here, and named these parts
abbrev pub invariant-tokens : goal.invariant-tokens
invariant-tokens l = Standing l.text l.at l.stage l.parts

abbrev pub decreases-tokens : goal.decreases-tokens
decreases-tokens l = length l.text - l.at
