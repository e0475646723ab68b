use Rattle.std.proofs.Common.{length, ◌-◌}
use Rattle.twp_calls.proofs.SplitParts.{AtHeading}
use Rattle.twp_calls.proofs.split.headed_parts.Given as goal

-- the parts before the heading that was reached
abbrev pub invariant-parts : goal.invariant-parts
invariant-parts l = AtHeading l.text l.from l.start l.at l.parts.items

abbrev pub decreases-parts : goal.decreases-parts
decreases-parts l = length l.text - l.at
