use Rattle.std.proofs.Common.{◌≡◌, ◌++◌, length}
use Rattle.twp_rules.specs.steps.Sections.{sections_of}
use Rattle.twp_rules.proofs.arrangement.sections_of.Given as goal

-- the sections so far, and those of the rest, are all
abbrev pub invariant-loop-left : goal.invariant-loop-left
invariant-loop-left l = sections_of l.marks ≡ l.sections.items ++ sections_of l.left

abbrev pub decreases-loop-left : goal.decreases-loop-left
decreases-loop-left l = length l.left
