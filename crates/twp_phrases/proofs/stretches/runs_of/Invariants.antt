use Rattle.std.proofs.Common.{◌-◌, ◌≤◌, length}
use Rattle.twp_phrases.specs.Unread.{AreRunsUpTo}
use Rattle.twp_phrases.proofs.stretches.runs_of.Given as goal

-- the runs so far
abbrev pub invariant-loop-word : goal.invariant-loop-word
invariant-loop-word l = (l.at ≤ length l.left) × AreRunsUpTo l.left l.at l.runs.items

abbrev pub decreases-loop-word : goal.decreases-loop-word
decreases-loop-word l = length l.left - l.at
