use Rattle.std.proofs.Common.{◌≤◌, drop, map, length}
use Rattle.twp_rules.specs.Changes.{AreChangesFrom, seen}
use Rattle.twp_rules.proofs.change.are_allowed.Given as goal

-- if the changes that are left are changes from here on, all are
abbrev pub invariant-loop-change : goal.invariant-loop-change
invariant-loop-change l =
    (l.at ≤ length l.text)
    × (AreChangesFrom l.at l.text (map seen (drop l.change-index l.changes))
    → AreChangesFrom 0 l.text (map seen l.changes))
