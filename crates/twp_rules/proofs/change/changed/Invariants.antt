use Rattle.std.proofs.Common.{◌≡◌, ◌++◌, drop, map}
use Rattle.twp_rules.specs.Changes.{AreChangesFrom, changed_from, seen}
use Rattle.twp_rules.proofs.change.changed.Given as goal

-- the text with the changes so far, and the changes that are left
abbrev pub invariant-loop-change : goal.invariant-loop-change
invariant-loop-change l =
    AreChangesFrom l.at l.text (map seen (drop l.change-index l.changes))
    × (l.made.items ++ changed_from l.at l.text (map seen (drop l.change-index l.changes))
    ≡ changed_from 0 l.text (map seen l.changes))
