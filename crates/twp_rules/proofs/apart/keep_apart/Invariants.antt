use Rattle.std.proofs.Common.{◌≡◌, drop, map}
use Rattle.twp_rules.specs.Changes.{AreChangesFrom, seen}
use Rattle.twp_rules.specs.Apart.{first_seam, keep_apart}
use Rattle.twp_rules.proofs.apart.keep_apart.Given as goal

-- the changes that are left are changes from here on, and decide
abbrev pub invariant-loop-change : goal.invariant-loop-change
invariant-loop-change l =
    AreChangesFrom l.at l.text (map seen (drop l.change-index l.changes))
    × (keep_apart l.text 0 first_seam (map seen l.changes)
    ≡ keep_apart l.text l.at l.seam (map seen (drop l.change-index l.changes)))
