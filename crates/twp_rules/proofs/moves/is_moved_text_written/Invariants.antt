use Rattle.std.proofs.Common.{◌≡◌, drop, map}
use Rattle.twp_rules.specs.Changes.{AreChangesFrom, seen}
use Rattle.twp_rules.specs.Moves.{keep_moved, nothing_named}
use Rattle.twp_rules.proofs.moves.is_moved_text_written.Given as goal

-- the changes that are left are changes from here on, and decide
abbrev pub invariant-loop-change : goal.invariant-loop-change
invariant-loop-change l =
    AreChangesFrom l.at l.text (map seen (drop l.change-index l.changes))
    × (keep_moved l.text (map seen l.changes) 0 nothing_named (map seen l.changes)
    ≡ keep_moved l.text (map seen l.changes) l.at l.named (map seen (drop l.change-index l.changes)))
