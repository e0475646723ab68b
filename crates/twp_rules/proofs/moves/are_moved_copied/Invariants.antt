use Rattle.std.proofs.Common.{◌≡◌, drop, map}
use Rattle.twp_rules.specs.Changes.{seen}
use Rattle.twp_rules.specs.steps.Moved.{are_moved_copied}
use Rattle.twp_rules.proofs.moves.are_moved_copied.Given as goal

-- the rest decides
abbrev pub invariant-loop-change : goal.invariant-loop-change
invariant-loop-change l =
    are_moved_copied l.text (map seen l.changes) (map seen l.changes)
    ≡ are_moved_copied l.text (map seen l.changes) (map seen (drop l.change-index l.changes))
