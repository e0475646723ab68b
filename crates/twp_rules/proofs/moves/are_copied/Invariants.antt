use Rattle.std.proofs.Common.{◌≡◌, ◌+◌, drop, map, slice_range}
use Rattle.twp_rules.specs.Changes.{seen}
use Rattle.twp_rules.specs.steps.Moved.{are_copied_from}
use Rattle.twp_rules.proofs.moves.are_copied.Given as goal

-- the rest decides
abbrev pub invariant-loop-index : goal.invariant-loop-index
invariant-loop-index l =
    are_copied_from l.text (map seen l.changes) l.start l.start (slice_range l.text l.start l.end)
    ≡ are_copied_from l.text (map seen l.changes) l.start (l.start + l.index)
    (drop l.index (slice_range l.text l.start l.end))
