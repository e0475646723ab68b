use Rattle.std.proofs.Common.{◌≡◌, ◌+◌, length, map}
use Rattle.twp_rules.specs.Changes.{seen}
use Rattle.twp_suggest.specs.Ways.{copied_length}
use Rattle.twp_suggest.proofs.turned.copied_length.Given as goal

-- what was counted, and the rest
abbrev pub invariant-loop-left : goal.invariant-loop-left
invariant-loop-left l =
    l.size + copied_length l.place (map seen l.left) ≡ copied_length l.place (map seen l.fn.changes)

abbrev pub decreases-loop-left : goal.decreases-loop-left
decreases-loop-left l = length l.left
