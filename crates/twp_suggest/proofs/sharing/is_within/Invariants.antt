use Rattle.std.proofs.Common.{◌≡◌, length, map}
use Rattle.twp_rules.specs.Changes.{seen}
use Rattle.twp_suggest.specs.Sharing.{is_within}
use Rattle.twp_suggest.proofs.sharing.is_within.Given as goal

-- the rest decides
abbrev pub invariant-loop-left : goal.invariant-loop-left
invariant-loop-left l =
    is_within l.sought l.from l.to l.at l.place (map seen l.left)
    ≡ is_within l.sought l.from l.to 0 0 (map seen l.fn.changes)

abbrev pub decreases-loop-left : goal.decreases-loop-left
decreases-loop-left l = length l.left
