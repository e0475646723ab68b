use Rattle.std.proofs.Common.{◌≡◌, length, map}
use Rattle.twp_rules.specs.Changes.{seen}
use Rattle.twp_suggest.specs.Sharing.{is_for_and}
use Rattle.twp_suggest.proofs.sharing.is_for_and.Given as goal

-- the rest decides
abbrev pub invariant-loop-left : goal.invariant-loop-left
invariant-loop-left l =
    is_for_and l.text l.seat l.at l.place (map seen l.left)
    ≡ is_for_and l.text l.seat 0 0 (map seen l.fn.changes)

abbrev pub decreases-loop-left : goal.decreases-loop-left
decreases-loop-left l = length l.left
