use Rattle.std.proofs.Common.{◌≡◌, length}
use Rattle.twp_suggest.specs.Sharing.{has_place}
use Rattle.twp_suggest.proofs.sharing.has_place.Given as goal

-- the rest decides
abbrev pub invariant-loop-left : goal.invariant-loop-left
invariant-loop-left l = has_place l.before l.left ≡ has_place 0 l.fn.made

abbrev pub decreases-loop-left : goal.decreases-loop-left
decreases-loop-left l = length l.left
