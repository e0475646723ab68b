use Rattle.std.proofs.Common.{◌≡◌, false, length}
use Rattle.twp_suggest.specs.steps.Plain.{are_plain_bytes}
use Rattle.twp_suggest.proofs.plain.are_plain_bytes.Given as goal

-- the rest decides
abbrev pub invariant-loop-left : goal.invariant-loop-left
invariant-loop-left l =
    are_plain_bytes l.has_and l.has_of l.before l.last l.left
    ≡ are_plain_bytes false false 0 0 l.fn.made

abbrev pub decreases-loop-left : goal.decreases-loop-left
decreases-loop-left l = length l.left
