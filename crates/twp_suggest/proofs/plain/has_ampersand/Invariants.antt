use Rattle.std.proofs.Common.{◌≡◌, length, map}
use Rattle.twp_rules.specs.Changes.{seen}
use Rattle.twp_suggest.specs.steps.Plain.{has_no_ampersand}
use Rattle.twp_suggest.proofs.plain.has_ampersand.Given as goal

-- the rest decides
abbrev pub invariant-loop-left : goal.invariant-loop-left
invariant-loop-left l =
    has_no_ampersand l.text (map seen l.left) ≡ has_no_ampersand l.text (map seen l.fn.changes)

abbrev pub decreases-loop-left : goal.decreases-loop-left
decreases-loop-left l = length l.left
