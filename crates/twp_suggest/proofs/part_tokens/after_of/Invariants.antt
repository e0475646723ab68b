use Rattle.std.proofs.Common.{◌≡◌, length, map}
use Rattle.twp_grammar.specs.Tokens.{seen}
use Rattle.twp_suggest.specs.Sharing.{after_of}
use Rattle.twp_suggest.proofs.part_tokens.after_of.Given as goal

-- the rest decides
abbrev pub invariant-loop-left : goal.invariant-loop-left
invariant-loop-left l = after_of l.others (map seen l.left) ≡ after_of l.fn.count (map seen l.fn.part)

abbrev pub decreases-loop-left : goal.decreases-loop-left
decreases-loop-left l = length l.left
