use Rattle.std.proofs.Common.{◌≡◌, length, map}
use Rattle.twp_grammar.specs.Tokens.{seen}
use Rattle.twp_suggest.specs.Sharing.{last_part}
use Rattle.twp_suggest.proofs.part_tokens.last_part.Given as goal

-- the rest decides
abbrev pub invariant-loop-left : goal.invariant-loop-left
invariant-loop-left l = last_part l.count (map seen l.left) ≡ last_part l.count (map seen l.fn.tokens)

abbrev pub decreases-loop-left : goal.decreases-loop-left
decreases-loop-left l = length l.left
