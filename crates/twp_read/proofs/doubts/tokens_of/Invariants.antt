use Rattle.std.proofs.Common.{length, map}
use Rattle.twp_grammar.specs.Tokens.{seen}
use Rattle.twp_read.proofs.DoubtFacts.{Cut}
use Rattle.twp_read.proofs.doubts.tokens_of.Given as goal

-- these are the tokens so far
abbrev pub invariant-loop-token : goal.invariant-loop-token
invariant-loop-token l = Cut l.text l.left.at l.left.bytes (map seen l.tokens.items)

abbrev pub decreases-loop-token : goal.decreases-loop-token
decreases-loop-token l = length l.left.bytes
