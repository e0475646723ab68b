use Rattle.std.proofs.Common.{length, map}
use Rattle.twp_grammar.specs.Tokens.{seen as token}
use Rattle.twp_rules.specs.Changes.{seen}
use Rattle.twp_suggest.proofs.CutFacts.{JoinedCut}
use Rattle.twp_suggest.proofs.sharing.joined_tokens.Given as goal

-- these are the tokens so far
abbrev pub invariant-loop-token : goal.invariant-loop-token
invariant-loop-token l =
    JoinedCut l.text l.made (map seen l.changes) l.left.at l.left.bytes (map token l.tokens.items)

abbrev pub decreases-loop-token : goal.decreases-loop-token
decreases-loop-token l = length l.left.bytes
