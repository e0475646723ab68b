use Rattle.std.proofs.Common.{length}
use Rattle.twp_read.proofs.ReaderFacts.{Search}
use Rattle.twp_read.proofs.description.first_bad.Given as goal

-- the tokens so far are good
abbrev pub invariant-loop-token : goal.invariant-loop-token
invariant-loop-token l = Search l.text l.tokens.at l.tokens.bytes

abbrev pub decreases-loop-token : goal.decreases-loop-token
decreases-loop-token l = length l.tokens.bytes
