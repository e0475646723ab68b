use Rattle.std.proofs.Common.{length}
use Rattle.twp_suggest.proofs.meaning.ExceptingFacts.{AreSoFar}
use Rattle.twp_suggest.proofs.meaning.kept.divide.Given as goal

-- the divisions so far, and the rest of the text
abbrev pub invariant-divisions : goal.invariant-divisions
invariant-divisions l = AreSoFar l.made l.rest l.whole.items l.excepted.items l.mark

abbrev pub decreases-divisions : goal.decreases-divisions
decreases-divisions l = length l.rest
