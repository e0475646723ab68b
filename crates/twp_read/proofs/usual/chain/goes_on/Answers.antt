-- The bytes so far are the same.
use Rattle.std.proofs.Common.{arith}
use Rattle.twp_read.proofs.UsualFacts.{begins_there}
use Rattle.twp_read.proofs.usual.chain.goes_on.Goals as goal

pub returns-clause-spelled : goal.returns-clause-spelled
returns-clause-spelled c = λ _.
    begins_there c.args.text.now c.args.at c.args.bytes.now c.split_at.result.1.now c.split_at.ensures.back
    (omega arith) (λ k below. c.loop-index.invariant.same k (omega (arith, below)))
