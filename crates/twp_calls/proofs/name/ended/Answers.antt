-- Only zero bytes follow the name.
use Rattle.std.proofs.Common.{arith}
use Rattle.twp_calls.proofs.AccountFacts.{after_name}
use Rattle.twp_calls.proofs.name.ended.Goals as goal

pub returns-clause-ended : goal.returns-clause-ended
returns-clause-ended c = record {
  room = omega (arith, c.requires);
  zeros = after_name c.args.name.now _ (rw c.as_bytes-bytes.ensures.value at c.copy_front.ensures);
}
