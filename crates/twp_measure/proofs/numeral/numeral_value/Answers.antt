use Rattle.std.proofs.Common.{arith}
use Rattle.twp_measure.proofs.Numerals.{one_more_digit}
use Rattle.twp_measure.proofs.numeral.numeral_value.Goals as goal

pub overflow_sub-byte : goal.overflow_sub-byte
overflow_sub-byte c =
    (one_more_digit _ _ _ c.requires.digits.1 (omega arith) c.loop-byte.invariant.0
    c.loop-byte.invariant.1).byte

pub loop-byte-preserved : goal.loop-byte-preserved
loop-byte-preserved c =
    let more =
    one_more_digit _ _ _ c.requires.digits.1 (omega arith) c.loop-byte.invariant.0 c.loop-byte.invariant.1 in
    rw c.from.ensures (more.value, more.bound)
