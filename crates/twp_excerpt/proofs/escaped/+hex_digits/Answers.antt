-- One more digit than the others.
use Rattle.std.proofs.Common.{sym, arith}
use Rattle.twp_excerpt.proofs.HexFacts.{hex_at_most, hex_length_last, hex_length_step}
use Rattle.twp_excerpt.proofs.escaped.+hex_digits.Goals as goal

pub returns-then-number-lt16-clause-value : goal.returns-then-number-lt16-clause-value
returns-then-number-lt16-clause-value t c = sym (hex_length_last c.args.number c.if-number-lt16.true)

pub returns-clause-value : goal.returns-clause-value
returns-clause-value t c =
    omega
    (arith, hex_length_step c.args.number c.if-number-lt16.false (omega arith), c.hex_digits.ensures.value)

pub returns-clause-few : goal.returns-clause-few
returns-clause-few t c =
    omega (
      arith,
      hex_length_step c.args.number c.if-number-lt16.false (omega arith),
      c.hex_digits.ensures.value,
      hex_at_most c.args.number (omega arith),
    )
