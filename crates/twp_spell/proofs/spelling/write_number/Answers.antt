-- A number below 10 has one digit.
use Rattle.std.proofs.Common.{◌<◌, arith}
use Rattle.std.proofs.lemmas.Fmt.{decimal_digit}
use Rattle.twp_spell.proofs.spelling.write_number.Goals as goal

pub returns-then-number-lt10 : goal.returns-then-number-lt10
returns-then-number-lt10 c =
    let few : c.args.number < 10 = omega (arith, c.if-number-lt10.true) in
    rw (decimal_digit c.args.number few) c.write_digit.ensures
