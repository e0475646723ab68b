-- A number of one or two digits.
use Rattle.std.proofs.Common.{rules, ◌≡◌, ◌+◌, ◌≤◌, ◌<◌, ◌/◌, ◌%◌, [], ◌∷◌, decimal, arith}
use Rattle.std.proofs.lemmas.Fmt.{decimal_digit}
use Rattle.itoa.proofs.Decimal.{decimal_two}
use Rattle.twp_calls.proofs.designation_text.push_number.Goals as goal

pub returns-then-number-lt10 : goal.returns-then-number-lt10
returns-then-number-lt10 c =
    let few : c.args.number < 10 = omega (arith, c.if-number-lt10.true) in
    let text : decimal c.args.number ≡ (48 + c.args.number) ∷ [] = decimal_digit c.args.number few in
    rw text (search rules)

pub returns : goal.returns
returns c =
    let some : 10 ≤ c.args.number = omega (arith, c.if-number-lt10.false) in
    let text : decimal c.args.number ≡ (48 + c.args.number / 10) ∷ (48 + c.args.number % 10) ∷ [] =
    decimal_two c.args.number some c.requires in
    rw text (search rules)
