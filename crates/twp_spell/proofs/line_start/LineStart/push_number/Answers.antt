-- A number of one, two, or three digits.
use Rattle.std.proofs.Common.{◌≡◌, ◌++◌, ◌≤◌, ◌<◌, ◌/◌, ◌%◌, ◌∙◌, refl, sym, ap, arith}
use Rattle.std.proofs.lemmas.Fmt.{decimal_digit}
use Rattle.itoa.proofs.Decimal.{decimal_two, decimal_pair}
use Rattle.twp_spell.proofs.line_start.LineStart.push_number.Goals as goal

pub returns-then-number-lt10-clause-text : goal.returns-then-number-lt10-clause-text
returns-then-number-lt10-clause-text c =
    let few : c.args.number < 10 = omega (arith, c.if-number-lt10.true) in
    c.push.ensures ∙ ap (λ t. c.args.self.now ++ t) (sym (decimal_digit c.args.number few))

pub returns-then-number-lt100-clause-text : goal.returns-then-number-lt100-clause-text
returns-then-number-lt100-clause-text c =
    let some : 10 ≤ c.args.number = omega (arith, c.if-number-lt10.false) in
    let few : c.args.number < 100 = omega (arith, c.if-number-lt100.true) in
    c.push-then-number-lt100.ensures
    ∙ ap (λ t. c.args.self.now ++ t) (sym (decimal_two c.args.number some few))

pub returns-clause-text : goal.returns-clause-text
returns-clause-text c =
    let number = c.args.number in
    let many : 100 ≤ number = omega (arith, c.if-number-lt100.false) in
    let first : number / 100 < 10 = omega (arith, c.ranges.number) in
    let last : number % 100 % 10 ≡ number % 10 = omega arith in
    c.push-2.ensures
    ∙ ap (λ t. c.args.self.now ++ t)
    (sym
    (decimal_pair number many (omega (arith, c.ranges.number))
    ∙ rw (decimal_digit (number / 100) first, last) refl))
