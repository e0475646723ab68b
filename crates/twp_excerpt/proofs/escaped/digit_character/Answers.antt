use Rattle.std.proofs.Common.{sym, ap, cond, ◌+◌, lt-ltb, le-ltb}
use Rattle.twp_excerpt.proofs.escaped.digit_character.Goals as goal

pub returns-then-digit-lt10-clause-value : goal.returns-then-digit-lt10-clause-value
returns-then-digit-lt10-clause-value c =
    sym
    (ap (λ b. cond b (48 + c.args.digit) (55 + c.args.digit)) (lt-ltb c.args.digit 10 c.if-digit-lt10.true))

pub returns-else-digit-lt10-clause-value : goal.returns-else-digit-lt10-clause-value
returns-else-digit-lt10-clause-value c =
    sym
    (ap (λ b. cond b (48 + c.args.digit) (55 + c.args.digit)) (le-ltb c.args.digit 10 c.if-digit-lt10.false))
