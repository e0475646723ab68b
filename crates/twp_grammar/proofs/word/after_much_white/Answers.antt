use Rattle.std.proofs.Common.{drop, arith, sym}
use Rattle.twp_grammar.proofs.WhiteFacts.{none_white}
use Rattle.twp_grammar.proofs.word.after_much_white.Goals as goal

pub returns-then-not-is_white_at-clause-value : goal.returns-then-not-is_white_at-clause-value
returns-then-not-is_white_at-clause-value c =
    let none =
    none_white (drop c.after_spaces-at.result c.args.text.now) (sym c.if-not-is_white_at.ensures.value) in
    omega (arith, none, c.after_spaces-at.ensures.white)

pub returns-clause-value : goal.returns-clause-value
returns-clause-value c = omega (arith, c.after_any_white.ensures.value, c.after_spaces-at.ensures.white)
