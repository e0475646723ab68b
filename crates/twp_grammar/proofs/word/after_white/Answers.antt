use Rattle.std.proofs.Common.{◌+◌, drop, arith, sym}
use Rattle.twp_grammar.proofs.WhiteFacts.{none_white, one_more_white}
use Rattle.twp_grammar.proofs.word.after_white.Goals as goal

pub returns-then-not-is_white_at-2-clause-value : goal.returns-then-not-is_white_at-2-clause-value
returns-then-not-is_white_at-2-clause-value c =
    let more = one_more_white c.args.text.now c.args.from (sym c.if-not-is_white_at.ensures.value) in
    let none =
    none_white (drop (c.args.from + 1) c.args.text.now) (sym c.if-not-is_white_at-2.ensures.value) in
    omega (arith, more, none)

pub returns-clause-value : goal.returns-clause-value
returns-clause-value c =
    let more = one_more_white c.args.text.now c.args.from (sym c.if-not-is_white_at.ensures.value) in
    omega (arith, more, c.after_much_white.ensures.value)
