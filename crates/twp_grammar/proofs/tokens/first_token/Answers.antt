use Rattle.std.proofs.Common.{◌≡◌, ◌<◌, ◌≤◌, length, arith, ap, ◌∙◌}
use Rattle.std.proofs.lemmas.Bool.Decides.{nat_tests}
use Rattle.std.proofs.Math.ListN.{take}
use Rattle.twp_grammar.proofs.TokenFacts.{first_at, first_in, none_in}
use Rattle.twp_grammar.proofs.tokens.first_token.Goals as goal

pub returns-then-at-text : goal.returns-then-at-text
returns-then-at-text c =
    let past : length c.args.text.now ≤ c.after_white-at.result = grind (arith, nat_tests) in
    let within : c.after_white-at.result ≤ length c.args.text.now = c.after_white-at.ensures.range in
    let at_end : length c.args.text.now ≡ c.after_white-at.result = omega arith in
    none_in c.args.text.now c.args.from (at_end ∙ c.after_white-at.ensures.value)

pub split_at-requires-2 : goal.split_at-requires-2
split_at-requires-2 c =
    let below : c.after_white-at.result < length c.args.text.now = grind (arith, nat_tests) in
    rw (c.lexeme_at-kind.ensures, c.split_at.ensures.back)
    (first_at c.args.text.now c.args.from c.after_white-at.result c.after_white-at.ensures.value below).fits

pub returns : goal.returns
returns c =
    let below : c.after_white-at.result < length c.args.text.now = grind (arith, nat_tests) in
    first_in c.args.text.now c.args.from c.after_white-at.result c.lexeme_at-kind.result
    c.split_at-2.result.0.now c.after_white-at.ensures.value below c.lexeme_at-kind.ensures
    (c.split_at-2.ensures.front ∙ ap (λ b. take c.lexeme_at-kind.result.size b) c.split_at.ensures.back)
