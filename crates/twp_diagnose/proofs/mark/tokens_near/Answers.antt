-- After white space, the tokens are those of the bytes that follow; and the whole text has but one list.
use Rattle.std.proofs.Common.{sym, ap, ◌∙◌}
use Rattle.twp_grammar.proofs.TokenFacts.{one_token_list}
use Rattle.twp_diagnose.specs.Marks.{tokens_from}
use Rattle.twp_diagnose.proofs.NearFacts.{same_after_white}
use Rattle.twp_diagnose.proofs.mark.tokens_near.Goals as goal

pub returns-then-is_white-clause-same : goal.returns-then-is_white-clause-same
returns-then-is_white-clause-same c = λ all some has left.
    same_after_white c.args.text.now c.args.at c.if-at-gt0.true c.if-at-text.true
    (sym c.is_white.ensures ∙ c.if-is_white.true) all some has (rw c.after.ensures at left)

pub returns-clause-same : goal.returns-clause-same
returns-clause-same c = λ all some has left.
    ap (λ l. tokens_from c.args.at l)
    (one_token_list 0 c.args.text.now all some has (rw c.new.ensures at left))
