-- One more token.
use Rattle.std.proofs.Common.{subst, sym, ◌∙◌}
use Rattle.twp_grammar.specs.Tokens.{seen as token}
use Rattle.twp_suggest.specs.declared.plain.Passed.{Passed}
use Rattle.twp_suggest.specs.steps.Plain.{IsPlain}
use Rattle.twp_suggest.proofs.PlainFacts.{next_plain}
use Rattle.twp_suggest.proofs.plain.has_plain_tokens.Goals as goal

pub loop-token-preserved : goal.loop-token-preserved
loop-token-preserved c = λ plain.
    let left = c.loop-token.left in
    c.loop-token.invariant
    (next_plain c.loop-token.passed left.at left.bytes (token c.in-Some.token) c.next.new.self.at
    c.next.new.self.bytes c.in-Some.ensures.steps.0 c.in-Some.ensures.steps.1
    (sym c.is_gap.ensures ∙ c.if-is_gap.false)
    (subst (λ (it : Passed). IsPlain it c.next.new.self.at c.next.new.self.bytes)
    c.in-Some-passed_with.ensures plain))
