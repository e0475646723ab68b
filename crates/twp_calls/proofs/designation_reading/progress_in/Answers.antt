-- Reading has come to a token that a spelling may have there, to one that none has, or to the end.
use Rattle.std.proofs.Common.{refl}
use Rattle.twp_grammar.specs.Tokens.{seen}
use Rattle.twp_calls.proofs.DesignationFacts.{standing_after, stopped_at, ended_at}
use Rattle.twp_calls.proofs.designation_reading.progress_in.Goals as goal

pub returns-in_default-next-clause-is : goal.returns-in_default-next-clause-is
returns-in_default-next-clause-is c =
    stopped_at c.args.text.now c.tokens.at c.tokens.stage c.tokens.parts (seen c.in-Some.token)
    c.of-mark.result c.tokens.invariant c.in-Some.ensures c.of-mark.ensures c.in_default-next.ensures

pub tokens-preserved : goal.tokens-preserved
tokens-preserved c =
    standing_after c.args.text.now c.tokens.at _ c.tokens.stage c.in-Some-next.after c.tokens.parts
    c.with-parts.result (seen c.in-Some.token) c.of-mark.result c.tokens.invariant c.in-Some.ensures
    c.of-mark.ensures c.in-Some-next.ensures c.with-parts.ensures refl

pub returns-clause-is : goal.returns-clause-is
returns-clause-is c =
    ended_at c.args.text.now c.tokens.at c.tokens.stage c.tokens.parts c.ends_spelling.result
    c.tokens.invariant
    c.in_default.ensures c.ends_spelling.ensures
