-- Reading has come to a heading, to another token, or to the end.
use Rattle.std.proofs.Common.{refl}
use Rattle.twp_grammar.specs.Tokens.{seen}
use Rattle.twp_calls.proofs.SplitFacts.{at_first, at_next, heading_there, no_heading_there}
use Rattle.twp_calls.proofs.next_heading.next_heading.Goals as goal

pub tokens-init : goal.tokens-init
tokens-init c =
    at_first c.args.text.now c.args.from c.at-land_end.result c.requires c.at-land_end.ensures

pub returns-in_default : goal.returns-in_default
returns-in_default c =
    no_heading_there c.args.text.now c.args.from c.tokens.at c.tokens.land_end c.tokens.invariant
    c.in_default.ensures

pub returns-in-T : goal.returns-in-T
returns-in-T c =
    heading_there c.args.text.now c.args.from c.tokens.at _ c.tokens.land_end (seen c.in-Some.token)
    c.tokens.invariant c.in-Some.ensures c.in-T.is refl

pub tokens-preserved : goal.tokens-preserved
tokens-preserved c =
    at_next c.args.text.now c.args.from c.tokens.at _ c.tokens.land_end c.with-land_end.result
    (seen c.in-Some.token) c.tokens.invariant c.in-Some.ensures c.in_default-kind.not-T refl
    c.with-land_end.ensures
