use Rattle.std.proofs.Common.{Some, None}
use Rattle.twp_diagnose.proofs.MarkFacts.{found_near, chain_found, chain_missing}
use Rattle.twp_diagnose.proofs.mark.chain_span.Goals as goal

pub returns-in_default : goal.returns-in_default
returns-in_default c =
    rw c.no_bytes.ensures
    (chain_missing c.args.text.now c.args.at c.seek.new.tokens
    (found_near _ _ _ None c.seek.new.tokens c.tokens_near-tokens.ensures.same c.in_default.ensures.found))

pub returns : goal.returns
returns c =
    chain_found c.args.text.now c.args.at c.take_chain.result c.seek.new.tokens c.in-Some.first
    (found_near _ _ _ (Some c.in-Some.first) c.seek.new.tokens c.tokens_near-tokens.ensures.same
    c.in-Some.ensures.found)
    c.take_chain.ensures
