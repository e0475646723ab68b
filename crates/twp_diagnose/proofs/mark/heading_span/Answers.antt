use Rattle.std.proofs.Common.{Some, None}
use Rattle.twp_diagnose.proofs.MarkFacts.{found_near}
use Rattle.twp_diagnose.proofs.HeadingFacts.{heading_found, heading_missing}
use Rattle.twp_diagnose.proofs.mark.heading_span.Goals as goal

pub returns-in_default : goal.returns-in_default
returns-in_default c =
    rw c.no_bytes.ensures
    (heading_missing c.args.text.now c.args.at c.seek.new.tokens
    (found_near _ _ _ None c.seek.new.tokens c.tokens_near-tokens.ensures.same c.in_default.ensures.found))

pub returns : goal.returns
returns c =
    heading_found c.args.text.now c.args.at c.take_to_side.result c.seek.new.tokens c.in-Some.first
    (found_near _ _ _ (Some c.in-Some.first) c.seek.new.tokens c.tokens_near-tokens.ensures.same
    c.in-Some.ensures.found)
    c.take_to_side.ensures
