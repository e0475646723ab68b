-- The search has come to a bad token, past a good one, or to the end.
use Rattle.std.proofs.Common.{sym}
use Rattle.twp_grammar.specs.Tokens.{seen}
use Rattle.twp_read.proofs.ReaderFacts.{search_next, search_none, search_found}
use Rattle.twp_read.proofs.description.first_bad.Goals as goal

pub returns-in-Some-fault_of_bad : goal.returns-in-Some-fault_of_bad
returns-in-Some-fault_of_bad c =
    let left = c.loop-token.tokens in
    search_found c.args.text.now left.at left.bytes (seen c.in-Some.token) c.next.new.self.bytes
    c.in-Some-fault_of_bad.fault c.loop-token.invariant c.in-Some.ensures.steps.0
    (sym c.in-Some-fault_of_bad.ensures)

pub loop-token-preserved : goal.loop-token-preserved
loop-token-preserved c =
    let left = c.loop-token.tokens in
    search_next c.args.text.now left.at left.bytes (seen c.in-Some.token) c.next.new.self.at
    c.next.new.self.bytes c.loop-token.invariant c.in-Some.ensures.steps.0 c.in-Some.ensures.steps.1
    (sym c.in_default-fault_of_bad.ensures)

pub returns : goal.returns
returns c =
    search_none c.args.text.now c.loop-token.tokens.at c.loop-token.tokens.bytes c.loop-token.invariant
    c.in_default.ensures.steps.0
