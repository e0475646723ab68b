-- The next token is passed, or is the sign that is sought.
use Rattle.std.proofs.Common.{sym}
use Rattle.twp_diagnose.proofs.AfterFacts.{apart_passed, sign_found, no_sign_left}
use Rattle.twp_diagnose.proofs.sight.Surroundings.after.Goals as goal

pub tokens-preserved-then-is_apart : goal.tokens-preserved-then-is_apart
tokens-preserved-then-is_apart c list left =
    apart_passed list c.args.index c.tokens.left c.tokens.tokens c.next_token.new.tokens c.in-Some.token
    (c.tokens.invariant list left) c.in-Some.ensures.found (sym c.if-is_apart.ensures)

pub returns-then-left-eq0 : goal.returns-then-left-eq0
returns-then-left-eq0 c =
    sign_found c.args.self.now.rest.now c.args.index c.tokens.left c.tokens.tokens c.next_token.new.tokens
    c.in-Some.token c.tokens.invariant c.in-Some.ensures.found (sym c.if-is_apart.ensures)
    c.if-left-eq0.true

pub returns : goal.returns
returns c =
    no_sign_left c.args.self.now.rest.now c.args.index c.tokens.left c.tokens.tokens
    c.next_token.new.tokens c.tokens.invariant c.in_default.ensures.found
