-- One more token, or all of them.
use Rattle.std.proofs.Common.{List, map, subst, sym}
use Rattle.twp_grammar.specs.declared.tokens.Token.{Token as Piece}
use Rattle.twp_grammar.specs.Tokens.{Left, seen}
use Rattle.twp_read.proofs.DoubtFacts.{Cut, cut_begun, cut_more, cut_whole}
use Rattle.twp_read.proofs.doubts.tokens_of.Goals as goal

pub loop-token-init : goal.loop-token-init
loop-token-init c =
    subst (λ (left : Left). Cut c.args.text.now left.at left.bytes (map seen c.in_ok-tokens.tokens.items))
    (sym c.new-left.ensures)
    (subst (λ (pieces : List Piece). Cut c.args.text.now 0 c.args.text.now (map seen pieces))
    (sym c.in_ok-tokens.ensures.items) (cut_begun c.args.text.now))

pub loop-token-preserved : goal.loop-token-preserved
loop-token-preserved c =
    let left = c.loop-token.left in
    cut_more c.args.text.now left.at left.bytes c.loop-token.tokens.items c.push.new.self.items
    c.in-Some.token
    c.next.new.self.at c.next.new.self.bytes c.loop-token.invariant c.in-Some.ensures.steps.0
    c.in-Some.ensures.steps.1 c.in_ok-push.ensures.items

pub returns : goal.returns
returns c =
    cut_whole c.args.text.now c.loop-token.left.at c.loop-token.left.bytes
    (map seen c.loop-token.tokens.items)
    c.loop-token.invariant c.in_default.ensures.steps.0
