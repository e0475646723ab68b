-- One more token, or all of them.
use Rattle.std.proofs.Common.{List, map, subst, sym}
use Rattle.twp_grammar.specs.declared.tokens.Token.{Token as Piece}
use Rattle.twp_grammar.specs.Tokens.{Left, seen as token}
use Rattle.twp_rules.specs.Changes.{seen}
use Rattle.twp_suggest.proofs.CutFacts.{JoinedCut, joined_begun, joined_more, joined_whole}
use Rattle.twp_suggest.proofs.sharing.joined_tokens.Goals as goal

pub loop-token-init : goal.loop-token-init
loop-token-init c =
    subst (λ (left : Left). JoinedCut c.args.text.now c.args.made.now (map seen c.args.changes.now) left.at
    left.bytes (map token c.in_ok-tokens.tokens.items))
    (sym c.new-left.ensures)
    (subst (λ (pieces : List Piece). JoinedCut c.args.text.now c.args.made.now (map seen c.args.changes.now) 0
    c.args.made.now (map token pieces))
    (sym c.in_ok-tokens.ensures.items)
    (joined_begun c.args.text.now c.args.made.now (map seen c.args.changes.now)))

pub loop-token-preserved : goal.loop-token-preserved
loop-token-preserved c =
    let left = c.loop-token.left in
    joined_more c.args.text.now c.args.made.now (map seen c.args.changes.now) left.at left.bytes
    c.loop-token.tokens.items c.push.new.self.items c.in-Some.token c.in-Some-as_and.joined
    c.next.new.self.at c.next.new.self.bytes c.loop-token.invariant c.in-Some.ensures.steps.0
    c.in-Some.ensures.steps.1 c.in-Some-as_and.ensures c.in_ok-push.ensures.items

pub returns : goal.returns
returns c =
    joined_whole c.args.text.now c.args.made.now (map seen c.args.changes.now) c.loop-token.left.at
    c.loop-token.left.bytes (map token c.loop-token.tokens.items) c.loop-token.invariant
    c.in_default.ensures.steps.0
