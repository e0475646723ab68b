-- One more token that can follow, one that can't, or the end.
use Rattle.std.proofs.Common.{◌≡◌, ℕ, ◌+◌, Bool, true, false, not, List, IsTrue, drop, length, refl, sym}
use Rattle.std.proofs.Common.{◌∙◌}
use Rattle.twp_grammar.specs.declared.item.Item.{Item}
use Rattle.twp_grammar.specs.Tokens.{seen}
use Rattle.twp_grammar.specs.Expected.{expected_of}
use Rattle.twp_read.specs.steps.TokenSteps.{take_token}
use Rattle.twp_read.proofs.ReaderFacts.{front_next, wrong_here, wrong_at_end}
use Rattle.twp_suggest.proofs.meaning.ClearFacts.{wrong_text}
use Rattle.twp_suggest.proofs.meaning.clear.goes_wrong.Goals as goal

pub returns-in_default-next : goal.returns-in_default-next
returns-in_default-next c =
    let text : List ℕ = c.args.text.now in
    let at : ℕ = c.loop-token.at in
    let items : List Item = c.loop-token.invariant.1 in
    let end : ℕ = c.in-Some.token.at + length c.in-Some.token.text.now in
    λ _. wrong_text text c.in-Some.token.at (expected_of c.loop-token.state)
    (wrong_here text at (drop at text) c.loop-token.state items (seen c.in-Some.token) (drop end text)
    c.loop-token.invariant.2 c.in-Some.ensures.starts (sym c.in_default-next.ensures))

pub loop-token-preserved : goal.loop-token-preserved
loop-token-preserved c =
    let text : List ℕ = c.args.text.now in
    let at : ℕ = c.loop-token.at in
    let state = c.loop-token.state in
    let items : List Item = c.loop-token.invariant.1 in
    let end : ℕ = c.in-Some.token.at + length c.in-Some.token.text.now in (
      c.in-Some.ensures.within,
      take_token state c.in-Some.token.kind c.in-Some.token.at items,
      front_next text at (drop at text) state c.in-Some-next.after items (seen c.in-Some.token) end
          (drop end text) c.loop-token.invariant.2 c.in-Some.ensures.starts refl (sym c.in-Some-next.ensures),
    )

is_false : (b : Bool) → IsTrue (not b) → b ≡ false
is_false true h = cc h
is_false false h = refl

pub returns : goal.returns
returns c =
    let text : List ℕ = c.args.text.now in
    let at : ℕ = c.loop-token.at in
    λ wrong. wrong_text text (length text) (expected_of c.loop-token.state)
    (wrong_at_end text at (drop at text) c.loop-token.state c.loop-token.invariant.1
    c.loop-token.invariant.2 c.in_default.ensures (sym c.is_final.ensures ∙ is_false c.is_final.result wrong))
