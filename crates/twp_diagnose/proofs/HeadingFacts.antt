-- What is underlined of a heading: its tokens taken one by one, up to its range's side.
use Rattle.std.proofs.Common.{◌≡◌, ℕ, ◌+◌, true, false, List, [], Some, None, length, refl, sym, ap, ◌∙◌}
use Rattle.twp_excerpt.specs.declared.spot.Span.{Span}
use Rattle.twp_grammar.specs.Tokens.{Token, Left}
use Rattle.twp_grammar.specs.declared.tokens.Token.{Token as Piece}
use Rattle.twp_grammar.proofs.TokenFacts.{has_token_list}
use Rattle.twp_diagnose.specs.Marks.{tokens_from, span, span_of, end_of, is_side, up_to_side, heading_of}
use Rattle.twp_diagnose.specs.Marks.{IsTokenSpan, IsHeadingSpan, IsRangeSpan}
use Rattle.twp_diagnose.specs.steps.Marking.{AreLeft, GivesFirstOf}

-- no range's side was among the tokens so far
pub record HaveNoSide (list : List Token) (start end : ℕ) (after : Left) : Type 0 where
  pub rest : List Token
  pub same : end_of start (up_to_side list) ≡ end_of end (up_to_side rest)
  pub left : AreLeft after rest

pub side_sought : (list : List Token) (start : ℕ) (left : Left) → AreLeft left list
    → HaveNoSide list start start left
side_sought list start left has = record { rest = list; same = refl; left = has }

pub no_side_yet : (list : List Token) (start end : ℕ) (mid after : Left) (token : Piece)
    → HaveNoSide list start end mid
    → ((list : List Token) → AreLeft mid list → GivesFirstOf list (Some token) after)
    → is_side token.kind ≡ false → HaveNoSide list start (token.at + length token.text.now) after
no_side_yet list start end mid after token p found not =
    let there = found p.rest p.left in
    record {
      rest = there.0;
      same = p.same ∙ ap (λ l. end_of end (up_to_side l)) there.1 ∙ rw not refl;
      left = there.2;
    }

pub side_found : (list : List Token) (start end : ℕ) (mid after : Left) (token : Piece)
    → HaveNoSide list start end mid
    → ((list : List Token) → AreLeft mid list → GivesFirstOf list (Some token) after)
    → is_side token.kind ≡ true
    → token.at + length token.text.now ≡ end_of start (up_to_side list)
side_found list start end mid after token p found is =
    let there = found p.rest p.left in
    sym (p.same ∙ ap (λ l. end_of end (up_to_side l)) there.1 ∙ rw is refl)

pub no_side : (list : List Token) (start end : ℕ) (mid after : Left)
    → HaveNoSide list start end mid
    → ((list : List Token) → AreLeft mid list → GivesFirstOf list None after)
    → end ≡ end_of start (up_to_side list)
no_side list start end mid after p found =
    sym (p.same ∙ ap (λ l. end_of end (up_to_side l)) (found p.rest p.left))

abbrev whole : List ℕ → Left
whole text = record { at = 0; bytes = text }

pub heading_found : (text : List ℕ) (at end : ℕ) (mid : Left) (first : Piece)
    → ((list : List Token) → AreLeft (whole text) list → GivesFirstOf (tokens_from at list) (Some first) mid)
    → ((list : List Token) → AreLeft mid list
    → end ≡ end_of (first.at + length first.text.now) (up_to_side list))
    → IsHeadingSpan text at (span first.at end)
heading_found text at end mid first found ends =
    let all = has_token_list 0 text in
    let there = found all.0 all.1 in
    record {
      tokens = all.0;
      cut = all.1;
      span_is =
          ap (λ n. span first.at n) (ends there.0 there.2)
          ∙ sym (ap (λ l. span_of text at (heading_of l)) there.1);
    }

pub heading_missing : (text : List ℕ) (at : ℕ) (after : Left)
    → ((list : List Token) → AreLeft (whole text) list → GivesFirstOf (tokens_from at list) None after)
    → IsHeadingSpan text at (span_of text at [])
heading_missing text at after found =
    let all = has_token_list 0 text in
    record {
      tokens = all.0;
      cut = all.1;
      span_is = sym (ap (λ l. span_of text at (heading_of l)) (found all.0 all.1));
    }

pub range_found : (text : List ℕ) (first last : ℕ) (from to : Span) → IsTokenSpan text first from
    → IsTokenSpan text last to → IsRangeSpan text first last (span from.start to.end)
range_found text first last from to from_first to_last = record {
  from = from;
  from_first = from_first;
  to = to;
  to_last = to_last;
  span_is = refl;
}
