-- What is underlined of a text: the token at a place, or the longest aliquot part that begins there.
use Rattle.std.proofs.Common.{◌≡◌, ◌==◌, ℕ, ◌+◌, true, false, List, [], ◌∷◌, ◌++◌}
use Rattle.std.proofs.Common.{Option}
use Rattle.std.proofs.Common.{Some, None, length, refl, sym, ap, subst, ◌∙◌, arith}
use Rattle.std.proofs.Common.{length-append}
use Rattle.std.specs.List.{AllPass}
use Rattle.twp_grammar.specs.Tokens.{Token, Left, StartsWith, HasTokens, is_white, seen, GivesToken}
use Rattle.twp_grammar.specs.declared.tokens.Token.{Token as Piece}
use Rattle.twp_grammar.proofs.TokenFacts.{one_token_list, has_token_list}
use Rattle.twp_diagnose.specs.Marks.{tokens_from, span, span_of, first_of, end_of}
use Rattle.twp_diagnose.specs.Marks.{AreMarked, a_token, IsTokenSpan, IsChainSpan}
use Rattle.twp_diagnose.specs.steps.Marking.{AreLeft, HaveSameFrom, GivesFirstOf, end_of_left}
use Rattle.twp_diagnose.specs.steps.Marking.{EndsPart}
use Rattle.twp_diagnose.proofs.ChainFacts.{no_part_of_none}

-- the token that was taken is the first of those that were left
pub next_some : (left after : Left) (token : Token) (list : List Token) → AreLeft left list
    → StartsWith left.at left.bytes token after.bytes → after.at ≡ token.at + length token.text
    → (rest : List Token) × (list ≡ token ∷ rest) × AreLeft after rest
next_some left after token list has starts place =
    let more = has_token_list (token.at + length token.text) after.bytes in (
      more.0,
      one_token_list left.at left.bytes list (token ∷ more.0) has (after.bytes, starts, more.1),
      subst (λ n. HasTokens n after.bytes more.0) (sym place) more.1,
    )

-- none is left in white space
pub next_none : (left : Left) (list : List Token) → AreLeft left list → AllPass is_white left.bytes
    → list ≡ []
next_none left list has white = one_token_list left.at left.bytes list [] has white

pub next_end : (left after : Left) (token : Token) → StartsWith left.at left.bytes token after.bytes
    → after.at ≡ token.at + length token.text → end_of_left after ≡ end_of_left left
next_end left after token s place =
    let whole : length left.bytes ≡ length s.space + (length token.text + length after.bytes) =
    ap length s.spelled
    ∙ length-append s.space (token.text ++ after.bytes)
    ∙ ap (λ n. length s.space + n) (length-append token.text after.bytes) in
    let there : token.at ≡ left.at + length s.space = s.place in
    omega arith

pub next_found : (left after : Left) (o : Option Piece) → GivesToken left o after → (list : List Token)
    → AreLeft left list → GivesFirstOf list o after
next_found left after None (white, is) list has = next_none left list has white
next_found left after (Some token) (starts, place) list has =
    next_some left after (seen token) list has starts place

-- the tokens up to a place were passed
pub record IsPassed (at : ℕ) (list : List Token) (after : Left) : Type 0 where
  pub rest : List Token
  pub same : tokens_from at list ≡ tokens_from at rest
  pub left : AreLeft after rest

pub passed_none : (at : ℕ) (list : List Token) (left : Left) → AreLeft left list → IsPassed at list left
passed_none at list left has = record { rest = list; same = refl; left = has }

pub passed_more : (at : ℕ) (list : List Token) (mid after : Left) (token : Piece)
    → IsPassed at list mid → ((list : List Token) → AreLeft mid list → GivesFirstOf list (Some token) after)
    → token.at == at ≡ false → IsPassed at list after
passed_more at list mid after token p found not =
    let there = found p.rest p.left in
    record {
      rest = there.0;
      same = p.same ∙ ap (λ l. tokens_from at l) there.1 ∙ rw not refl;
      left = there.2;
    }

pub passed_to : (at : ℕ) (list : List Token) (mid after : Left) (token : Piece)
    → IsPassed at list mid → ((list : List Token) → AreLeft mid list → GivesFirstOf list (Some token) after)
    → token.at == at ≡ true → GivesFirstOf (tokens_from at list) (Some token) after
passed_to at list mid after token p found is =
    let there = found p.rest p.left in
    (there.0, p.same ∙ ap (λ l. tokens_from at l) there.1 ∙ rw is refl, there.2)

pub passed_all : (at : ℕ) (list : List Token) (mid after : Left)
    → IsPassed at list mid → ((list : List Token) → AreLeft mid list → GivesFirstOf list None after)
    → tokens_from at list ≡ []
passed_all at list mid after p found = p.same ∙ ap (λ l. tokens_from at l) (found p.rest p.left)

-- the tokens of a text
abbrev first_or : Token → List Token → Token
first_or other [] = other
first_or other (token ∷ more) = token

abbrev whole : List ℕ → Left
whole text = record { at = 0; bytes = text }

-- tokens that are near a place are as good for it as all
pub found_near : (text : List ℕ) (at : ℕ) (left : Left) (o : Option Piece) (after : Left)
    → HaveSameFrom at text left
    → ((list : List Token) → AreLeft left list → GivesFirstOf (tokens_from at list) o after)
    → (list : List Token) → AreLeft (whole text) list → GivesFirstOf (tokens_from at list) o after
found_near text at left o after same found list has =
    let near = has_token_list left.at left.bytes in
    subst (λ (l : List Token). GivesFirstOf l o after) (sym (same list near.0 has near.1))
    (found near.0 near.1)

pub token_found : (text : List ℕ) (at : ℕ) (after : Left) (token : Piece)
    → ((list : List Token) → AreLeft (whole text) list
    → GivesFirstOf (tokens_from at list) (Some token) after)
    → IsTokenSpan text at (span token.at (token.at + length token.text.now))
token_found text at after token found =
    let all = has_token_list 0 text in
    let there = found all.0 all.1 in
    record {
      tokens = all.0;
      cut = all.1;
      span_is = sym (ap (λ l. span_of text at (first_of l)) there.1);
    }

pub token_missing : (text : List ℕ) (at : ℕ) (after : Left)
    → ((list : List Token) → AreLeft (whole text) list → GivesFirstOf (tokens_from at list) None after)
    → IsTokenSpan text at (span_of text at [])
token_missing text at after found =
    let all = has_token_list 0 text in
    record {
      tokens = all.0;
      cut = all.1;
      span_is = sym (ap (λ l. span_of text at (first_of l)) (found all.0 all.1));
    }

span_of_some : (text : List ℕ) (at end : ℕ) (first : Token) (list marked rest : List Token)
    → first ∷ list ≡ marked ++ rest → ¬ (marked ≡ []) → end_of 0 marked ≡ end
    → span first.at end ≡ span_of text at marked
span_of_some text at end first list [] rest e some is = absurd (some refl)
span_of_some text at end first list (token ∷ marked) rest e some is =
    ap (λ (t : Token). span t.at end) (ap (first_or first) e) ∙ ap (λ n. span token.at n) (sym is)

pub chain_found : (text : List ℕ) (at end : ℕ) (mid : Left) (first : Piece)
    → ((list : List Token) → AreLeft (whole text) list → GivesFirstOf (tokens_from at list) (Some first) mid)
    → ((list : List Token) → AreLeft mid list → EndsPart (seen first ∷ list) end)
    → IsChainSpan text at (span first.at end)
chain_found text at end mid first found ends =
    let all = has_token_list 0 text in
    let there = found all.0 all.1 in
    let part = ends there.0 there.2 in
    record {
      tokens = all.0;
      cut = all.1;
      marked = part.marked;
      marked_are = subst (λ (l : List Token). AreMarked l part.marked) (sym there.1) part.marked_are;
      span_is =
          span_of_some text at end (seen first) there.0 part.marked part.rest part.list_is part.some
          part.end_is;
    }

pub chain_missing : (text : List ℕ) (at : ℕ) (after : Left)
    → ((list : List Token) → AreLeft (whole text) list → GivesFirstOf (tokens_from at list) None after)
    → IsChainSpan text at (span_of text at [])
chain_missing text at after found =
    let all = has_token_list 0 text in
    record {
      tokens = all.0;
      cut = all.1;
      marked = [];
      marked_are =
          subst (λ (l : List Token). AreMarked l []) (sym (found all.0 all.1))
          (a_token no_part_of_none refl);
      span_is = refl;
    }
