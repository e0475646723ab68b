-- The signs of a text after the refused one, taken one by one; over plain values.
use Rattle.std.proofs.Common.{◌≡◌, ℕ, zero, suc, ◌-◌, true, false, List, [], ◌∷◌, Some, None, get_or, refl}
use Rattle.std.proofs.Common.{sym}
use Rattle.std.proofs.Common.{ap, ◌∙◌, arith}
use Rattle.twp_grammar.specs.Tokens.{Token, Left}
use Rattle.twp_grammar.specs.declared.tokens.Token.{Token as Piece}
use Rattle.twp_grammar.proofs.TokenFacts.{has_token_list}
use Rattle.twp_diagnose.specs.Sights.{is_apart, signs_of, IsSignAfter}
use Rattle.twp_diagnose.specs.steps.Marking.{AreLeft, GivesFirstOf}

-- of the tokens, the sign that is sought is among those that are left, so many after their first
pub record IsSought (list : List Token) (index left : ℕ) (after : Left) : Type 0 where
  pub rest : List Token
  pub same : get_or (signs_of list) index [] ≡ get_or (signs_of rest) left []
  pub are_left : AreLeft after rest

pub sought : (list : List Token) (index : ℕ) (left : Left) → AreLeft left list
    → IsSought list index index left
sought list index left has = record { rest = list; same = refl; are_left = has }

pub apart_passed : (list : List Token) (index left : ℕ) (mid after : Left) (token : Piece)
    → IsSought list index left mid
    → ((list : List Token) → AreLeft mid list → GivesFirstOf list (Some token) after)
    → is_apart token.kind ≡ true → IsSought list index left after
apart_passed list index left mid after token p found is =
    let there = found p.rest p.are_left in
    record {
      rest = there.0;
      same = p.same ∙ ap (λ l. get_or (signs_of l) left []) there.1 ∙ rw is refl;
      are_left = there.2;
    }

-- of a list, an element after the first
later : (first : List ℕ) (more : List (List ℕ)) (left : ℕ) → (left ≡ 0 → ⊥)
    → get_or (first ∷ more) left [] ≡ get_or more (left - 1) []
later first more zero some = absurd (some refl)
later first more (suc left) some = ap (λ n. get_or more n []) (omega arith)

pub sign_passed : (list : List Token) (index left : ℕ) (mid after : Left) (token : Piece)
    → IsSought list index left mid
    → ((list : List Token) → AreLeft mid list → GivesFirstOf list (Some token) after)
    → is_apart token.kind ≡ false → (left ≡ 0 → ⊥) → IsSought list index (left - 1) after
sign_passed list index left mid after token p found not some =
    let there = found p.rest p.are_left in
    record {
      rest = there.0;
      same =
          p.same ∙ ap (λ l. get_or (signs_of l) left []) there.1
          ∙ rw not (later token.text.now (signs_of there.0) left some);
      are_left = there.2;
    }

abbrev whole : List ℕ → Left
whole text = record { at = 0; bytes = text }

pub sign_found : (text : List ℕ) (index left : ℕ) (mid after : Left) (token : Piece)
    → ((list : List Token) → AreLeft (whole text) list → IsSought list index left mid)
    → ((list : List Token) → AreLeft mid list → GivesFirstOf list (Some token) after)
    → is_apart token.kind ≡ false → left ≡ 0 → IsSignAfter text index token.text.now
sign_found text index left mid after token p found not none =
    let all = has_token_list 0 text in
    let so_far = p all.0 all.1 in
    let there = found so_far.rest so_far.are_left in
    record {
      tokens = all.0;
      cut = all.1;
      bytes_are =
          sym (so_far.same ∙ ap (λ l. get_or (signs_of l) left []) there.1
          ∙ rw (not, none) refl);
    }

pub no_sign_left : (text : List ℕ) (index left : ℕ) (mid after : Left)
    → ((list : List Token) → AreLeft (whole text) list → IsSought list index left mid)
    → ((list : List Token) → AreLeft mid list → GivesFirstOf list None after)
    → IsSignAfter text index []
no_sign_left text index left mid after p found =
    let all = has_token_list 0 text in
    let so_far = p all.0 all.1 in
    record {
      tokens = all.0;
      cut = all.1;
      bytes_are =
          sym (so_far.same ∙ ap (λ l. get_or (signs_of l) left []) (found so_far.rest so_far.are_left));
    }
