-- Tokens of a text, one after another, with `and` for `&`.
use Rattle.std.proofs.Common.{◌≡◌, ◌+◌, ℕ, List, [], ◌∷◌, ◌++◌, length, map, refl, sym, ap, ◌∙◌}
use Rattle.std.specs.List.{AllPass}
use Rattle.twp_grammar.specs.declared.tokens.Token.{Token as Piece}
use Rattle.twp_grammar.specs.Tokens.{StartsWith, Token, is_white, seen}
use Rattle.twp_read.proofs.DoubtFacts.{Cut, cut_begun, cut_next, cut_whole}
use Rattle.twp_rules.specs.Changes.{Change}
use Rattle.twp_suggest.specs.Sharing.{HasJoinedTokens, as_and}

-- the tokens so far
pub record JoinedCut (text made : List ℕ) (changes : List Change) (at : ℕ) (bytes : List ℕ)
    (tokens : List Token) : Type 0 where
  pub raw : List Token
  pub cut : Cut made at bytes raw
  pub joined : tokens ≡ map (as_and text changes) raw

pub joined_begun : (text made : List ℕ) (changes : List Change) → JoinedCut text made changes 0 made []
joined_begun text made changes = record { raw = []; cut = cut_begun made; joined = refl }

and_more : (text : List ℕ) (changes : List Change) (tokens : List Token) (token : Token)
    → map (as_and text changes) (tokens ++ token ∷ [])
    ≡ map (as_and text changes) tokens ++ as_and text changes token ∷ []
and_more text changes [] token = refl
and_more text changes (first ∷ tokens) token =
    ap (λ (ts : List Token). as_and text changes first ∷ ts) (and_more text changes tokens token)

seen_more : (pieces : List Piece) (piece : Piece)
    → map seen (pieces ++ piece ∷ []) ≡ map seen pieces ++ seen piece ∷ []
seen_more [] piece = refl
seen_more (first ∷ pieces) piece = ap (λ (ts : List Token). seen first ∷ ts) (seen_more pieces piece)

pub joined_more : (text made : List ℕ) (changes : List Change) (at : ℕ) (bytes : List ℕ)
    (pieces grown : List Piece) (piece new : Piece) (to : ℕ) (rest : List ℕ)
    → JoinedCut text made changes at bytes (map seen pieces) → StartsWith at bytes (seen piece) rest
    → to ≡ piece.at + length piece.text.now → seen new ≡ as_and text changes (seen piece)
    → grown ≡ pieces ++ new ∷ [] → JoinedCut text made changes to rest (map seen grown)
joined_more text made changes at bytes pieces grown piece new to rest c starts place form is = record {
  raw = c.raw ++ seen piece ∷ [];
  cut = cut_next made at bytes c.raw (seen piece) to rest c.cut starts place;
  joined =
      ap (map seen) is ∙ seen_more pieces new
      ∙ ap (λ (ts : List Token). ts ++ seen new ∷ []) c.joined
      ∙ ap (λ (t : Token). map (as_and text changes) c.raw ++ t ∷ []) form
      ∙ sym (and_more text changes c.raw (seen piece));
}

pub joined_whole : (text made : List ℕ) (changes : List Change) (at : ℕ) (bytes : List ℕ)
    (tokens : List Token)
    → JoinedCut text made changes at bytes tokens → AllPass is_white bytes
    → HasJoinedTokens text made changes tokens
joined_whole text made changes at bytes tokens c white = record {
  cut_tokens = c.raw;
  cut = cut_whole made at bytes c.raw c.cut white;
  joined = c.joined;
}
