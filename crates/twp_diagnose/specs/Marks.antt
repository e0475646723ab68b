-- What is underlined of a text: the token at a place, the aliquot part or the heading that
-- begins with it, or what lies between it and another one.
use Rattle.std.specs.Prelude.{◌≡◌, ◌==◌, ℕ, ◌+◌, ◌≤◌, Bool, true, false, min, List, [], ◌∷◌, ◌++◌, length}
use Rattle.std.specs.Prelude.{if◌then◌else◌}
use Rattle.twp_excerpt.specs.declared.spot.Span.{Span}
use Rattle.twp_grammar.specs.declared.tokens.Kind.{Kind}
use Rattle.twp_grammar.specs.declared.tokens.Kind.TheVariants.{EastWest}
use Rattle.twp_grammar.specs.Tokens.{Token, HasTokens}
use Rattle.twp_grammar.specs.Grammar.{chain}
use Rattle.twp_grammar.specs.Items.{Tree, tokens}

-- the tokens from the one at a place
abbrev pub tokens_from : ℕ → List Token → List Token
tokens_from at [] = []
tokens_from at (token ∷ more) = if token.at == at then token ∷ more else tokens_from at more

-- the bytes from an offset up to another
abbrev pub span : ℕ → ℕ → Span
span start end = record { start = start; end = end }

-- where the last of some tokens ends
abbrev pub end_of : ℕ → List Token → ℕ
end_of end [] = end
end_of end (token ∷ more) = end_of (token.at + length token.text) more

-- the bytes from the first of some tokens to the last one's last; without a token, none, at a place
-- of the text or at its end
abbrev pub span_of : List ℕ → ℕ → List Token → Span
span_of text at [] = span (min at (length text)) (min at (length text))
span_of text at (token ∷ more) = span token.at (end_of 0 (token ∷ more))

-- the first of some tokens, if there is one
abbrev pub first_of : List Token → List Token
first_of [] = []
first_of (token ∷ more) = token ∷ []

-- the bytes of the token at this place of the text
pub record IsTokenSpan (text : List ℕ) (at : ℕ) (found : Span) : Type 0 where
  pub tokens : List Token
  pub cut : HasTokens 0 text tokens
  pub span_is : found ≡ span_of text at (first_of (tokens_from at tokens))

-- the grammar derives an aliquot part from the tokens
abbrev pub ArePart : List Token → Type 0
ArePart part = (tree : Tree chain) × (tokens chain tree ≡ part)

-- these are the first of some tokens, an aliquot part, and no more of them are one
pub record AreLongestPart (all part : List Token) : Type 0 where
  pub rest : List Token
  pub first : all ≡ part ++ rest
  pub is : ArePart part
  pub longest : (other after : List Token) → all ≡ other ++ after → ArePart other
      → length other ≤ length part

-- an aliquot part begins some tokens
pub record BeginWithPart (all : List Token) : Type 0 where
  pub part : List Token
  pub rest : List Token
  pub first : all ≡ part ++ rest
  pub is : ArePart part

-- of tokens, the longest aliquot part that begins them; where none does, the first token
pub data AreMarked (all marked : List Token) : Type 0 where
  a_part : AreLongestPart all marked → AreMarked all marked
  a_token : ¬ BeginWithPart all → marked ≡ first_of all → AreMarked all marked

-- the bytes of the aliquot part whose first token is at this place of the text
pub record IsChainSpan (text : List ℕ) (at : ℕ) (found : Span) : Type 0 where
  pub tokens : List Token
  pub cut : HasTokens 0 text tokens
  pub marked : List Token
  pub marked_are : AreMarked (tokens_from at tokens) marked
  pub span_is : found ≡ span_of text at marked

-- east or west
abbrev pub is_side : Kind → Bool
is_side (EastWest side) = true
is_side _ = false

-- of tokens, those up to the first one that says east or west; without it, all
abbrev pub up_to_side : List Token → List Token
up_to_side [] = []
up_to_side (token ∷ more) = if is_side token.kind then token ∷ [] else token ∷ up_to_side more

-- the first of some tokens, and those after it up to a range's side
abbrev pub heading_of : List Token → List Token
heading_of [] = []
heading_of (token ∷ more) = token ∷ up_to_side more

-- the bytes of the heading whose first token is at this place of the text
pub record IsHeadingSpan (text : List ℕ) (at : ℕ) (found : Span) : Type 0 where
  pub tokens : List Token
  pub cut : HasTokens 0 text tokens
  pub span_is : found ≡ span_of text at (heading_of (tokens_from at tokens))

-- the bytes from the token at a place of the text to the one at another
pub record IsRangeSpan (text : List ℕ) (first last : ℕ) (found : Span) : Type 0 where
  pub from : Span
  pub from_first : IsTokenSpan text first from
  pub to : Span
  pub to_last : IsTokenSpan text last to
  pub span_is : found ≡ span from.start to.end
