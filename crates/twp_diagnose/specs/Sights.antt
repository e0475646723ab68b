-- Where a text is shown that is refused, and what is there.
use Rattle.std.specs.Prelude.{◌≡◌, ◌≢◌, ℕ, Bool, true, false, List, [], ◌∷◌, length, drop, slice_index_or}
use Rattle.std.specs.Prelude.{if◌then◌else◌}
use Rattle.std.specs.List.{AllPass, list_all}
use Rattle.twp_excerpt.specs.Spots.{is_white, end_of, first_size}
use Rattle.twp_grammar.specs.declared.tokens.Kind.{Kind}
use Rattle.twp_grammar.specs.declared.tokens.Kind.TheVariants.{BadByte, Comma, Stop}
use Rattle.twp_grammar.specs.Tokens.{Token, HasTokens, StartsWith}

-- where a text is shown that is refused at a place: there, or where the text ends but for white space if
-- nothing else follows
abbrev pub shown_place : List ℕ → ℕ → ℕ
shown_place text at = if list_all is_white (drop at text) then end_of text else at

-- The first sign of some bytes takes so many of them: all of their first token; where that is a byte which
-- begins none, all of the character, or that byte alone; none where all is white space.
pub data TakesSign (bytes : List ℕ) (size : ℕ) : Type 0 where
  a_token : (token : Token) (rest : List ℕ) → StartsWith 0 bytes token rest → token.kind ≢ BadByte
      → size ≡ length token.text → TakesSign bytes size
  a_character : (token : Token) (rest : List ℕ) → StartsWith 0 bytes token rest
      → token.kind ≡ BadByte → size ≡ first_size bytes → TakesSign bytes size
  no_sign : AllPass is_white bytes → size ≡ 0 → TakesSign bytes size

-- a comma or a period, which set signs apart
abbrev pub is_apart : Kind → Bool
is_apart Comma = true
is_apart Stop = true
is_apart _ = false

-- the texts of tokens, without commas and periods
abbrev pub signs_of : List Token → List (List ℕ)
signs_of [] = []
signs_of (token ∷ more) = if is_apart token.kind then signs_of more else token.text ∷ signs_of more

-- the sign of a text that so many others come before, without commas and periods; no bytes if there is none
pub record IsSignAfter (text : List ℕ) (index : ℕ) (bytes : List ℕ) : Type 0 where
  pub tokens : List Token
  pub cut : HasTokens 0 text tokens
  pub bytes_are : bytes ≡ slice_index_or (signs_of tokens) index []
