-- How many bytes the first sign of some bytes takes.
use Rattle.std.proofs.Common.{◌≡◌, ℕ, ◌+◌, ◌≤◌, List, ◌++◌, Some, length, refl, ap, subst, ◌∙◌, arith}
use Rattle.std.proofs.Common.{length-append}
use Rattle.twp_excerpt.specs.Spots.{first_size}
use Rattle.twp_grammar.specs.declared.tokens.Kind.TheVariants.{BadByte}
use Rattle.twp_grammar.specs.declared.tokens.Token.{Token as Piece}
use Rattle.twp_grammar.specs.Tokens.{Token, Left, StartsWith, GivesToken, seen}
use Rattle.twp_diagnose.proofs.SightFacts.{HasToken, has_token}
use Rattle.twp_diagnose.specs.Sights.{TakesSign, a_token, a_character}

-- all that is left of some bytes that stand at 0
abbrev all_of : List ℕ → Left
all_of bytes = record { at = 0; bytes = bytes }

-- bytes that a token begins, and how many it takes
pub record BeginsThem (bytes : List ℕ) (token : Token) : Type 0 where
  pub has : HasToken bytes token
  pub rest : List ℕ
  pub starts : StartsWith 0 bytes token rest
  pub fits : length token.text ≤ length bytes

begins_all : (bytes : List ℕ) (token : Token) (rest : List ℕ) → StartsWith 0 bytes token rest
    → BeginsThem bytes token
begins_all bytes token rest s =
    let whole : length bytes ≡ length s.space + (length token.text + length rest) =
    ap length s.spelled
    ∙ length-append s.space (token.text ++ rest)
    ∙ ap (λ n. length s.space + n) (length-append token.text rest) in
    record { has = has_token 0 bytes token rest s; rest = rest; starts = s; fits = omega arith }

-- the token that is given first begins the bytes
pub begins_them : (bytes : List ℕ) (left after : Left) (token : Piece) → left ≡ all_of bytes
    → GivesToken left (Some token) after → BeginsThem bytes (seen token)
begins_them bytes left after token e (starts, place) =
    begins_all bytes (seen token) after.bytes
    (subst (λ (l : Left). StartsWith l.at l.bytes (seen token) after.bytes) e starts)

-- a token takes its bytes, and a byte that begins none its character
pub token_takes : (bytes : List ℕ) (token : Token) → BeginsThem bytes token
    → (token.kind ≡ BadByte → ⊥) → TakesSign bytes (length token.text)
token_takes bytes token b other = a_token token b.rest b.starts other refl

pub byte_takes : (bytes : List ℕ) (token : Token) → BeginsThem bytes token
    → token.kind ≡ BadByte → TakesSign bytes (first_size bytes)
byte_takes bytes token b bad = a_character token b.rest b.starts bad refl
