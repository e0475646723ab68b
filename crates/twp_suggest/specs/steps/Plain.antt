-- Texts whose tokens have no place that can be read in two ways. Most texts have no `and`, or no `of`, and no
-- white space between two steps.
use Rattle.std.specs.Prelude.{◌≡◌, ◌==◌, ◌||◌, ◌&&◌, ℕ, Bool, true, false, List, [], ◌∷◌, nat_lt, not}
use Rattle.std.specs.Prelude.{slice_index}
use Rattle.twp_grammar.specs.Tokens.{HasTokens, Token, is_white}
use Rattle.twp_read.specs.Doubts.{begins_step, end_of, is_and, is_of}
use Rattle.twp_rules.specs.Changes.{Change}
use Rattle.twp_rules.specs.Naming.{is_side}
use Rattle.twp_suggest.specs.Sharing.{is_comma_by, is_f, is_fraction}
use Rattle.twp_suggest.specs.Ways.{ends_fraction}
use Rattle.twp_suggest.specs.declared.plain.Passed.{Passed}

-- no comma is written for `&`
abbrev pub has_no_ampersand : List ℕ → List Change → Bool
has_no_ampersand text [] = true
has_no_ampersand text (change ∷ changes) =
    not (is_comma_by change.rule text change.start change.end) && has_no_ampersand text changes

-- before all tokens
abbrev pub nothing_passed : Passed
nothing_passed = record { has_and = false; has_of = false; is_fraction = false; end = 0 }

-- what is known after one more token
abbrev pub passed_with : Passed → Token → Passed
passed_with it token = record {
  has_and = it.has_and || is_and token.kind;
  has_of = it.has_of || is_of token.kind;
  is_fraction = is_fraction token.kind;
  end = end_of token;
}

-- white space is between the fraction of a step and the letters of another
abbrev pub is_gap : Passed → Token → Bool
is_gap it token = it.is_fraction && begins_step token.kind && nat_lt it.end token.at

-- no such white space is in tokens, and `and` or `of` is in none of them, nor before them
abbrev pub are_plain : Passed → List Token → Bool
are_plain it [] = not (it.has_and && it.has_of)
are_plain it (token ∷ tokens) = not (is_gap it token) && are_plain (passed_with it token) tokens

-- the tokens of bytes at a place are plain
pub record IsPlain (it : Passed) (at : ℕ) (bytes : List ℕ) : Type 0 where
  pub tokens : List Token
  pub cut : HasTokens at bytes tokens
  pub plain : are_plain it tokens ≡ true

-- D, which of the words of a description only `and` has
abbrev pub is_d : ℕ → Bool
is_d byte = (byte == 100) || (byte == 68)

-- white space between two bytes and others is after the fraction of a step, and before another step, or more
-- white space
abbrev pub parts_steps : ℕ → ℕ → List ℕ → Bool
parts_steps before last bytes =
    ends_fraction before last && (is_side (slice_index bytes 0) || is_white (slice_index bytes 0))

-- no such white space is in bytes, and D or F is in none of them, nor before them; two bytes are just before
abbrev pub are_plain_bytes : Bool → Bool → ℕ → ℕ → List ℕ → Bool
are_plain_bytes has_and has_of before last [] = not (has_and && has_of)
are_plain_bytes has_and has_of before last (byte ∷ bytes) =
    not (is_white byte && parts_steps before last bytes)
    && are_plain_bytes (has_and || is_d byte) (has_of || is_f byte) last byte bytes
