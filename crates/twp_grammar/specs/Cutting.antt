-- How the first token is split off bytes that do not begin with white space; proofs/Cuts shows that it
-- is the only token that the bytes begin with. After the end, a byte is read as 0.
use Rattle.std.specs.Prelude.{◌==◌, ◌&&◌, ℕ, Bool, not, ◌+◌, ◌<◌, ◌≤◌, nat_le, List, length, take, drop}
use Rattle.std.specs.Prelude.{Option, Some, None, slice_index, if◌then◌else◌}
use Rattle.std.specs.Char.{is_ascii_alphabetic, is_ascii_digit, to_ascii_lowercase}
use Rattle.std.specs.List.{prefix_len, AllPass}
use Rattle.std.specs.Str.Parse.{digits_value}
use Rattle.twp_grammar.specs.declared.tokens.Kind.{Kind}
use Rattle.twp_grammar.specs.declared.tokens.Kind.TheVariants.{Half, Quarter, Number, Comma, Semicolon}
use Rattle.twp_grammar.specs.declared.tokens.Kind.TheVariants.{Colon, Stop, BadNumber, BadByte}
use Rattle.twp_grammar.specs.declared.tokens.Lexeme.{Lexeme}
use Rattle.twp_grammar.specs.declared.tokens.Token.{Token as Piece}
use Rattle.twp_grammar.specs.Tokens.{Token, is_white, kind_of_word, seen, StartsWith}

-- a kind of token, and how many bytes it takes
abbrev pub lexeme : Kind → ℕ → Lexeme
lexeme kind size = record { kind = kind; size = size }

-- a letter in lowercase
abbrev pub small_letter : ℕ → Option ℕ
small_letter byte = if is_ascii_alphabetic byte then Some (to_ascii_lowercase byte) else None

-- a byte that is not white space
abbrev pub is_dark : ℕ → Bool
is_dark byte = not (is_white byte)

-- how many letters bytes begin with
abbrev pub letters_in_front : List ℕ → ℕ
letters_in_front bytes = prefix_len is_ascii_alphabetic bytes

-- the word of all letters at the start
unfoldable pub cut_word : List ℕ → Lexeme
cut_word bytes =
    lexeme (kind_of_word (take (letters_in_front bytes) bytes)) (letters_in_front bytes)

-- the kind of this many digits
abbrev pub numeral_of : ℕ → List ℕ → Lexeme
numeral_of size bytes =
    if nat_le size 4 then lexeme (Number (digits_value 10 (take size bytes))) size
    else lexeme BadNumber size

-- the number of all digits at the start
unfoldable pub cut_number : List ℕ → Lexeme
cut_number bytes = numeral_of (prefix_len is_ascii_digit bytes) bytes

-- the bytes begin with 1, /, and this byte
abbrev pub one_over : List ℕ → ℕ → Bool
one_over bytes last =
    (slice_index bytes 0 == 49) && (slice_index bytes 1 == 47) && (slice_index bytes 2 == last)

-- bytes that begin with a digit
unfoldable pub cut_digits : List ℕ → Lexeme
cut_digits bytes =
    if one_over bytes 50 then lexeme Half 3
    else if one_over bytes 52 then lexeme Quarter 3
    else cut_number bytes

-- a byte that is neither a letter nor a digit, and the one after it
unfoldable pub cut_mark : ℕ → ℕ → Lexeme
cut_mark byte after =
    if byte == 44 then lexeme Comma 1
    else if byte == 46 then lexeme Stop 1
    else if byte == 59 then lexeme Semicolon 1
    else if byte == 58 then lexeme Colon 1
    else if (byte == 194) && (after == 189) then lexeme Half 2
    else if (byte == 194) && (after == 188) then lexeme Quarter 2
    else lexeme BadByte 1

-- the first token of bytes
unfoldable pub cut : List ℕ → Lexeme
cut bytes =
    if is_ascii_alphabetic (slice_index bytes 0) then cut_word bytes
    else if is_ascii_digit (slice_index bytes 0) then cut_digits bytes
    else cut_mark (slice_index bytes 0) (slice_index bytes 1)

-- the next token after a place in a text, after any white space
pub record IsFirstIn (text : List ℕ) (from : ℕ) (token : Token) : Type 0 where
  pub starts : StartsWith from (drop from text) token (drop (token.at + length token.text) text)
  pub further : from < token.at + length token.text
  pub within : token.at + length token.text ≤ length text

-- the first token of a text from a place on, or None if the rest is white space
abbrev pub GivesFirst : List ℕ → ℕ → Option Piece → Type 0
GivesFirst text from None = AllPass is_white (drop from text)
GivesFirst text from (Some token) = IsFirstIn text from (seen token)
