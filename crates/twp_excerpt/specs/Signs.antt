-- Bytes as a reader sees them, sign by sign, and how each sign is written so that a terminal shows
-- it. In this module texts are lists of characters; `encode_utf8_all` gives their bytes.
use Rattle.std.specs.Prelude.{◌≡◌, ℕ, zero, suc, ◌+◌, ◌/◌, ◌%◌, ◌==◌, nat_lt, true, false, List, [], ◌∷◌}
use Rattle.std.specs.Prelude.{if◌then◌else◌}
use Rattle.std.specs.Prelude.{◌++◌, length, drop, slice_index, Option, Some, None, Result, OnOk}
use Rattle.std.specs.Prelude.{encode_utf8, encode_utf8_all}
use Rattle.std.specs.Fmt.{digit_glyph, digits}
use Rattle.std.specs.List.{flat_map}
use Rattle.bstr.specs.Utf8.{decoded}
use Rattle.unicode_width.specs.Width.{char_width}
use Rattle.twp_excerpt.specs.Shown.{is_shown}

-- a sign: a UTF-8 character, or a byte that belongs to none
pub data Sign : Type 0 where
  character : ℕ → Sign
  stray : ℕ → Sign

-- how many bytes a sign takes
abbrev pub sign_size : Sign → ℕ
sign_size (character code) = length (encode_utf8 code)
sign_size (stray byte) = 1

-- the sign at the start of some bytes
abbrev pub sign_of : Option ℕ → ℕ → Sign
sign_of (Some code) byte = character code
sign_of None byte = stray byte

abbrev pub first_sign : List ℕ → Sign
first_sign bytes = sign_of (decoded bytes).char (slice_index bytes 0)

-- the signs of some bytes, in order; the fuel is at least the number of bytes
unfoldable pub signs_within : ℕ → List ℕ → List Sign
signs_within zero bytes = []
signs_within (suc fuel) [] = []
signs_within (suc fuel) (byte ∷ rest) =
    first_sign (byte ∷ rest)
    ∷ signs_within fuel (drop (sign_size (first_sign (byte ∷ rest))) (byte ∷ rest))

abbrev pub signs : List ℕ → List Sign
signs bytes = signs_within (length bytes) bytes

-- a backslash and a letter
abbrev pub letter_escape : ℕ → List ℕ
letter_escape letter = 92 ∷ letter ∷ []

-- a hexadecimal digit, in uppercase
abbrev pub hex_digit : ℕ → ℕ
hex_digit = digit_glyph true

-- `\x` and the two hexadecimal digits of a byte
abbrev pub byte_escape : ℕ → List ℕ
byte_escape byte = 92 ∷ 120 ∷ hex_digit (byte / 16) ∷ hex_digit (byte % 16) ∷ []

-- `\u` and the hexadecimal digits of a character in braces
abbrev pub code_escape : ℕ → List ℕ
code_escape code = 92 ∷ 117 ∷ 123 ∷ (digits 16 true code ++ 125 ∷ [])

-- how a character is escaped: line feeds, carriage returns, and tabs as `\n`, `\r`, and `\t`, other
-- ASCII characters as `\x1B`, and all others as `\u{202E}`
abbrev pub escape : ℕ → List ℕ
escape code =
    if code == 10 then letter_escape 110
    else if code == 13 then letter_escape 114
    else if code == 9 then letter_escape 116
    else if nat_lt code 128 then byte_escape code
    else code_escape code

-- how a sign is written: a character that is shown is written unchanged
abbrev pub written : Sign → List ℕ
written (character code) = if is_shown code then code ∷ [] else escape code
written (stray byte) = byte_escape byte

-- the escaped text of some bytes
abbrev pub escaped : List ℕ → List ℕ
escaped bytes = flat_map written (signs bytes)

-- how a sign is written in a line of an excerpt, where a tab is a space
abbrev pub in_line : Sign → List ℕ
in_line (character code) = if code == 9 then 32 ∷ [] else written (character code)
in_line (stray byte) = written (stray byte)

-- the columns that characters take in a terminal
abbrev pub or_zero : Option ℕ → ℕ
or_zero None = 0
or_zero (Some width) = width

abbrev pub width : List ℕ → ℕ
width [] = 0
width (code ∷ codes) = or_zero (char_width false code) + width codes

-- a prefix of these characters was appended to the old text
pub record AddsFront (codes old new : List ℕ) : Type 0 where
  pub front : List ℕ
  pub rest : List ℕ
  pub split : codes ≡ front ++ rest
  pub new_is : new ≡ old ++ encode_utf8_all front

-- These characters were appended to the old text or, if that failed, a prefix of them.
pub record Adding {Value Error : Type 0} (codes : List ℕ) (result : Result Value Error) (old new : List ℕ)
    : Type 0 where
  pub whole : OnOk result (new ≡ old ++ encode_utf8_all codes)
  pub front : AddsFront codes old new
