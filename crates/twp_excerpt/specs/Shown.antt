-- Which characters may be sent to a terminal: those that are visible, and that neither move,
-- reverse, nor hide the text around them.
use Rattle.std.specs.Prelude.{◌≡◌, ◌==◌, ℕ, ◌%◌, Bool, true, false, not, nat_le, ◌&&◌, ◌||◌, Option}
use Rattle.std.specs.Prelude.{Some, None, List, [], ◌∷◌, ◌++◌}
use Rattle.std.specs.Int.{is_in_range}
use Rattle.std.specs.List.{list_all}
use Rattle.std.specs.Str.{encode_utf8_all}
use Rattle.unicode_width.specs.Width.{char_width}

-- control characters, the no-break space, and the soft hyphen
abbrev pub is_control : ℕ → Bool
is_control code = is_in_range 0 0x1F code || is_in_range 0x7F 0xA0 code || (code == 0xAD)

-- marks of direction, spaces of unusual widths, joiners, separators of lines, and invisible
-- operators; each range is in the block of general punctuation, except for the Arabic letter mark,
-- the Ogham space, the Mongolian separators, and the ideographic space
abbrev pub is_odd_mark : ℕ → Bool
is_odd_mark code =
    is_in_range 0x2000 0x200F code || is_in_range 0x2028 0x202F code || is_in_range 0x205F 0x206F code
    || (code == 0x61C) || (code == 0x1680) || is_in_range 0x180B 0x180F code || (code == 0x3000)

-- letters that are blank: the Hangul fillers, and the Braille pattern without dots
abbrev pub is_blank_letter : ℕ → Bool
is_blank_letter code =
    is_in_range 0x115F 0x1160 code || (code == 0x2800) || (code == 0x3164) || (code == 0xFFA0)

-- surrogates and private-use characters, everything from the tags on, variation selectors, the byte
-- order mark, annotations, and noncharacters
abbrev pub is_beyond_text : ℕ → Bool
is_beyond_text code =
    is_in_range 0xD800 0xF8FF code || nat_le 0xE0000 code || is_in_range 0xFE00 0xFE0F code
    || (code == 0xFEFF) || is_in_range 0xFFF0 0xFFFB code || is_in_range 0xFDD0 0xFDEF code
    || nat_le 0xFFFE (code % 0x10000)

-- the character takes columns in a terminal
abbrev pub takes_columns : Option ℕ → Bool
takes_columns None = false
takes_columns (Some width) = nat_le 1 width

-- the character is shown unchanged
unfoldable pub is_shown : ℕ → Bool
is_shown code =
    not (is_control code || is_odd_mark code || is_blank_letter code || is_beyond_text code)
    && takes_columns (char_width false code)

-- the bytes are the UTF-8 encoding of characters that all pass a test
pub record IsTextOf (test : ℕ → Bool) (bytes : List ℕ) : Type 0 where
  pub codes : List ℕ
  pub text_is : bytes ≡ encode_utf8_all codes
  pub all_pass : list_all test codes ≡ true

-- the bytes are characters that are shown
abbrev pub IsShownText : List ℕ → Type 0
IsShownText = IsTextOf is_shown

-- characters that all pass a test, or none, were appended to the old text
pub record Adds (test : ℕ → Bool) (old new : List ℕ) : Type 0 where
  pub added : List ℕ
  pub is_text : IsTextOf test added
  pub new_is : new ≡ old ++ added

-- characters that are shown were appended to the old text
abbrev pub AddsShown : List ℕ → List ℕ → Type 0
AddsShown = Adds is_shown

-- the character is shown, or ends a line
abbrev pub is_shown_or_feed : ℕ → Bool
is_shown_or_feed code = is_shown code || (code == 10)

-- characters that are shown, and line feeds, were appended to the old text
abbrev pub AddsLines : List ℕ → List ℕ → Type 0
AddsLines = Adds is_shown_or_feed

-- characters that are shown, and line feeds, were appended to the old text, and the last one is a
-- line feed
pub record AddsEnded (old new : List ℕ) : Type 0 where
  pub lines : List ℕ
  pub is_text : IsTextOf is_shown_or_feed lines
  pub new_is : new ≡ old ++ (lines ++ 10 ∷ [])

-- two lines of characters that are shown, each ended by a line feed, were appended to the old text
pub record AddsTwoLines (old new : List ℕ) : Type 0 where
  pub first : List ℕ
  pub second : List ℕ
  pub first_shown : IsShownText first
  pub second_shown : IsShownText second
  pub new_is : new ≡ old ++ (first ++ 10 ∷ (second ++ 10 ∷ []))
