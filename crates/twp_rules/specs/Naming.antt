-- What names land in a text that people write, what takes land away or says where it ends, and which numbers
-- may be those of sections or lots. What the rules leave out as a label, acreage, or a meridian names no
-- land.
use Rattle.std.specs.Prelude.{◌==◌, ◌||◌, ◌&&◌, ℕ, suc, Bool, true, false, List, [], ◌∷◌}
use Rattle.std.specs.Prelude.{if◌then◌else◌, codes, drop, length, nat_le, not, slice_index}
use Rattle.std.specs.Char.{is_ascii_alphabetic, is_ascii_alphanumeric, is_ascii_digit}
use Rattle.twp_grammar.specs.Tokens.{same_bytes}
use Rattle.twp_rules.specs.Edges.{begins_with, begins_with_one, byte_before, is_one_of, without_white}
use Rattle.twp_rules.specs.Words.{half_fronts, land_words, number_letters, side_names}
use Rattle.twp_rules.specs.Words.{code_marks, date_marks, figure_marks, marks_before_codes}
use Rattle.twp_rules.specs.Words.{numbered_words, units, north_south, east_west}

-- the letters with which a text begins
abbrev pub word_of : List ℕ → List ℕ
word_of [] = []
word_of (byte ∷ bytes) = if is_ascii_alphabetic byte then byte ∷ word_of bytes else []

-- the digits with which a text begins
abbrev pub digits_of : List ℕ → List ℕ
digits_of [] = []
digits_of (byte ∷ bytes) = if is_ascii_digit byte then byte ∷ digits_of bytes else []

-- N, S, E, or W, in either case
abbrev pub is_side : ℕ → Bool
is_side byte = is_one_of (byte ∷ []) north_south || is_one_of (byte ∷ []) east_west

-- letters are corners alone, as NESW: N or S, and E or W after it, from the first letter of a corner, or the
-- second
abbrev pub are_corners_from : Bool → List ℕ → Bool
are_corners_from is_first [] = is_first
are_corners_from true (byte ∷ bytes) = is_one_of (byte ∷ []) north_south && are_corners_from false bytes
are_corners_from false (byte ∷ bytes) = is_one_of (byte ∷ []) east_west && are_corners_from true bytes

-- what follows a side makes a half of it: 2, /2, ½, or a word
abbrev pub makes_half : List ℕ → Bool
makes_half rest =
    begins_with_one rest half_fronts
    || begins_with rest (codes "2") && not (is_ascii_digit (slice_index rest 1))

-- the word with which a text begins names land: a section, a lot, a corner, several of them, a half, or the
-- letter of a section, lot, township, or range with its number, which has at most four digits
abbrev pub word_names_land : List ℕ → List ℕ → Bool
word_names_land word after =
    is_one_of word land_words || not (same_bytes word []) && are_corners_from true word
    || is_one_of word side_names && makes_half (without_white after)
    || is_one_of word number_letters && is_ascii_digit (slice_index after 0)
    && nat_le (length (digits_of after)) 4

-- the number with which a text begins is that of a township or a range: a side is after its digits
abbrev pub number_names_township : List ℕ → List ℕ → Bool
number_names_township digits after =
    nat_le (length digits) 4 && is_side (slice_index after 0)
    && not (is_ascii_alphanumeric (slice_index after 1))

-- a word, or a number, begins at a place
abbrev pub begins_word : List ℕ → ℕ → Bool
begins_word seen at =
    is_ascii_alphabetic (slice_index seen at) && not (is_ascii_alphabetic (byte_before seen at))

abbrev pub begins_number : List ℕ → ℕ → Bool
begins_number seen at =
    is_ascii_digit (slice_index seen at) && not (is_ascii_alphanumeric (byte_before seen at))

-- land is named at a place
abbrev pub names_land_at : List ℕ → ℕ → List ℕ → Bool
names_land_at seen at rest =
    begins_word seen at && word_names_land (word_of rest) (drop (length (word_of rest)) rest)
    || begins_number seen at && number_names_township (digits_of rest) (drop (length (digits_of rest)) rest)

-- no land is named from a place on
abbrev pub has_no_land_from : List ℕ → ℕ → List ℕ → Bool
has_no_land_from seen at [] = true
has_no_land_from seen at (byte ∷ bytes) =
    not (names_land_at seen at (byte ∷ bytes)) && has_no_land_from seen (suc at) bytes

-- NO LAND is named in a text
abbrev pub has_no_land : List ℕ → Bool
has_no_land seen = has_no_land_from seen 0 seen

-- digits are not the number of a section: 0, more than two digits, or more than 36
abbrev pub is_no_section : List ℕ → Bool
is_no_section digits =
    same_bytes digits (codes "0") || nat_le 3 (length digits)
    || (length digits == 2)
    && (nat_le 52 (slice_index digits 0)
    || (slice_index digits 0 == 51) && nat_le 55 (slice_index digits 1))

-- the byte after the digits with which a text begins
abbrev pub mark_after_digits : List ℕ → ℕ
mark_after_digits rest = slice_index rest (length (digits_of rest))

-- what is after digits makes them a code, a date, or a figure: a letter, a slash, or a percent sign; a point
-- or a comma with a digit after it; or a hyphen, after a name, or before digits and another hyphen
abbrev pub goes_on : List ℕ → List ℕ → Bool
goes_on name after =
    is_ascii_alphabetic (slice_index after 0) || is_one_of (slice_index after 0 ∷ []) code_marks
    || is_one_of (slice_index after 0 ∷ []) figure_marks && is_ascii_digit (slice_index after 1)
    || is_one_of (slice_index after 0 ∷ []) date_marks
    && (not (same_bytes name []) || is_one_of (mark_after_digits (drop 1 after) ∷ []) date_marks)

-- a number that a name or a mark is before, or a unit after, or that goes on, is not that of a section
abbrev pub is_of_something_else : List ℕ → ℕ → List ℕ → List ℕ → List ℕ → Bool
is_of_something_else seen at name digits after =
    is_no_section digits || is_one_of name numbered_words
    || is_one_of (byte_before seen at ∷ []) marks_before_codes || goes_on name after
    || is_one_of (word_of (without_white after)) units

-- the last word before a number that may name it: a number ends it
abbrev pub name_after : List ℕ → ℕ → List ℕ → List ℕ → List ℕ
name_after seen at name rest =
    if begins_word seen at then word_of rest else (if begins_number seen at then [] else name)

-- a number at a place, if there is one, is not that of a section or a lot
abbrev pub is_explained_at : List ℕ → ℕ → List ℕ → List ℕ → Bool
is_explained_at seen at name rest =
    not (begins_number seen at)
    || is_of_something_else seen at name (digits_of rest) (drop (length (digits_of rest)) rest)

-- so is each number from a place on
abbrev pub has_no_bare_number_from : List ℕ → ℕ → List ℕ → List ℕ → Bool
has_no_bare_number_from seen at name [] = true
has_no_bare_number_from seen at name (byte ∷ bytes) =
    is_explained_at seen at name (byte ∷ bytes)
    && has_no_bare_number_from seen (suc at) (name_after seen at name (byte ∷ bytes)) bytes

-- NO BARE NUMBER is in a text: each is that of something else
abbrev pub has_no_bare_number : List ℕ → Bool
has_no_bare_number seen = has_no_bare_number_from seen 0 [] seen

-- NAMES NO LAND: what the rules leave out as a label, a remark, acreage, or a meridian
abbrev pub names_no_land : List ℕ → Bool
names_no_land seen = has_no_land seen && has_no_bare_number seen
