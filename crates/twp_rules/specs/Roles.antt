-- What a text says of its numbers: which of them are those of sections, by a word, a list, a location, a
-- register, or a mark before land; and which are those of townships and ranges. No other number is one.
use Rattle.std.specs.Prelude.{◌==◌, ◌||◌, ◌&&◌, ℕ, zero, suc, ◌+◌, ◌-◌, Bool, false, List, [], ◌∷◌}
use Rattle.std.specs.Prelude.{if◌then◌else◌, codes, drop, length, nat_le, not, slice_index, take}
use Rattle.std.specs.Char.{is_ascii_digit}
use Rattle.twp_grammar.specs.Tokens.{is_white}
use Rattle.twp_rules.specs.Edges.{begins_with_one, byte_before, ends_with_one, is_one_of, without_white}
use Rattle.twp_rules.specs.Endings.{dash_marks, words_apart}
use Rattle.twp_rules.specs.Naming.{begins_word, digits_of, makes_half, word_of}
use Rattle.twp_rules.specs.Rules.{are_leading, is_fraction_digit, solid_before, without_spaces}
use Rattle.twp_rules.specs.Words.{apart_marks, before_land_marks, east_west, letter_marks, list_words}
use Rattle.twp_rules.specs.Words.{location_marks}
use Rattle.twp_rules.specs.Words.{north_words, number_words, section_names, south_words, township_words}

-- what is after the letter of a section: a period or a colon, and white space, may be before its number
abbrev pub after_letter : List ℕ → List ℕ
after_letter after =
    if is_one_of (slice_index after 0 ∷ []) letter_marks then without_white (drop 1 after)
    else without_white after

-- the number of a section is after its letter, and not what makes a half of it
abbrev pub is_before_number : List ℕ → Bool
is_before_number rest = is_ascii_digit (slice_index rest 0) && not (makes_half rest)

-- a word begins a list of sections: it is the word for one, its letter with a number, `of` before a number,
-- or the side of a range after its number
abbrev pub begins_list : ℕ → List ℕ → List ℕ → Bool
begins_list before word after =
    is_one_of word section_names
    || is_one_of word (codes "s" ∷ []) && is_before_number (after_letter after)
    || is_one_of word (codes "of" ∷ []) && is_ascii_digit (slice_index (without_white after) 0)
    || is_one_of word east_west && is_ascii_digit before

-- a word goes on with such a list
abbrev pub goes_on_with_list : List ℕ → Bool
goes_on_with_list word = is_one_of word list_words || is_one_of word number_words

-- the last byte of a section sign is at a place
abbrev pub is_section_sign_at : List ℕ → ℕ → Bool
is_section_sign_at text at = (slice_index text at == 167) && (byte_before text at == 194)

-- whether a list of sections is open after a byte of a text, if it is, or isn't, before
abbrev pub is_open_after : Bool → List ℕ → ℕ → List ℕ → Bool
is_open_after is_open text at rest =
    if begins_word text at
    then (begins_list (byte_before text at) (word_of rest) (drop (length (word_of rest)) rest)
    || goes_on_with_list (word_of rest) && is_open)
    else (is_section_sign_at text at || is_open)

-- IN A LIST OF SECTIONS: the last word before a place that isn't of numbers is one that begins a list
abbrev pub is_in_list : List ℕ → ℕ → Bool
is_in_list text zero = false
is_in_list text (suc at) = is_open_after (is_in_list text at) text at (drop at text)

-- a text without the white space and the marks of a location before it
abbrev pub without_location_marks : List ℕ → List ℕ
without_location_marks [] = []
without_location_marks (byte ∷ bytes) =
    if is_white byte || is_one_of (byte ∷ []) location_marks then without_location_marks bytes
    else byte ∷ bytes

-- a text without the word with which it begins, if that is one before the number of a township
abbrev pub without_township_word : List ℕ → List ℕ
without_township_word rest =
    if is_one_of (word_of rest) township_words
    then without_location_marks (drop (length (word_of rest)) rest)
    else rest

-- a word for north or south
abbrev pub is_north_south_word : List ℕ → Bool
is_north_south_word word = is_one_of word north_words || is_one_of word south_words

-- a text begins with the number of a township, and north or south
abbrev pub begins_with_tier : List ℕ → Bool
begins_with_tier rest =
    nat_le 1 (length (digits_of rest)) && nat_le (length (digits_of rest)) 4
    && is_north_south_word (word_of (without_location_marks (drop (length (digits_of rest)) rest)))

-- a township follows
abbrev pub is_before_township : List ℕ → Bool
is_before_township rest = begins_with_tier (without_township_word (without_location_marks rest))

-- as registers write a section: three digits, of which the first is 0
abbrev pub is_of_register : List ℕ → ℕ → ℕ → Bool
is_of_register text from to =
    (byte_before text from == 48)
    && (if to == from + 2 then not (is_ascii_digit (byte_before text (from - 1)))
    else ((byte_before text (from - 1) == 48) && not (is_ascii_digit (byte_before text (from - 2)))))

-- the last byte before a place that isn't a space, or 0
abbrev pub byte_before_spaces : List ℕ → ℕ → ℕ
byte_before_spaces text zero = 0
byte_before_spaces text (suc at) =
    if slice_index text at == 32 then byte_before_spaces text at else slice_index text at

-- a number is apart from land before it: at the beginning of the text, of a line or a cell, or after a mark
-- or a word that joins
abbrev pub is_apart : List ℕ → ℕ → Bool
is_apart text at =
    is_one_of (byte_before_spaces text at ∷ []) ((0 ∷ []) ∷ (9 ∷ []) ∷ (10 ∷ []) ∷ [])
    || is_one_of (solid_before text at ∷ []) ((0 ∷ []) ∷ apart_marks)
    || ends_with_one (take at text) words_apart

-- a mark between a section and its land follows
abbrev pub is_before_land_mark : List ℕ → Bool
is_before_land_mark rest =
    is_one_of (slice_index (without_spaces rest) 0 ∷ []) before_land_marks
    || begins_with_one (without_spaces rest) dash_marks

-- A NUMBER IS THAT OF A SECTION only if the text says so
abbrev pub is_said_section : List ℕ → ℕ → ℕ → Bool
is_said_section text from to =
    is_in_list text from || is_before_township (drop to text) || is_of_register text from to
    || is_apart text from && is_before_land_mark (drop to text)

-- no digit is before a number but zeros
abbrev pub begins_whole : List ℕ → ℕ → Bool
begins_whole text from =
    are_leading text from || (byte_before text from == 48) && (are_leading text (from - 1)
    || (byte_before text (from - 1) == 48) && (are_leading text (from - 2)
    || (byte_before text (from - 2) == 48) && are_leading text (from - 3)))

-- none is after it but a fraction digit
abbrev pub ends_whole : List ℕ → ℕ → Bool
ends_whole text to = not (is_ascii_digit (slice_index text to)) || is_fraction_digit text to (to + 1)
