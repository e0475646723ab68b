-- The rules by which a text that people write is changed into a description: what each looks at, what it
-- writes instead, and what is before and after it. Letters of either case are the same.
use Rattle.std.specs.Prelude.{◌==◌, ◌||◌, ◌&&◌, ℕ, zero, suc, ◌-◌, Bool, true, false, List, [], ◌∷◌, length}
use Rattle.std.specs.Prelude.{drop, take}
use Rattle.std.specs.Prelude.{if◌then◌else◌, codes, nat_le, slice_index, slice_range, not}
use Rattle.std.specs.Char.{is_ascii_alphabetic, is_ascii_alphanumeric, is_ascii_digit}
use Rattle.std.specs.Str.{str_to_ascii_lowercase}
use Rattle.twp_grammar.specs.Tokens.{same_bytes, is_white}
use Rattle.twp_rules.specs.declared.rule.Rule.{Rule}
use Rattle.twp_rules.specs.declared.rule.Rule.TheVariants.{Half, Quarter, Direction, Numeral, Copied}
use Rattle.twp_rules.specs.declared.rule.Rule.TheVariants.{CopiedStep}
use Rattle.twp_rules.specs.declared.rule.Rule.TheVariants.{Zeros, FractionDigit, Heading, SectionWord}
use Rattle.twp_rules.specs.declared.rule.Rule.TheVariants.{LotWord, Through, And, Comma, Semicolon}
use Rattle.twp_rules.specs.declared.rule.Rule.TheVariants.{OnePart, Mark, Word, Repeated, MovedSection}
use Rattle.twp_rules.specs.declared.rule.Rule.TheVariants.{Exception, Damage}
use Rattle.twp_rules.specs.declared.rule.Rule.TheVariants.{MovedHeading, Meridian, Acreage, Label}
use Rattle.twp_rules.specs.Tables.{Entry, halves, worn_halves, quarters, worn_quarters, damages}
use Rattle.twp_rules.specs.Tables.{damaged_corners, exceptions, directions, numerals, more_numerals, headings}
use Rattle.twp_rules.specs.Tables.{heading_words, heading_marks, section_words, lot_words, lot_marks, dashes}
use Rattle.twp_rules.specs.Tables.{ampersands, commas, semicolons, marks, more_marks, little_words}
use Rattle.twp_rules.specs.Tables.{more_little_words, joining_words, zeros}
use Rattle.twp_rules.specs.Tables.{fraction_digits, joints}
use Rattle.twp_rules.specs.Tables.{quarter_abbreviations, worn_directions, worn_lot_words}
use Rattle.twp_rules.specs.Tables.{worn_section_words}
use Rattle.twp_rules.specs.Endings.{acreage_ends, acreage_fronts, being_fronts, corners, digits}
use Rattle.twp_rules.specs.Endings.{half_texts, heading_ends, meridian_ends, meridian_fronts, meridian_labels}
use Rattle.twp_rules.specs.Endings.{more_states, parenthesis_ends, quarter_texts, section_again, section_ends}
use Rattle.twp_rules.specs.Endings.{sides, state_letters, states, worn_corners, worn_section_ends}
use Rattle.twp_rules.specs.Endings.{worn_sides}
use Rattle.twp_rules.specs.Endings.{all_but, but_what, dash_marks, first_exceptions, meridian_letters}
use Rattle.twp_rules.specs.Endings.{tens_ends}
use Rattle.twp_rules.specs.Edges.{begins_with, begins_with_one, byte_before, ends_with, ends_with_one}
use Rattle.twp_rules.specs.Edges.{is_one_of, without_white}
use Rattle.twp_rules.specs.Moving.{is_only_of}
use Rattle.twp_rules.specs.Naming.{are_corners_from, digits_of, has_no_bare_number, has_no_land, is_side}
use Rattle.twp_rules.specs.Naming.{mark_after_digits}
use Rattle.twp_rules.specs.Naming.{names_no_land, word_of}
use Rattle.twp_rules.specs.Sayings.{has_no_limit, has_only_columns_from, is_more_or_less, is_remark}
use Rattle.twp_rules.specs.Sayings.{is_said_of_land}
use Rattle.twp_rules.specs.Words.{cell_marks, first_words, further_exceptions, north_south, one_to_nine}
use Rattle.twp_rules.specs.declared.moved.Moved.TheVariants.{Section, Heading as Township}
use Rattle.twp_rules.specs.declared.saying.Saying.TheVariants.{Remark}

-- this is written for that, in letters of either case
abbrev pub is_entry : List ℕ → List ℕ → Entry → Bool
is_entry seen written it = same_bytes (str_to_ascii_lowercase seen) it.seen && same_bytes written it.written

-- a table says that this is written for that
abbrev pub is_among : List ℕ → List ℕ → List Entry → Bool
is_among seen written [] = false
is_among seen written (it ∷ more) = is_entry seen written it || is_among seen written more

-- it is one of these, and one of those
abbrev pub is_spelled : List ℕ → List (List ℕ) → List (List ℕ) → Bool
is_spelled seen [] ends = false
is_spelled seen (front ∷ fronts) ends =
    begins_with seen front && is_one_of (without_white (drop (length front) seen)) ends
    || is_spelled seen fronts ends

-- a half or a quarter, with the spellings of its letters
abbrev pub is_half : List ℕ → List ℕ → List (List ℕ) → List ℕ → Bool
is_half seen written fronts half = is_spelled seen fronts half_texts && same_bytes written half

abbrev pub is_quarter : List ℕ → List ℕ → List (List ℕ) → List ℕ → Bool
is_quarter seen written fronts quarter = is_spelled seen fronts quarter_texts && same_bytes written quarter

-- a half, as it is written in a description
abbrev pub is_some_half : List ℕ → List ℕ → Bool
is_some_half seen written =
    is_half seen written (codes "n" ∷ codes "north" ∷ []) (codes "N1/2")
    || is_half seen written (codes "s" ∷ codes "south" ∷ []) (codes "S1/2")
    || is_half seen written (codes "e" ∷ codes "east" ∷ []) (codes "E1/2")
    || is_half seen written (codes "w" ∷ codes "west" ∷ []) (codes "W1/2")

-- a quarter, as it is written in a description
abbrev pub is_some_quarter : List ℕ → List ℕ → Bool
is_some_quarter seen written =
    is_quarter seen written (codes "ne" ∷ codes "northeast" ∷ codes "north east" ∷ []) (codes "NE1/4")
    || is_quarter seen written (codes "nw" ∷ codes "northwest" ∷ codes "north west" ∷ []) (codes "NW1/4")
    || is_quarter seen written (codes "se" ∷ codes "southeast" ∷ codes "south east" ∷ []) (codes "SE1/4")
    || is_quarter seen written (codes "sw" ∷ codes "southwest" ∷ codes "south west" ∷ []) (codes "SW1/4")

-- a step of an aliquot part, as it is written in a description
abbrev pub is_step : List ℕ → List ℕ → Bool
is_step seen written = is_some_half seen written || is_some_quarter seen written

-- the step that a text has from one place up to another
abbrev pub is_copied_step : List ℕ → ℕ → ℕ → List ℕ → Bool
is_copied_step text from to written =
    nat_le from to && nat_le to (length text) && is_step (slice_range text from to) written

-- a digit, a comma, a decimal point, or white space
abbrev pub is_of_figure : ℕ → Bool
is_of_figure byte =
    is_ascii_digit byte || (byte == 44) || (byte == 46) || (byte == 32) || (byte == 9)

-- the digits of a number, with commas and a decimal point
abbrev pub is_figure : List ℕ → Bool
is_figure [] = true
is_figure (byte ∷ bytes) = is_of_figure byte && is_figure bytes

-- a figure, and the letter for acres, which a period may end
abbrev pub is_figure_of_acres : List ℕ → Bool
is_figure_of_acres seen =
    if ends_with seen (codes "a") then is_figure (take (length seen - 1) seen)
    else (ends_with seen (codes "a.") && is_figure (take (length seen - 2) seen))

-- no digit is in a text
abbrev pub has_no_digit : List ℕ → Bool
has_no_digit [] = true
has_no_digit (byte ∷ bytes) = not (is_ascii_digit byte) && has_no_digit bytes

-- neither before a text nor after it is a letter
abbrev pub is_whole_word : List ℕ → ℕ → ℕ → Bool
is_whole_word text start end =
    not (is_ascii_alphabetic (byte_before text start)) && not (is_ascii_alphabetic (slice_index text end))

-- a word for a number
abbrev pub is_numeral : List ℕ → List ℕ → Bool
is_numeral seen written = is_among seen written numerals || is_among seen written more_numerals

-- one digit, or two
abbrev pub are_digits : List ℕ → Bool
are_digits seen =
    (length seen == 1) && is_ascii_digit (slice_index seen 0)
    || (length seen == 2) && is_ascii_digit (slice_index seen 0) && is_ascii_digit (slice_index seen 1)

-- the digits of a number, as they are, or for the word for it, or for what scanning made of a digit
abbrev pub is_number : List ℕ → List ℕ → Bool
is_number seen written =
    are_digits seen && same_bytes written seen || is_numeral seen written || is_among seen written damages

-- a word for tens has that of a number from one to nine after it, if it ends with a hyphen or a space
abbrev pub is_whole_numeral : List ℕ → List ℕ → Bool
is_whole_numeral seen after =
    not (ends_with_one seen tens_ends) || is_one_of (word_of after) one_to_nine

-- the number that a text has from one place up to another
abbrev pub is_copied : List ℕ → ℕ → ℕ → List ℕ → Bool
is_copied text from to written =
    nat_le from to && nat_le to (length text) && is_number (slice_range text from to) written
    && is_whole_numeral (slice_range text from to) (drop to text)

-- the name of a state, the letters for it, or a digit
abbrev pub is_place_name : List ℕ → Bool
is_place_name seen =
    ends_with_one seen states || ends_with_one seen more_states || ends_with_one seen state_letters
    || ends_with_one seen digits

-- a township follows, after white space: up to four digits, and N or S
abbrev pub is_township : List ℕ → Bool
is_township rest =
    nat_le 1 (length (digits_of rest)) && nat_le (length (digits_of rest)) 4
    && is_one_of (mark_after_digits rest ∷ []) north_south

-- a township follows a code: after white space; or, after a code that begins with 0, in the next cell
abbrev pub is_before_township : List ℕ → List ℕ → Bool
is_before_township code after =
    is_township (without_white after)
    || begins_with (without_white code) (codes "0") && begins_with after (codes ",")
    && is_township (drop 1 after)

-- a meridian, a state, or a county: its name, or the code of a register before a township
abbrev pub is_meridian : List ℕ → List ℕ → Bool
is_meridian seen after =
    (ends_with_one seen meridian_ends || is_place_name seen
    || begins_with_one (without_white seen) meridian_fronts
    || begins_with_one (without_white seen) meridian_labels)
    && has_no_land seen
    && (has_no_limit Remark seen || is_one_of (without_white seen) meridian_letters)
    && (has_no_bare_number seen || ends_with_one seen digits && is_before_township seen after)

-- stated acreage
abbrev pub is_acreage : List ℕ → Bool
is_acreage seen =
    (ends_with_one seen acreage_ends || is_figure_of_acres seen || is_figure seen
    || begins_with_one (without_white seen) acreage_fronts)
    && names_no_land seen && is_more_or_less seen

-- a section that is written elsewhere, or that was named before
abbrev pub is_moved_section : List ℕ → Bool
is_moved_section seen =
    (ends_with_one seen digits || ends_with_one seen section_ends || ends_with_one seen worn_section_ends
    || ends_with_one seen section_again)
    && is_only_of Section seen

-- a township and range that is: no word goes on after it, but for the section of a register
abbrev pub is_moved_heading : List ℕ → List ℕ → Bool
is_moved_heading seen after =
    ends_with_one seen heading_ends && is_only_of Township seen
    && (not (is_ascii_alphanumeric (slice_index after 0)) || ends_with seen (codes ".")
    || begins_with after (codes "0sn"))

-- a text without the spaces before it
abbrev pub without_spaces : List ℕ → List ℕ
without_spaces [] = []
without_spaces (byte ∷ bytes) = if byte == 32 then without_spaces bytes else byte ∷ bytes

-- a word with which a text begins, and land doesn't
abbrev pub is_no_land_word : List ℕ → Bool
is_no_land_word word =
    not (same_bytes word []) && not (is_one_of word first_words) && not (are_corners_from true word)

-- the number of an item: a period or a parenthesis ends it, and after white space is no land
abbrev pub is_item_number : List ℕ → List ℕ → Bool
is_item_number number after =
    is_ascii_digit (slice_index number 0)
    && is_one_of (drop (length (digits_of number)) number) (codes "." ∷ codes ")" ∷ [])
    && is_white (slice_index after 0) && is_no_land_word (word_of (without_white after))

-- the number of a row: in a cell of its own, before one that doesn't begin with land; or of an item
abbrev pub is_row_number : List ℕ → List ℕ → Bool
is_row_number seen after =
    same_bytes (digits_of (without_white seen)) (without_white seen)
    && is_one_of (slice_index (without_spaces after) 0 ∷ []) cell_marks
    && is_no_land_word (word_of (without_white (drop 1 (without_spaces after))))
    || is_item_number (without_white seen) after

-- no letter ends a phrase before a digit, as the damaged one in I4
abbrev pub is_apart_from_digit : List ℕ → List ℕ → Bool
is_apart_from_digit seen after =
    not (is_ascii_alphabetic (slice_index seen (length seen - 1)) && is_ascii_digit (slice_index after 0))

-- WHAT A RULE ALLOWS to leave out, with what is after it
abbrev pub may_be_left_out : Rule → List ℕ → List ℕ → Bool
may_be_left_out Repeated seen after =
    ends_with_one seen parenthesis_ends || begins_with_one (without_white seen) being_fronts
may_be_left_out MovedSection seen after = is_moved_section seen
may_be_left_out MovedHeading seen after = is_moved_heading seen after
may_be_left_out Meridian seen after = is_meridian seen after
may_be_left_out Acreage seen after = is_acreage seen
may_be_left_out Label seen after =
    is_apart_from_digit seen after
    && (is_remark seen || is_said_of_land seen || has_no_digit seen && has_only_columns_from seen 0 seen
    || is_row_number seen after)
may_be_left_out _ seen after = false

-- zeros before a number: no digit is before them, or the code of a register, and then four digits
abbrev pub are_leading : List ℕ → ℕ → Bool
are_leading text start =
    not (is_ascii_digit (byte_before text start))
    || is_ascii_digit (byte_before text (start - 1)) && not (is_ascii_digit (byte_before text (start - 2)))
    && (length (digits_of (drop start text)) == 4)

-- three digits are before a place, and no more, but for the code of a register
abbrev pub is_after_three_digits : List ℕ → ℕ → Bool
is_after_three_digits text start =
    is_ascii_digit (byte_before text start) && is_ascii_digit (byte_before text (start - 1))
    && is_ascii_digit (byte_before text (start - 2))
    && (not (is_ascii_digit (byte_before text (start - 3)))
    || is_ascii_digit (byte_before text (start - 4)) && not (is_ascii_digit (byte_before text (start - 5))))

-- the fraction digit of a township or a range, before its side, or of a register's section
abbrev pub is_fraction_digit : List ℕ → ℕ → ℕ → Bool
is_fraction_digit text start end =
    is_after_three_digits text start && is_side (slice_index text end)
    || is_ascii_digit (byte_before text start) && is_ascii_digit (byte_before text (start - 1))
    && ends_with (take (start - 2) text) (codes "sn")

-- a word begins an exception: with the exception of, but not; and not more or less
abbrev pub begins_exception : List ℕ → List ℕ → List ℕ → Bool
begins_exception before seen after =
    if is_one_of seen (codes "with" ∷ []) then begins_with (without_white after) (codes "the exception")
    else (if is_one_of seen (codes "but" ∷ [])
    then (begins_with_one (without_white after) but_what || ends_with_one before all_but)
    else not (ends_with before (codes "or ")))

-- a word that is left out is no further word of an exception, unless its first one is before it
abbrev pub is_no_exception : List ℕ → List ℕ → Bool
is_no_exception before seen =
    not (is_one_of seen further_exceptions) || ends_with_one before first_exceptions

-- the last byte before a place that isn't white space, or 0
abbrev pub solid_before : List ℕ → ℕ → ℕ
solid_before text zero = 0
solid_before text (suc at) =
    if is_white (slice_index text at) then solid_before text at else slice_index text at

-- a hyphen or a dash is between numbers, of which the second is no township
abbrev pub is_between_numbers : List ℕ → ℕ → ℕ → List ℕ → Bool
is_between_numbers text start end seen =
    is_one_of seen dash_marks && is_ascii_digit (solid_before text start)
    && is_ascii_digit (slice_index (without_white (drop end text)) 0)
    && not (is_township (without_white (drop end text)))

-- WHAT A RULE ALLOWS: to write this instead of the text from one place up to another
abbrev pub allows : Rule → List ℕ → ℕ → ℕ → List ℕ → List ℕ → Bool
allows Half text start end seen written =
    (is_among (without_white seen) written halves || is_among (without_white seen) written worn_halves)
    && (ends_with_one (take start text) sides || ends_with_one (take start text) worn_sides)
allows Quarter text start end seen written =
    (is_among (without_white seen) written quarters
    || is_among (without_white seen) written quarter_abbreviations
    || is_among (without_white seen) written worn_quarters)
    && (ends_with_one (take start text) corners || ends_with_one (take start text) worn_corners)
allows Direction text start end seen written =
    (is_among seen written directions || is_among seen written worn_directions)
    && is_whole_word text start end
allows Numeral text start end seen written =
    is_numeral seen written && is_whole_numeral seen (drop end text)
allows (Copied from to) text start end seen written =
    same_bytes seen [] && is_copied text from to written
allows (CopiedStep from to) text start end seen written =
    same_bytes seen [] && is_copied_step text from to written
allows Damage text start end seen written =
    is_among seen written damages && is_whole_word text start end
    || is_among seen written damaged_corners && is_ascii_alphabetic (slice_index text end)
allows Exception text start end seen written =
    is_among seen written exceptions && is_whole_word text start end
    && begins_exception (take start text) seen (drop end text)
allows Zeros text start end seen written =
    is_among seen written zeros && is_ascii_digit (slice_index text end) && are_leading text start
allows FractionDigit text start end seen written =
    is_among seen written fraction_digits && is_fraction_digit text start end
allows Heading text start end seen written =
    is_among seen written headings || is_among seen written heading_words
    || is_among seen written heading_marks
allows SectionWord text start end seen written =
    (is_among seen written section_words || is_among seen written worn_section_words)
    && (same_bytes seen [] || same_bytes seen (codes ",") || is_whole_word text start end)
allows LotWord text start end seen written =
    (is_among seen written lot_words || is_among seen written worn_lot_words) && is_whole_word text start end
    || is_among seen written lot_marks
allows Through text start end seen written = is_among seen written dashes
allows And text start end seen written = is_among seen written ampersands
allows Comma text start end seen written =
    is_among seen written commas && not (is_between_numbers text start end seen)
allows Semicolon text start end seen written =
    is_among seen written semicolons && not (is_between_numbers text start end seen)
allows OnePart text start end seen written = is_among seen written joints
allows Mark text start end seen written = is_among seen written marks || is_among seen written more_marks
allows Word text start end seen written =
    (is_among seen written little_words || is_among seen written more_little_words
    || is_among seen written joining_words)
    && is_whole_word text start end && is_no_exception (take start text) seen
allows rule text start end seen written =
    same_bytes written [] && may_be_left_out rule seen (drop end text)

-- WHAT IS WORN: a rule reads, or copies, what scanning or a slip of the pen left of what it writes
abbrev pub is_worn : Rule → List ℕ → List ℕ → Bool
is_worn Half seen written = is_among (without_white seen) written worn_halves
is_worn Quarter seen written = is_among (without_white seen) written worn_quarters
is_worn Direction seen written = is_among seen written worn_directions
is_worn SectionWord seen written = is_among seen written worn_section_words
is_worn LotWord seen written = is_among seen written worn_lot_words
is_worn (Copied from to) seen written = is_among seen written damages
is_worn Damage seen written = true
is_worn rule seen written = false
