-- What changes keep of numbers, one after another: a number that is copied is whole, and is that of a section
-- only if the text says so; and a township and range are copied with their sides.
use Rattle.std.specs.Prelude.{◌==◌, ◌||◌, ◌&&◌, ℕ, ◌+◌, ◌-◌, Bool, true, false, List, [], ◌∷◌}
use Rattle.std.specs.Prelude.{if◌then◌else◌, codes, drop, length, nat_le, nat_lt, not, slice_index}
use Rattle.std.specs.Char.{is_ascii_alphabetic, is_ascii_digit}
use Rattle.twp_grammar.specs.Tokens.{same_bytes}
use Rattle.twp_rules.specs.declared.role.NumberRole.{NumberRole}
use Rattle.twp_rules.specs.declared.role.NumberRole.TheVariants.{Nothing, Section, Tier, Range}
use Rattle.twp_rules.specs.declared.rule.Rule.{Rule}
use Rattle.twp_rules.specs.declared.rule.Rule.TheVariants.{Copied, SectionWord, Heading, Comma}
use Rattle.twp_rules.specs.Changes.{Change}
use Rattle.twp_rules.specs.Edges.{byte_before, is_one_of, without_white}
use Rattle.twp_rules.specs.Naming.{digits_of, word_of}
use Rattle.twp_rules.specs.Roles.{begins_whole, ends_whole, is_said_section, without_location_marks}
use Rattle.twp_rules.specs.Rules.{is_fraction_digit}
use Rattle.twp_rules.specs.Words.{damaged_digits, east_words, north_words, south_words, west_words}

-- nothing is left out
abbrev pub leaves_nothing_out : Change → Bool
leaves_nothing_out change = change.start == change.end

-- what a number is that is copied after a change
abbrev pub role_by : NumberRole → Rule → Bool → List ℕ → NumberRole
role_by role SectionWord inserts written = if inserts then Section else Nothing
role_by role Heading inserts written =
    if same_bytes written (codes "T. ") then Tier
    else (if same_bytes written (codes " N., R. ") || same_bytes written (codes " S., R. ") then Range
    else Nothing)
role_by role (Copied from to) inserts written = role
role_by role Comma inserts written = if inserts then role else Nothing
role_by role rule inserts written = Nothing

abbrev pub role_after : NumberRole → Change → NumberRole
role_after role change = role_by role change.rule (leaves_nothing_out change) change.written

-- where the last number that was copied ends in the text
abbrev pub copied_by : ℕ → Rule → ℕ
copied_by copied (Copied from to) = to
copied_by copied rule = copied

-- a change copies what begins at a place
abbrev pub copies_from : ℕ → Rule → Bool
copies_from place (Copied from to) = from == place
copies_from place rule = false

abbrev pub next_copies_from : ℕ → List Change → Bool
next_copies_from place [] = false
next_copies_from place (change ∷ changes) = copies_from place change.rule

-- a change copies a number at a place
abbrev pub copies_at : ℕ → ℕ → Rule → Bool
copies_at place start (Copied from to) = start == place
copies_at place start rule = false

abbrev pub next_copies_at : ℕ → List Change → Bool
next_copies_at place [] = false
next_copies_at place (change ∷ changes) = copies_at place change.start change.rule

-- a letter that scanning made of a digit is after another digit
abbrev pub is_damaged_digit : List ℕ → ℕ → Bool
is_damaged_digit text at =
    is_one_of (slice_index text at ∷ []) damaged_digits && is_ascii_digit (byte_before text at)
    && not (is_ascii_alphabetic (slice_index text (at + 1)))

-- a text without parentheses with which it begins
abbrev pub after_parenthesis : List ℕ → List ℕ
after_parenthesis [] = []
after_parenthesis (byte ∷ bytes) = if byte == 41 then bytes else after_parenthesis bytes

abbrev pub without_parentheses : List ℕ → List ℕ
without_parentheses rest =
    if slice_index rest 0 == 40 then without_location_marks (after_parenthesis rest) else rest

-- the text after a place, without a fraction digit there
abbrev pub after_fraction_digit : List ℕ → ℕ → List ℕ
after_fraction_digit text at =
    if nat_lt at (length text) && is_fraction_digit text at (at + 1) then drop (at + 1) text else drop at text

-- the side of a township or a range, after its number
abbrev pub side_after : List ℕ → ℕ → List ℕ
side_after text at =
    word_of (without_parentheses (without_location_marks (after_fraction_digit text at)))

-- a township and range are written with their sides
abbrev pub has_its_side : List ℕ → NumberRole → ℕ → List ℕ → Bool
has_its_side text Tier copied written =
    same_bytes written (codes " N., R. ") && is_one_of (side_after text copied) north_words
    || same_bytes written (codes " S., R. ") && is_one_of (side_after text copied) south_words
has_its_side text Range copied written =
    same_bytes written (codes " E., ") && is_one_of (side_after text copied) east_words
    || same_bytes written (codes " W., ") && is_one_of (side_after text copied) west_words
has_its_side text role copied written = true

-- a text without the zeros before it
abbrev pub without_zeros : List ℕ → List ℕ
without_zeros [] = []
without_zeros (byte ∷ bytes) = if byte == 48 then without_zeros bytes else byte ∷ bytes

-- the text says that the number at a place, after white space and zeros, is that of a section
abbrev pub is_said_here : List ℕ → List ℕ → Bool
is_said_here text rest =
    is_said_section text (length text - length rest) (length text - length rest + length (digits_of rest))

abbrev pub is_said_at : List ℕ → ℕ → Bool
is_said_at text at = is_said_here text (without_zeros (without_white (drop at text)))

-- a number that is copied is not that of a section, or the text says that it is
abbrev pub is_said_if_section : List ℕ → NumberRole → ℕ → ℕ → Bool
is_said_if_section text Section from to = is_said_section text from to
is_said_if_section text Nothing from to = false
is_said_if_section text role from to = true

-- a number that is copied begins where no other digit is before it but zeros, or where the one copied before
-- it ends
abbrev pub begins_whole_copy : List ℕ → ℕ → ℕ → Bool
begins_whole_copy text copied from = (from == copied) || begins_whole text from

-- it ends where no other digit is after it but a fraction digit, or the digit that is copied next
abbrev pub ends_whole_copy : List ℕ → ℕ → List Change → Bool
ends_whole_copy text to changes =
    next_copies_from to changes || ends_whole text to && not (is_damaged_digit text to)

-- it is whole, and the text says that it is that of a section, if it is copied as one
abbrev pub fits_copy : List ℕ → NumberRole → ℕ → ℕ → ℕ → List Change → Bool
fits_copy text role copied from to changes =
    begins_whole_copy text copied from && ends_whole_copy text to changes
    && is_said_if_section text role from to

-- a number is copied after what was written before it, from bytes of the text
abbrev pub is_copy : List ℕ → ℕ → ℕ → ℕ → ℕ → Bool
is_copy text place start from to = (start == place) && nat_le from to && nat_le to (length text)

-- what a change writes of numbers fits what was written before it
abbrev pub fits_by : List ℕ → NumberRole → ℕ → ℕ → Change → List Change → Rule → Bool
fits_by text role place copied change changes (Copied from to) =
    is_copy text place change.start from to && fits_copy text role copied from to changes
fits_by text role place copied change changes Heading =
    not (leaves_nothing_out change) || not (change.start == place)
    || has_its_side text role copied change.written
fits_by text role place copied change changes SectionWord =
    not (leaves_nothing_out change) || next_copies_at change.start changes || is_said_at text change.start
fits_by text role place copied change changes rule = true

-- NUMBERS ARE KEPT, from a change on: each that is copied is whole, and is what the text says that it is
abbrev pub keep_numbers : List ℕ → NumberRole → ℕ → ℕ → List Change → Bool
keep_numbers text role place copied [] = true
keep_numbers text role place copied (change ∷ changes) =
    fits_by text role place copied change changes change.rule
    && keep_numbers text (role_after role change) change.end (copied_by copied change.rule) changes
