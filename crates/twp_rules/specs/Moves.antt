-- What is left out where it is written elsewhere: each number of a section, a township, or a range that is
-- left out is copied to where it belongs, or is that of the section, or of the township and range, named
-- last.
use Rattle.std.specs.Prelude.{◌≡◌, ◌==◌, ◌||◌, ◌&&◌, ℕ, suc, ◌+◌, ◌-◌, ◌*◌, Bool, true, false, List, [], ◌∷◌}
use Rattle.std.specs.Prelude.{if◌then◌else◌, codes, drop, length, nat_le, nat_lt, not, slice_index}
use Rattle.std.specs.Prelude.{slice_range, take}
use Rattle.std.specs.Char.{is_ascii_alphabetic, is_ascii_digit, to_ascii_lowercase}
use Rattle.twp_rules.specs.declared.named.Named.{Named}
use Rattle.twp_rules.specs.declared.role.NumberRole.{NumberRole}
use Rattle.twp_rules.specs.declared.role.NumberRole.TheVariants.{Nothing, Section, Tier, Range}
use Rattle.twp_rules.specs.declared.rule.Rule.{Rule}
use Rattle.twp_rules.specs.declared.rule.Rule.TheVariants.{Copied, MovedSection, MovedHeading}
use Rattle.twp_rules.specs.Changes.{AreChangesFrom, Change}
use Rattle.twp_rules.specs.Edges.{begins_with_one, byte_before, is_one_of}
use Rattle.twp_rules.specs.Lists.{words}
use Rattle.twp_rules.specs.Apart.{first_seam, keep_apart}
use Rattle.twp_rules.specs.Keeping.{keep_numbers, side_after, without_zeros}
use Rattle.twp_rules.specs.Naming.{begins_word, digits_of, word_of}
use Rattle.twp_rules.specs.Roles.{is_north_south_word}
use Rattle.twp_rules.specs.Rules.{is_fraction_digit}
use Rattle.twp_rules.specs.Words.{list_words, numeral_words, section_names, tier_words, range_words}

-- a number with one more digit, of at most four
abbrev pub grown : ℕ → ℕ → ℕ
grown value digit = if nat_lt value 1000 then value * 10 + (digit - 48) else value

-- the number of digits, after others
abbrev pub value_from : ℕ → List ℕ → ℕ
value_from value [] = value
value_from value (digit ∷ digits) = value_from (grown value digit) digits

-- what a number is that follows a word
abbrev pub role_named_by : NumberRole → List ℕ → NumberRole
role_named_by next word =
    if is_one_of word section_names then Section
    else (if is_one_of word tier_words then Tier
    else (if is_one_of word range_words then Range
    else (if is_one_of word list_words then next else Nothing)))

-- the number that is named last after a digit, if it is one of these
abbrev pub named_by : NumberRole → NumberRole → ℕ → ℕ → ℕ → ℕ
named_by Section Section value before digit = if is_ascii_digit before then grown value digit else digit - 48
named_by Tier Tier value before digit = if is_ascii_digit before then grown value digit else digit - 48
named_by Range Range value before digit = if is_ascii_digit before then grown value digit else digit - 48
named_by wanted next value before digit = value

-- the side that is named last after a word
abbrev pub side_by : NumberRole → NumberRole → ℕ → ℕ → ℕ
side_by Tier Tier side byte = to_ascii_lowercase byte
side_by Range Range side byte = to_ascii_lowercase byte
side_by wanted next side byte = side

-- what is named after a byte
abbrev pub named_with : Named → List ℕ → Named
named_with it rest =
    if is_ascii_digit (slice_index rest 0)
    then record {
      next = it.next;
      section = named_by Section it.next it.section it.before (slice_index rest 0);
      tier = named_by Tier it.next it.tier it.before (slice_index rest 0);
      tier_side = it.tier_side;
      range = named_by Range it.next it.range it.before (slice_index rest 0);
      range_side = it.range_side;
      before = slice_index rest 0;
    }
    else (if is_ascii_alphabetic (slice_index rest 0) && not (is_ascii_alphabetic it.before)
    then record {
      next = role_named_by it.next (word_of rest);
      section = it.section;
      tier = it.tier;
      tier_side = side_by Tier it.next it.tier_side (slice_index rest 0);
      range = it.range;
      range_side = side_by Range it.next it.range_side (slice_index rest 0);
      before = slice_index rest 0;
    }
    else record {
      next = it.next;
      section = it.section;
      tier = it.tier;
      tier_side = it.tier_side;
      range = it.range;
      range_side = it.range_side;
      before = slice_index rest 0;
    })

-- and after more bytes
abbrev pub named_after : Named → List ℕ → Named
named_after it [] = it
named_after it (byte ∷ bytes) = named_after (named_with it (byte ∷ bytes)) bytes

-- nothing is named yet
abbrev pub nothing_named : Named
nothing_named =
    record { next = Nothing; section = 0; tier = 0; tier_side = 0; range = 0; range_side = 0; before = 0 }

-- a digit begins a number: no digit is before it, or what is left out begins there; and it is not the 0 that
-- a register has before a section, or the damaged letter of a word for a section
abbrev pub is_digit_at : List ℕ → ℕ → ℕ → Bool
is_digit_at text start at =
    is_ascii_digit (slice_index text at) && (not (is_ascii_digit (byte_before text at)) || (at == start))
    && not (begins_with_one (drop at text) (words (codes "0sn 5ec 8ec")))

-- a number begins at a place: with a digit, or with the word for it
abbrev pub is_number_at : List ℕ → ℕ → ℕ → Bool
is_number_at text start at =
    is_digit_at text start at || begins_word text at && is_one_of (word_of (drop at text)) numeral_words

-- the digits of a number at a place, without zeros before them and without a fraction digit
abbrev pub digits_alone : List ℕ → ℕ → List ℕ → List ℕ
digits_alone text at digits =
    without_zeros (if is_fraction_digit text (at + length digits - 1) (at + length digits)
    then take (length digits - 1) digits else digits)

-- those of the number at a place
abbrev pub number_at : List ℕ → ℕ → List ℕ
number_at text at = digits_alone text at (digits_of (drop at text))

-- where a number ends, also in parentheses
abbrev pub end_of_number : List ℕ → ℕ → ℕ
end_of_number text at =
    if slice_index text (at + length (digits_of (drop at text))) == 41
    then at + length (digits_of (drop at text)) + 1
    else at + length (digits_of (drop at text))

-- a change copies the byte at a place
abbrev pub copies_place : ℕ → Rule → Bool
copies_place at (Copied from to) = nat_le from at && nat_lt at to
copies_place at rule = false

-- some change does
abbrev pub is_copied_by : List Change → ℕ → Bool
is_copied_by [] at = false
is_copied_by (change ∷ changes) at = copies_place at change.rule || is_copied_by changes at

-- the place of the first digit of a number that isn't 0, or of its first 0 if it has no other digit, or of
-- the word for it
abbrev pub first_place : List ℕ → ℕ → ℕ
first_place text at =
    if is_ascii_digit (slice_index text at) && is_ascii_digit (slice_index (without_zeros (drop at text)) 0)
    then length text - length (without_zeros (drop at text)) else at

-- a number and the first letter of its side are those that were named last
abbrev pub is_same_number : ℕ → ℕ → List ℕ → ℕ → Bool
is_same_number value last side letter =
    (value == last) && (to_ascii_lowercase (slice_index side 0) == letter)

-- the number at a place is that of the section named last, or of the township or range with its side
abbrev pub is_named_last : List ℕ → NumberRole → Named → ℕ → Bool
is_named_last text Section it at = value_from 0 (number_at text at) == it.section
is_named_last text Tier it at =
    if is_north_south_word (side_after text (end_of_number text at))
    then is_same_number (value_from 0 (number_at text at)) it.tier (side_after text (end_of_number text at))
    it.tier_side
    else is_same_number (value_from 0 (number_at text at)) it.range (side_after text (end_of_number text at))
    it.range_side
is_named_last text role it at = false

-- so is the number at a place, if one begins there, or it is copied
abbrev pub is_written_at : List ℕ → List Change → NumberRole → Named → ℕ → ℕ → Bool
is_written_at text changes role it start at =
    not (is_number_at text start at)
    || is_ascii_digit (slice_index text at) && is_named_last text role it at
    || is_copied_by changes (first_place text at)

-- and each number of what is left out, from a place on
abbrev pub are_written_from : List ℕ → List Change → NumberRole → Named → ℕ → ℕ → List ℕ → Bool
are_written_from text changes role it start at [] = true
are_written_from text changes role it start at (byte ∷ bytes) =
    is_written_at text changes role it start at && are_written_from text changes role it start (suc at) bytes

-- what is left out by a rule is written elsewhere
abbrev pub is_written_by : List ℕ → List Change → Named → ℕ → List ℕ → Rule → Bool
is_written_by text changes it start seen MovedSection =
    are_written_from text changes Section it start start seen
is_written_by text changes it start seen MovedHeading = are_written_from text changes Tier it start start seen
is_written_by text changes it start seen rule = true

-- WHAT IS MOVED IS WRITTEN, from a change on
abbrev pub keep_moved : List ℕ → List Change → ℕ → Named → List Change → Bool
keep_moved text all at it [] = true
keep_moved text all at it (change ∷ changes) =
    is_written_by text all (named_after it (slice_range text at change.start)) change.start
    (slice_range text change.start change.end) change.rule
    && keep_moved text all change.end
    (named_after (named_after it (slice_range text at change.start)) change.written) changes

-- CHANGES OF A TEXT that may be made: each is allowed by its rule, numbers are kept, parts are kept apart,
-- and what is moved is written
pub record MayBeMade (text : List ℕ) (changes : List Change) : Type 0 where
  pub allowed : AreChangesFrom 0 text changes
  pub numbers : keep_numbers text Nothing 0 0 changes ≡ true
  pub apart : keep_apart text 0 first_seam changes ≡ true
  pub moved : keep_moved text changes 0 nothing_named changes ≡ true
