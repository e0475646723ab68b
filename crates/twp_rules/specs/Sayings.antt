-- What a phrase that names no land says of it, by what it begins with, and which words that limit land it may
-- contain: they limit a right, a depth, or a share, and not the land.
use Rattle.std.specs.Prelude.{◌==◌, ◌||◌, ◌&&◌, ℕ, suc, ◌+◌, ◌-◌, Bool, true, false, List, [], ◌∷◌, not}
use Rattle.std.specs.Prelude.{codes, drop, length, nat_le, slice_index, take}
use Rattle.std.specs.Char.{is_ascii_alphabetic, is_ascii_alphanumeric}
use Rattle.twp_rules.specs.Edges.{begins_with_one, byte_before, ends_with_one, is_one_of}
use Rattle.twp_rules.specs.Endings.{depths, estates, interest_fronts, number_fronts, property_fronts}
use Rattle.twp_rules.specs.Endings.{records, reservations, rights, terms, less_ends, title_ends, title_fronts}
use Rattle.twp_rules.specs.Naming.{begins_word, digits_of, names_no_land, word_of}
use Rattle.twp_rules.specs.Words.{acreage_limits, bound_words, claim_words, column_words, depth_limits}
use Rattle.twp_rules.specs.Words.{depth_words}
use Rattle.twp_rules.specs.Words.{lease_limits, measure_words, mineral_words, more_taking_words}
use Rattle.twp_rules.specs.Words.{portion_words, record_limits, reserving_words, share_words, side_names}
use Rattle.twp_rules.specs.Words.{side_words, taking_words}
use Rattle.twp_rules.specs.declared.saying.Saying.{Saying}
use Rattle.twp_rules.specs.declared.saying.Saying.TheVariants.{Remark, Right, Record, Reservation, Term}
use Rattle.twp_rules.specs.declared.saying.Saying.TheVariants.{Depth, Interest, Property, Code, Acreage}

-- a word takes land away, or tells where it ends
abbrev pub limits_land : List ℕ → Bool
limits_land word =
    is_one_of word share_words || is_one_of word side_words || is_one_of word taking_words
    || is_one_of word more_taking_words || is_one_of word portion_words || is_one_of word bound_words
    || is_one_of word measure_words

-- a phrase of a kind may contain such a word
abbrev pub may_contain : Saying → List ℕ → Bool
may_contain Right word =
    is_one_of word share_words || is_one_of word side_words || is_one_of word bound_words
    || is_one_of word measure_words
may_contain Record word = is_one_of word record_limits
may_contain Reservation word = is_one_of word share_words || is_one_of word reserving_words
may_contain Term word = is_one_of word depth_limits
may_contain Depth word = is_one_of word depth_limits
may_contain Interest word = is_one_of word share_words || is_one_of word claim_words
may_contain Property word = is_one_of word lease_limits
may_contain Code word = is_one_of word side_names
may_contain Acreage word = is_one_of word acreage_limits
may_contain _ word = false

-- the S of a possessive is at a place: an apostrophe is before it, and a letter before that
abbrev pub is_possessive : List ℕ → ℕ → Bool
is_possessive seen at =
    (byte_before seen at == 39) && is_ascii_alphabetic (byte_before seen (at - 1))
    && is_one_of (word_of (drop at seen)) (codes "s" ∷ [])

-- a text begins with the letter of a code: a hyphen and five digits or more are after it
abbrev pub begins_code : List ℕ → Bool
begins_code rest = (slice_index rest 1 == 45) && nat_le 5 (length (digits_of (drop 1 (drop 1 rest))))

-- the word at a place begins a title in which no word limits land, or ends one, as in `H.E.` for a homestead
-- entry; or it is the letter of a code
abbrev pub is_of_title : List ℕ → ℕ → Bool
is_of_title seen at =
    begins_with_one (drop at seen) title_fronts || begins_code (drop at seen)
    || ends_with_one (take (at + length (word_of (drop at seen))) seen) title_ends

-- a word begins at a place, after neither a letter nor a digit, isn't the S of a possessive, and is of no
-- such title
abbrev pub begins_whole_word : List ℕ → ℕ → Bool
begins_whole_word seen at =
    is_ascii_alphabetic (slice_index seen at) && not (is_ascii_alphanumeric (byte_before seen at))
    && not (is_possessive seen at || is_of_title seen at)

-- no word from a place on limits land, but for those that the phrase may contain
abbrev pub has_no_limit_from : Saying → List ℕ → ℕ → List ℕ → Bool
has_no_limit_from kind seen at [] = true
has_no_limit_from kind seen at (byte ∷ bytes) =
    (not (begins_whole_word seen at) || not (limits_land (word_of (byte ∷ bytes)))
    || may_contain kind (word_of (byte ∷ bytes)))
    && has_no_limit_from kind seen (suc at) bytes

-- NO LIMIT of land is in a phrase of a kind
abbrev pub has_no_limit : Saying → List ℕ → Bool
has_no_limit kind seen = has_no_limit_from kind seen 0 seen

-- what a phrase of a kind has to mention
abbrev pub is_mentioned : Saying → List ℕ → Bool
is_mentioned Reservation word = is_one_of word mineral_words
is_mentioned Depth word = is_one_of word depth_words
is_mentioned _ word = true

abbrev pub mentions_from : Saying → List ℕ → ℕ → List ℕ → Bool
mentions_from kind seen at [] = false
mentions_from kind seen at (byte ∷ bytes) =
    begins_word seen at && is_mentioned kind (word_of (byte ∷ bytes))
    || mentions_from kind seen (suc at) bytes

-- WHAT A PHRASE SAYS: it names no land, nothing in it limits land, and it mentions what it has to
abbrev pub says : Saying → List ℕ → Bool
says kind seen = names_no_land seen && has_no_limit kind seen && mentions_from kind seen 0 seen

-- A REMARK: text that names no land, and limits none
abbrev pub is_remark : List ℕ → Bool
is_remark seen = names_no_land seen && has_no_limit Remark seen

-- rights, records, and minerals that are kept back
abbrev pub is_said_of_rights : List ℕ → Bool
is_said_of_rights seen =
    begins_with_one seen rights && says Right seen || begins_with_one seen records && says Record seen
    || begins_with_one seen reservations && says Reservation seen

-- terms, and depths
abbrev pub is_said_of_terms : List ℕ → Bool
is_said_of_terms seen =
    begins_with_one seen terms && says Term seen
    || (begins_with_one seen depths || begins_with_one seen estates) && says Depth seen

-- numbers of leases and parcels, interests, and properties
abbrev pub is_said_of_interests : List ℕ → Bool
is_said_of_interests seen =
    begins_with_one seen number_fronts && says Code seen
    || begins_with_one seen interest_fronts && says Interest seen
    || begins_with_one seen property_fronts && says Property seen

-- what is said of land, without naming any
abbrev pub is_said_of_land : List ℕ → Bool
is_said_of_land seen = is_said_of_rights seen || is_said_of_terms seen || is_said_of_interests seen

-- every word from a place on is the name of a column
abbrev pub has_only_columns_from : List ℕ → ℕ → List ℕ → Bool
has_only_columns_from seen at [] = true
has_only_columns_from seen at (byte ∷ bytes) =
    (not (begins_word seen at) || is_one_of (word_of (byte ∷ bytes)) column_words)
    && has_only_columns_from seen (suc at) bytes

-- no limit is in stated acreage, but that it is more or less
abbrev pub is_more_or_less : List ℕ → Bool
is_more_or_less seen = has_no_limit Remark seen || has_no_limit Acreage seen && ends_with_one seen less_ends
