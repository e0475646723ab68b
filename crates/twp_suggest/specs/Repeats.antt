-- Text that is left out because it repeats what is just before it, as in parentheses: a number, a township or
-- range, or land.
use Rattle.std.specs.Prelude.{◌≡◌, ◌==◌, ◌||◌, ◌&&◌, ℕ, suc, ◌+◌, Bool, true, false, List, [], ◌∷◌, ◌++◌}
use Rattle.std.specs.Prelude.{codes, if◌then◌else◌, drop, length, nat_lt, not, slice_index, slice_range, take}
use Rattle.std.specs.Char.{is_ascii_alphabetic, is_ascii_digit, to_ascii_lowercase}
use Rattle.twp_grid.specs.Lands.{Lotting, SamePlaces}
use Rattle.twp_grammar.specs.Tokens.{same_bytes, is_white}
use Rattle.twp_suggest.specs.Descriptions.{AreNamed}
use Rattle.twp_rules.specs.declared.rule.Rule.{Rule}
use Rattle.twp_rules.specs.declared.rule.Rule.TheVariants.{Repeated, Copied, CopiedStep}
use Rattle.twp_rules.specs.declared.rule.Rule.TheVariants.{MovedSection, MovedHeading}
use Rattle.twp_rules.specs.Changes.{Change, changed_from}
use Rattle.twp_rules.specs.Edges.{begins_with, byte_before, ends_with}
use Rattle.twp_rules.specs.Moves.{MayBeMade}
use Rattle.twp_rules.specs.Naming.{digits_of, is_side}
use Rattle.twp_rules.specs.Sayings.{is_remark}

-- a word begins nowhere in a text
abbrev pub is_without : List ℕ → List ℕ → Bool
is_without word [] = true
is_without word (byte ∷ bytes) = not (begins_with (byte ∷ bytes) word) && is_without word bytes

-- where the name of a section ends with which a text begins, as sec. 14: after its number
abbrev pub name_end : List ℕ → ℕ
name_end [] = 0
name_end (byte ∷ bytes) =
    if is_ascii_digit byte then length (digits_of (byte ∷ bytes)) else suc (name_end bytes)

-- the name of the section that begins at a place
abbrev pub section_name : List ℕ → ℕ → List ℕ
section_name text section = take (name_end (drop section text)) (drop section text)

-- only white space, commas, and semicolons
abbrev pub is_mark : ℕ → Bool
is_mark byte = is_white byte || (byte == 44) || (byte == 59)

-- nothing else is in a text
abbrev pub are_marks : List ℕ → Bool
are_marks [] = true
are_marks (byte ∷ bytes) = is_mark byte && are_marks bytes

-- a part may follow, or the last steps of one: a comma, a colon, `and`, `of`, or `the` is before it
abbrev pub is_before_part : List ℕ → Bool
is_before_part front =
    ends_with front (codes ",") || ends_with front (codes ":") || ends_with front (codes "and")
    || ends_with front (codes "of") || ends_with front (codes "the")

-- the section that is named last in a text begins at a place
abbrev pub is_last_section : List ℕ → ℕ → Bool
is_last_section text section =
    begins_with (drop section text) (codes "sec") && is_without (codes "sec") (drop (section + 3) text)

-- parts, or the last steps of one, begin at a place after the name of a section that ends at another
abbrev pub begins_parts : List ℕ → ℕ → ℕ → Bool
begins_parts text name at = (at == name) || nat_lt name at && is_before_part (take at text)

-- the last land of a text: of the section that begins at a place, from another up to a third
abbrev pub is_last_land : List ℕ → ℕ → ℕ → ℕ → Bool
is_last_land text section at end =
    is_last_section text section && begins_parts text (section + name_end (drop section text)) at
    && are_marks (drop end text)

-- a section with parts, as a description of its own
abbrev pub of_section : List ℕ → List ℕ → List ℕ
of_section name parts = name ++ codes ", " ++ parts

-- the land of a section's parts, up to a place, is the last of a text, and these are its places on a plat
pub record IsLastLand (lots : Lotting) (text : List ℕ) (section : ℕ) (places : ℕ → ℕ → ℕ → Bool)
    : Type 0 where
  pub at : ℕ
  pub end : ℕ
  pub last : is_last_land text section at end ≡ true
  pub found : ℕ → ℕ → ℕ → Bool
  pub named : AreNamed lots (of_section (section_name text section) (slice_range text at end)) found
  pub same : SamePlaces found places

-- parts name the same places as the last land before them, in the same section
pub record NameLastLand (lots : Lotting) (before parts : List ℕ) : Type 0 where
  pub section : ℕ
  pub places : ℕ → ℕ → ℕ → Bool
  pub named : AreNamed lots (of_section (section_name before section) parts) places
  pub last : IsLastLand lots before section places

-- a remark, which names no land and limits none, nor anything that is all of a section
abbrev pub says_nothing : List ℕ → Bool
says_nothing seen = is_remark seen && is_without (codes "all") seen

-- a rule replaces what is there: it leaves nothing out because it is elsewhere, and copies nothing
abbrev pub is_in_place : Rule → Bool
is_in_place Repeated = false
is_in_place (Copied from to) = false
is_in_place (CopiedStep from to) = false
is_in_place MovedSection = false
is_in_place MovedHeading = false
is_in_place rule = true

-- so does each change
abbrev pub are_in_place : List Change → Bool
are_in_place [] = true
are_in_place (change ∷ changes) = is_in_place change.rule && are_in_place changes

-- REPEATS THE LAND: rules change some bytes of a phrase, in place, into parts that name the last land before
-- it, and its other bytes name none
pub record SaysLand (lots : Lotting) (before phrase : List ℕ) : Type 0 where
  pub from : ℕ
  pub to : ℕ
  pub nothing_before : says_nothing (take from phrase) ≡ true
  pub nothing_after : says_nothing (drop to phrase) ≡ true
  pub changes : List Change
  pub in_place : are_in_place changes ≡ true
  pub made : MayBeMade (slice_range phrase from to) changes
  pub names : NameLastLand lots before (changed_from 0 (slice_range phrase from to) changes)

-- white space, a period, or a parenthesis
abbrev pub is_loose : ℕ → Bool
is_loose byte = is_white byte || (byte == 46) || (byte == 40) || (byte == 41)

-- a text without them, in lowercase
abbrev pub solid : List ℕ → List ℕ
solid [] = []
solid (byte ∷ bytes) = if is_loose byte then solid bytes else to_ascii_lowercase byte ∷ solid bytes

-- a number
abbrev pub is_number_said : List ℕ → Bool
is_number_said bytes = nat_lt 0 (length bytes) && (length (digits_of bytes) == length bytes)

-- T or R, for a township or a range
abbrev pub is_township_letter : ℕ → Bool
is_township_letter byte = (byte == 116) || (byte == 114)

-- a township or a range: its letter, its number, and the letter of its side, as t2n
abbrev pub is_township_said : List ℕ → Bool
is_township_said bytes =
    is_township_letter (slice_index bytes 0) && nat_lt 0 (length (digits_of (drop 1 bytes)))
    && (length bytes == length (digits_of (drop 1 bytes)) + 2)
    && is_side (slice_index bytes (length (digits_of (drop 1 bytes)) + 1))

-- a number begins only after a byte that is neither a digit nor the slash of a fraction
abbrev pub may_begin_number : ℕ → Bool
may_begin_number byte = not (is_ascii_digit byte) && not (byte == 47)

-- a township or a range, only after one that isn't a letter, either
abbrev pub may_begin_township : ℕ → Bool
may_begin_township byte = may_begin_number byte && not (is_ascii_alphabetic byte)

-- a number, or a township or range, is what a text ends with, from a place on
abbrev pub is_said_from : List ℕ → ℕ → List ℕ → Bool
is_said_from text at bytes =
    (is_number_said bytes && may_begin_number (byte_before text at)
    || is_township_said bytes && may_begin_township (byte_before text at))
    && same_bytes (solid (drop at text)) bytes

-- SAYS A NUMBER AGAIN, or a township or range
pub record SaysNumber (before phrase : List ℕ) : Type 0 where
  pub at : ℕ
  pub is : is_said_from before at (solid phrase) ≡ true

-- what a phrase may say again
pub data SaysAgain (lots : Lotting) (before phrase : List ℕ) : Type 0 where
  number : SaysNumber before phrase → SaysAgain lots before phrase
  land : SaysLand lots before phrase → SaysAgain lots before phrase

-- the rule for what is repeated
abbrev pub is_for_repeated : Rule → Bool
is_for_repeated Repeated = true
is_for_repeated rule = false

-- what is left out by that rule says something again
abbrev pub SaysAgainBy : Lotting → Rule → List ℕ → List ℕ → Type 0
SaysAgainBy lots rule before phrase = is_for_repeated rule ≡ true → SaysAgain lots before phrase

-- some change is by that rule
abbrev pub has_repeated : List Change → Bool
has_repeated [] = false
has_repeated (change ∷ changes) = is_for_repeated change.rule || has_repeated changes

-- REPETITIONS REPEAT what is before them, from a change on, after the changed text so far
abbrev pub AreRepeated : Lotting → List ℕ → List ℕ → ℕ → List Change → Type 0
AreRepeated lots text made at [] = Unit {0}
AreRepeated lots text made at (change ∷ changes) =
    SaysAgainBy lots change.rule (made ++ slice_range text at change.start)
    (slice_range text change.start change.end)
    × AreRepeated lots text ((made ++ slice_range text at change.start) ++ change.written) change.end changes
