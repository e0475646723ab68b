-- Phrases that somebody says aren't land, such as an office's own labels and remarks: where they are in a
-- text. What is set aside isn't read.
use Rattle.std.specs.Prelude.{◌≡◌, ◌+◌, ◌&&◌, ◌<◌, ◌≤◌, ℕ, Bool, true, false, List, [], ◌∷◌, Option}
use Rattle.std.specs.Prelude.{None, Some, length, nat_le, nat_lt, not, slice_index, slice_range, get_or}
use Rattle.std.specs.List.{find}
use Rattle.std.specs.Char.{is_ascii_alphanumeric}
use Rattle.std.specs.Str.{str_eq_ignore_ascii_case}
use Rattle.twp_rules.specs.Edges.{byte_before}
use Rattle.twp_rules.specs.Sayings.{is_remark}
use Rattle.twp_phrases.specs.declared.stretches.Stretch.{Stretch}

-- a place is within a word: a letter or digit is before it, and one is at it
abbrev pub is_within_word : List ℕ → ℕ → Bool
is_within_word text at =
    is_ascii_alphanumeric (byte_before text at) && is_ascii_alphanumeric (slice_index text at)

-- a phrase is at a place of a text, in letters of either case, and neither of its ends is within a word
abbrev pub is_at : List ℕ → ℕ → List ℕ → Bool
is_at text at phrase =
    nat_lt 0 (length phrase)
    && (nat_le (at + length phrase) (length text)
    && (str_eq_ignore_ascii_case (slice_range text at (at + length phrase)) phrase
    && (not (is_within_word text at) && not (is_within_word text (at + length phrase)))))

-- the first phrase of the list that is at a place
abbrev pub phrase_at : List (List ℕ) → List ℕ → ℕ → Option (List ℕ)
phrase_at phrases text at = find (is_at text at) phrases

-- the next phrase from a place on: it begins at the leftmost place at which there is one, and is the first of
-- the list that is there
pub record IsNextPhrase (phrases : List (List ℕ)) (text : List ℕ) (from : ℕ) (found : Stretch) : Type 0 where
  pub after : from ≤ found.start
  pub leftmost : (at : ℕ) → from ≤ at → at < found.start → phrase_at phrases text at ≡ None
  pub phrase : List ℕ
  pub first : phrase_at phrases text found.start ≡ Some phrase
  pub ends : found.end ≡ found.start + length phrase

-- the phrases from a place on: the next one, and those from its end on; or there is none
abbrev pub AreFrom : List (List ℕ) → List ℕ → ℕ → List Stretch → Type 0
AreFrom phrases text from [] =
    (at : ℕ) → from ≤ at → at < length text → phrase_at phrases text at ≡ None
AreFrom phrases text from (found ∷ more) =
    IsNextPhrase phrases text from found × AreFrom phrases text found.end more

-- WHERE THE PHRASES ARE in a text, from left to right
abbrev pub AreSetAside : List (List ℕ) → List ℕ → List Stretch → Type 0
AreSetAside phrases text found = AreFrom phrases text 0 found

-- the first phrase that can't be set aside, by its index: it names land, or says where land ends or what is
-- taken from it
pub record IsFirstOfLand (phrases : List (List ℕ)) (index : ℕ) : Type 0 where
  pub within : index < length phrases
  pub names : is_remark (get_or phrases index []) ≡ false
  pub first : (other : ℕ) → other < index → is_remark (get_or phrases other []) ≡ true

-- each phrase can be set aside
abbrev pub AreRemarks : List (List ℕ) → Type 0
AreRemarks phrases = (index : ℕ) → index < length phrases
    → is_remark (get_or phrases index []) ≡ true
