-- What is unread of a text: its words that no phrase covers, and that don't join phrases.
use Rattle.std.specs.Prelude.{◌≡◌, ◌==◌, ◌||◌, ◌&&◌, ◌<◌, ◌≤◌, ℕ, suc, Bool, true, false, List, []}
use Rattle.std.specs.Prelude.{◌∷◌, leb, ltb}
use Rattle.std.specs.Prelude.{codes, length, slice_index, slice_range, if◌then◌else◌}
use Rattle.std.specs.List.{Contains}
use Rattle.twp_rules.specs.Edges.{is_one_of}
use Rattle.twp_phrases.specs.declared.stretches.Stretch.{Stretch}

-- the words that only join phrases, and so are read wherever they are; the last five are dashes,
-- quotation marks, and a bullet
abbrev pub connectives : List (List ℕ)
connectives =
    codes "and" ∷ codes "of" ∷ codes "the" ∷ codes "in" ∷ codes "said" ∷ codes "thereof" ∷ codes "also"
    ∷ (226 ∷ 128 ∷ 147 ∷ []) ∷ (226 ∷ 128 ∷ 148 ∷ []) ∷ (226 ∷ 128 ∷ 156 ∷ []) ∷ (226 ∷ 128 ∷ 157 ∷ [])
    ∷ (226 ∷ 128 ∷ 162 ∷ []) ∷ []

-- a byte of a word: a letter, a digit, #, $, %, or part of a character that isn't ASCII
abbrev pub is_of_word : ℕ → Bool
is_of_word byte =
    (leb 48 byte && leb byte 57) || (leb 97 byte && leb byte 122) || (leb 65 byte && leb byte 90)
    || (leb 35 byte && leb byte 37) || leb 128 byte

-- what no run goes past: a line feed; and 0, which stands for a byte of a phrase
abbrev pub is_break : ℕ → Bool
is_break byte = (byte == 0) || (byte == 10)

-- a place lies in a phrase
abbrev pub covers : Stretch → ℕ → Bool
covers phrase at = leb phrase.start at && ltb at phrase.end

-- what is left of a byte at a place: 0 in a phrase
abbrev pub left_at : List Stretch → ℕ → ℕ → ℕ
left_at [] at byte = byte
left_at (phrase ∷ phrases) at byte = left_at phrases at (if covers phrase at then 0 else byte)

-- what phrases leave of a text: a 0 for each byte of a phrase, and each other byte as it is
pub record IsLeft (text : List ℕ) (phrases : List Stretch) (left : List ℕ) : Type 0 where
  pub size : length left ≡ length text
  pub bytes : (at : ℕ) → slice_index left at ≡ left_at phrases at (slice_index text at)

-- a word of what is left: as many bytes of words as there are, one after another
pub record IsWord (left : List ℕ) (start end : ℕ) : Type 0 where
  pub nonempty : start < end
  pub within : end ≤ length left
  pub bytes : (at : ℕ) → start ≤ at → at < end → is_of_word (slice_index left at) ≡ true
  pub begins : (at : ℕ) → suc at ≡ start → is_of_word (slice_index left at) ≡ false
  pub ends : is_of_word (slice_index left end) ≡ false

-- an unread word: one that doesn't join phrases
pub record IsUnreadWord (left : List ℕ) (start end : ℕ) : Type 0 where
  pub word : IsWord left start end
  pub is_unread : is_one_of (slice_range left start end) connectives ≡ false

-- a run: some bytes on one line, none of which lies in a phrase
pub record IsUnreadRun (left : List ℕ) (run : Stretch) : Type 0 where
  pub nonempty : run.start < run.end
  pub unbroken : (at : ℕ) → run.start ≤ at → at < run.end → is_break (slice_index left at) ≡ false

-- runs between two places, from left to right, which don't overlap
abbrev pub AreRunsBetween : List ℕ → ℕ → ℕ → List Stretch → Type 0
AreRunsBetween left from to [] = from ≤ to
AreRunsBetween left from to (run ∷ runs) =
    (from ≤ run.start) × IsUnreadRun left run × AreRunsBetween left run.end to runs

-- bytes within one of the runs
pub record IsWithin (runs : List Stretch) (start end : ℕ) : Type 0 where
  pub run : Stretch
  pub listed : Contains runs run
  pub from : run.start ≤ start
  pub to : end ≤ run.end

-- runs up to a place, with each unread word that begins before it
pub record AreRunsUpTo (left : List ℕ) (to : ℕ) (runs : List Stretch) : Type 0 where
  pub ordered : AreRunsBetween left 0 to runs
  pub complete : (start end : ℕ) → start < to → IsUnreadWord left start end → IsWithin runs start end

-- UNREAD RUNS of a text with some phrases: they lie in the text from left to right, don't overlap, and
-- have bytes; none of their bytes lies in a phrase; and each unread word lies in one of them
pub record AreUnread (text : List ℕ) (phrases runs : List Stretch) : Type 0 where
  pub left : List ℕ
  pub is_left : IsLeft text phrases left
  pub ordered : AreRunsBetween left 0 (length text) runs
  pub complete : (start end : ℕ) → IsUnreadWord left start end → IsWithin runs start end

-- the next word from a place on
pub record IsNextWord (left : List ℕ) (from : ℕ) (word : Stretch) : Type 0 where
  pub after : from ≤ word.start
  pub nonempty : word.start < word.end
  pub within : word.end ≤ length left
  pub none_before : (at : ℕ) → from ≤ at → at < word.start → is_of_word (slice_index left at) ≡ false
  pub bytes : (at : ℕ) → word.start ≤ at → at < word.end → is_of_word (slice_index left at) ≡ true
  pub ends : is_of_word (slice_index left word.end) ≡ false

-- no word from a place on
abbrev pub HasNoWord : List ℕ → ℕ → Type 0
HasNoWord left from = (at : ℕ) → from ≤ at → is_of_word (slice_index left at) ≡ false

-- the unread runs of a text, by the phrases that were found in it
pub record HasUnread (text : List ℕ) (runs : List Stretch) : Type 0 where
  pub phrases : List Stretch
  pub are : AreUnread text phrases runs
