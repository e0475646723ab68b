-- What is left out where it is written elsewhere, or was named before: a section, or a township and range, of
-- which every word is of such a phrase or of a number, and no side is that of a half.
use Rattle.std.specs.Prelude.{◌||◌, ◌&&◌, ℕ, suc, Bool, true, List, [], ◌∷◌, drop, length, not}
use Rattle.twp_rules.specs.Edges.{is_one_of, without_white}
use Rattle.twp_rules.specs.Naming.{begins_word, makes_half, word_of}
use Rattle.twp_rules.specs.Words.{moved_heading_words, moved_section_words, number_words, side_names}
use Rattle.twp_rules.specs.declared.moved.Moved.{Moved}
use Rattle.twp_rules.specs.declared.moved.Moved.TheVariants.{Section, Heading}

-- a word is of such a phrase
abbrev pub is_moved_word : Moved → List ℕ → Bool
is_moved_word Section word = is_one_of word moved_section_words || is_one_of word number_words
is_moved_word Heading word = is_one_of word moved_heading_words || is_one_of word number_words

-- a word may be moved with what is after it
abbrev pub may_be_moved : Moved → List ℕ → List ℕ → Bool
may_be_moved kind word after =
    is_moved_word kind word && not (is_one_of word side_names && makes_half (without_white after))

-- so may the word at a place, if one begins there
abbrev pub is_moved_at : Moved → List ℕ → ℕ → List ℕ → Bool
is_moved_at kind seen at rest =
    not (begins_word seen at) || may_be_moved kind (word_of rest) (drop (length (word_of rest)) rest)

-- and each word from a place on
abbrev pub is_only_of_from : Moved → List ℕ → ℕ → List ℕ → Bool
is_only_of_from kind seen at [] = true
is_only_of_from kind seen at (byte ∷ bytes) =
    is_moved_at kind seen at (byte ∷ bytes) && is_only_of_from kind seen (suc at) bytes

-- ONLY a section, or a township and range, is in a text
abbrev pub is_only_of : Moved → List ℕ → Bool
is_only_of kind seen = is_only_of_from kind seen 0 seen
