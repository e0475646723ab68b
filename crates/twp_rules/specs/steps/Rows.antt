-- Rows of the tables, as the code has them. All rows of a table have as many bytes, filled up with `_` (95).
-- In a row of what is written for a text, `=` (61) is after the text.
use Rattle.std.specs.Prelude.{◌==◌, ◌||◌, ◌&&◌, ◌-◌, ◌/◌, ◌%◌, ◌^◌, ℕ, Bool, true, List, [], ◌∷◌, bit_and}
use Rattle.std.specs.Prelude.{if◌then◌else◌, length, not, slice_index, slice_index_or}
use Rattle.std.specs.Char.{to_ascii_lowercase}
use Rattle.twp_rules.specs.Lists.{after, before}
use Rattle.twp_rules.specs.Tables.{Entry, ◌⇒◌}

-- the bytes without these at the beginning
abbrev pub without : ℕ → List ℕ → List ℕ
without mark [] = []
without mark (byte ∷ bytes) = if byte == mark then without mark bytes else byte ∷ bytes

-- what a row says: this is written for that
abbrev pub entry_of : List ℕ → Entry
entry_of row = before 61 row ⇒ before 95 (after 61 row)

-- a text that others begin with
abbrev pub front_of : List ℕ → List ℕ
front_of row = before 95 row

-- a text that others end with
abbrev pub end_of : List ℕ → List ℕ
end_of row = without 95 row

-- a number has the bit of a byte: the index of the bit is the low five bits of the byte
abbrev pub is_head : ℕ → ℕ → Bool
is_head heads byte = bit_and (heads / 2 ^ (byte % 32)) 1 == 1

-- it has the bits of the first bytes of all rows, or of the mark for those that have none
abbrev pub have_heads : ℕ → ℕ → List (List ℕ) → Bool
have_heads mark heads [] = true
have_heads mark heads (row ∷ rows) = is_head heads (slice_index_or row 0 mark) && have_heads mark heads rows

-- it has the bits of the bytes at an index of the rows' texts, or of the mark for those that are shorter
abbrev pub have_at : ℕ → ℕ → ℕ → List (List ℕ) → Bool
have_at index mark bits [] = true
have_at index mark bits (row ∷ rows) =
    is_head bits (slice_index_or (before mark row) index mark) && have_at index mark bits rows

-- a row has the last byte of a text at its place
abbrev pub has_last : ℕ → List ℕ → List ℕ → Bool
has_last mark row seen =
    (length seen == 0)
    || (slice_index_or row (length seen - 1) mark
    == to_ascii_lowercase (slice_index seen (length seen - 1)))

-- and of those with which texts begin, of which none is empty
abbrev pub have_fronts : ℕ → List (List ℕ) → Bool
have_fronts heads [] = true
have_fronts heads (row ∷ rows) =
    is_head heads (slice_index_or row 0 95) && not (slice_index_or row 0 95 == 95) && have_fronts heads rows

-- and of the last bytes of those with which texts end
abbrev pub have_ends : ℕ → List (List ℕ) → Bool
have_ends ends [] = true
have_ends ends (row ∷ rows) =
    is_head ends (slice_index_or row (length row - 1) 95)
    && not (slice_index_or row (length row - 1) 95 == 95) && have_ends ends rows
