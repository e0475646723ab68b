-- The line and the column of a byte in a text, both counted from 1.
use Rattle.std.specs.Prelude.{ℕ, zero, suc, ◌+◌, ◌-◌, ◌==◌, ◌||◌, Bool, not, Option, Some, None, List, []}
use Rattle.std.specs.Prelude.{◌∷◌, length, take, drop, reverse, count_by}
use Rattle.std.specs.List.{prefix_len}
use Rattle.bstr.specs.Utf8.{decoded}

-- the byte is a line feed
abbrev pub is_feed : ℕ → Bool
is_feed byte = byte == 10

-- the byte is white space: a space, a tab, a line feed, or a carriage return
abbrev pub is_white : ℕ → Bool
is_white byte = (byte == 32) || (byte == 9) || (byte == 10) || (byte == 13)

-- how many bytes the first character takes, or 1 if the bytes do not begin with a character
abbrev pub size_in : Option ℕ → ℕ → ℕ
size_in (Some code) size = size
size_in None size = 1

abbrev pub first_size : List ℕ → ℕ
first_size bytes = size_in (decoded bytes).char (decoded bytes).size

-- the columns of some bytes: one for each UTF-8 character, and one for each byte that belongs to
-- none; the fuel is at least the number of bytes
unfoldable pub columns_within : ℕ → List ℕ → ℕ
columns_within zero bytes = 0
columns_within (suc fuel) [] = 0
columns_within (suc fuel) (byte ∷ rest) =
    1 + columns_within fuel (drop (first_size (byte ∷ rest)) (byte ∷ rest))

abbrev pub columns : List ℕ → ℕ
columns bytes = columns_within (length bytes) bytes

-- the line of a place: each line feed before the place begins a new line
abbrev pub line_of : List ℕ → ℕ → ℕ
line_of text at = 1 + count_by is_feed (take at text)

-- where the line of a place begins: after the last line feed before the place
abbrev pub line_start : List ℕ → ℕ → ℕ
line_start text at = at - prefix_len (λ byte. not (is_feed byte)) (reverse (take at text))

-- the column of a place: one more than the columns between the start of its line and the place
abbrev pub column_of : List ℕ → ℕ → ℕ
column_of text at = 1 + columns (drop (line_start text at) (take at text))

-- the index after the last byte that is not white space, or 0 if there is no such byte
abbrev pub end_of : List ℕ → ℕ
end_of text = length text - prefix_len is_white (reverse text)
