-- A lot table as a spreadsheet saves it, and the plain table that it stands for. A spreadsheet saves
-- a rectangle: short rows end in empty cells, and 40.50 may be 40.5. The separator may be a comma, a
-- semicolon, or a tab. Each line of the text becomes one line of the plain table, so the lines keep
-- their numbers. The rules are this project's; no cell is moved, merged, or split, and no number is
-- changed.
use Rattle.std.specs.Prelude.{◌≡◌, ◌==◌, ◌&&◌, ◌||◌, ℕ, ◌-◌, ◌≤◌, Bool, true, false, not, List, []}
use Rattle.std.specs.Prelude.{◌∷◌, ◌++◌, length, take, drop, slice_index, codes, if◌then◌else◌}
use Rattle.std.specs.Char.{is_ascii_digit}
use Rattle.std.specs.List.{flat_map, list_all, list_any, position_or_len}

-- The bytes: what may separate cells, what quotes them, and what ends a line. A carriage return and a
-- line feed end a line each, so there is an empty line between the two.
abbrev pub comma : ℕ
comma = 44

abbrev pub semicolon : ℕ
semicolon = 59

abbrev pub tab : ℕ
tab = 9

abbrev pub quotation_mark : ℕ
quotation_mark = 34

abbrev pub decimal_point : ℕ
decimal_point = 46

abbrev pub is_separator : ℕ → Bool
is_separator byte = (byte == comma) || (byte == semicolon) || (byte == tab)

abbrev pub is_line_end : ℕ → Bool
is_line_end byte = (byte == 10) || (byte == 13)

-- the text begins with a byte order mark
abbrev pub has_byte_order_mark : List ℕ → Bool
has_byte_order_mark text =
    (slice_index text 0 == 239) && (slice_index text 1 == 187) && (slice_index text 2 == 191)

-- a byte order mark, or nothing
abbrev pub byte_order_mark_of : List ℕ → List ℕ
byte_order_mark_of text = if has_byte_order_mark text then take 3 text else []

abbrev pub after_byte_order_mark : List ℕ → List ℕ
after_byte_order_mark text = if has_byte_order_mark text then drop 3 text else text

-- the bytes of a cell within quotation marks: each quotation mark twice
abbrev pub with_quotes_doubled : List ℕ → List ℕ
with_quotes_doubled cell =
    flat_map (λ byte. if byte == quotation_mark then byte ∷ byte ∷ [] else byte ∷ []) cell

abbrev pub quoted : List ℕ → List ℕ
quoted cell = quotation_mark ∷ with_quotes_doubled cell ++ quotation_mark ∷ []

-- the text has neither this separator nor a quotation mark
abbrev pub is_bare : ℕ → List ℕ → Bool
is_bare separator text = not (list_any (λ byte. (byte == separator) || (byte == quotation_mark)) text)

-- the text is this cell: without quotation marks, or within them
pub data IsCell (separator : ℕ) (cell text : List ℕ) : Type 0 where
  bare : is_bare separator text ≡ true → cell ≡ text → IsCell separator cell text
  within_quotes : text ≡ quoted cell → IsCell separator cell text

-- the line is a row of these cells: the first cell and, if there are more, a separator and a row of
-- the others
abbrev pub IsRow : ℕ → List (List ℕ) → List ℕ → Type 0
IsRow separator [] line = ⊥
IsRow separator (cell ∷ []) line = IsCell separator cell line
IsRow separator (cell ∷ next ∷ more) line = (text : List ℕ) × (rest : List ℕ)
    × IsCell separator cell text × (line ≡ text ++ separator ∷ rest)
    × IsRow separator (next ∷ more) rest

-- the quotation marks of the line don't pair: it is no row of cells
abbrev pub IsNoRow : ℕ → List ℕ → Type 0
IsNoRow separator line = (cells : List (List ℕ)) → ¬ IsRow separator cells line

-- the line is a row of two or more cells
abbrev pub IsSeparated : ℕ → List ℕ → Type 0
IsSeparated separator line =
    (cells : List (List ℕ)) × IsRow separator cells line × (2 ≤ length cells)

-- the separator of a text, by its first line: a comma if the line is separated by commas, or else by
-- nothing; otherwise a semicolon, or else a tab
pub data IsSeparatorOf (line : List ℕ) (separator : ℕ) : Type 0 where
  commas : IsSeparated comma line → separator ≡ comma → IsSeparatorOf line separator
  semicolons : ¬ IsSeparated comma line → IsSeparated semicolon line → separator ≡ semicolon
      → IsSeparatorOf line separator
  tabs : ¬ IsSeparated comma line → ¬ IsSeparated semicolon line → IsSeparated tab line
      → separator ≡ tab → IsSeparatorOf line separator
  nothing : ¬ IsSeparated comma line → ¬ IsSeparated semicolon line → ¬ IsSeparated tab line
      → separator ≡ comma → IsSeparatorOf line separator

-- a cell before the others: an empty one is left out if there are no others
abbrev pub before_empty : List ℕ → List (List ℕ) → List (List ℕ)
before_empty [] [] = []
before_empty [] (next ∷ more) = [] ∷ next ∷ more
before_empty (byte ∷ bytes) cells = (byte ∷ bytes) ∷ cells

-- the cells without the empty ones at the end
abbrev pub trimmed : List (List ℕ) → List (List ℕ)
trimmed [] = []
trimmed (cell ∷ cells) = before_empty cell (trimmed cells)

-- one or more digits
abbrev pub is_digits : List ℕ → Bool
is_digits text = not (length text == 0) && list_all is_ascii_digit text

-- digits, a decimal point, and one digit
abbrev pub has_one_decimal : List ℕ → Bool
has_one_decimal text =
    is_digits (take (length text - 2) text)
    && (slice_index text (length text - 2) == decimal_point)
    && is_ascii_digit (slice_index text (length text - 1))

-- a number with one decimal, or with none, gets two: 40 is 40.00, and 40.5 is 40.50
abbrev pub with_two_decimals : List ℕ → List ℕ
with_two_decimals cell =
    if is_digits cell then cell ++ codes ".00"
    else if has_one_decimal cell then cell ++ codes "0"
    else cell

-- the third cell of a row is acres
abbrev pub with_acres : List (List ℕ) → List (List ℕ)
with_acres [] = []
with_acres (section ∷ []) = section ∷ []
with_acres (section ∷ lot ∷ []) = section ∷ lot ∷ []
with_acres (section ∷ lot ∷ acres ∷ more) = section ∷ lot ∷ with_two_decimals acres ∷ more

-- the byte may separate or quote cells
abbrev pub is_mark : ℕ → Bool
is_mark byte = is_separator byte || (byte == quotation_mark)

-- A cell is quoted only if it has a byte that may separate or quote cells, or if it begins with a byte
-- order mark, which might be taken for that of the text.
abbrev pub needs_quotes : List ℕ → Bool
needs_quotes cell = has_byte_order_mark cell || list_any is_mark cell

abbrev pub cell_text : List ℕ → List ℕ
cell_text cell = if needs_quotes cell then quoted cell else cell

-- the cells, with commas between them
abbrev pub row_text : List (List ℕ) → List ℕ
row_text [] = []
row_text (first ∷ more) = cell_text first ++ flat_map (λ cell. comma ∷ cell_text cell) more

-- a row of the plain table
abbrev pub plain_row : List (List ℕ) → List ℕ
plain_row cells = row_text (with_acres (trimmed cells))

-- Whether quotation marks are open after these bytes. A line break within a quoted cell does not end
-- its row.
abbrev pub unclosed_after : Bool → List ℕ → Bool
unclosed_after unclosed [] = unclosed
unclosed_after unclosed (byte ∷ bytes) =
    unclosed_after (if byte == quotation_mark then not unclosed else unclosed) bytes

-- The plain line of a line before which quotation marks are open or not. A line that the separator
-- does not make a row is read with commas, as in a lot table. If it is no row then, or begins or ends
-- within a quoted cell, it stays as it is.
pub data IsPlainLine (separator : ℕ) (unclosed : Bool) (line plain : List ℕ) : Type 0 where
  row : unclosed ≡ false → (cells : List (List ℕ)) → IsRow separator cells line
      → plain ≡ plain_row cells → IsPlainLine separator unclosed line plain
  row_by_commas : unclosed ≡ false → IsNoRow separator line
      → (cells : List (List ℕ)) → IsRow comma cells line → plain ≡ plain_row cells
      → IsPlainLine separator unclosed line plain
  no_row : unclosed ≡ false → IsNoRow separator line → IsNoRow comma line → plain ≡ line
      → IsPlainLine separator unclosed line plain
  within_a_cell : unclosed ≡ true → plain ≡ line → IsPlainLine separator unclosed line plain

-- a text without line ends
abbrev pub is_line : List ℕ → Bool
is_line text = not (list_any is_line_end text)

-- the lines of a text become plain, one after another, and the line ends stay
pub data ArePlainLines (separator : ℕ) : Bool → List ℕ → List ℕ → Type 0 where
  last_line : (unclosed : Bool) → (line plain : List ℕ) → is_line line ≡ true
      → IsPlainLine separator unclosed line plain → ArePlainLines separator unclosed line plain
  next_line : (unclosed : Bool) → (text made line plain : List ℕ) → (line_end : ℕ)
      → (rest rest_made : List ℕ)
      → is_line line ≡ true → is_line_end line_end ≡ true → IsPlainLine separator unclosed line plain
      → ArePlainLines separator (unclosed_after unclosed line) rest rest_made
      → text ≡ line ++ line_end ∷ rest → made ≡ plain ++ line_end ∷ rest_made
      → ArePlainLines separator unclosed text made

-- the bytes before the first line end
abbrev pub first_line : List ℕ → List ℕ
first_line text = take (position_or_len is_line_end text) text

-- the plain table of a text
pub record IsPlainTable (text plain : List ℕ) : Type 0 where
  pub separator : ℕ
  pub separates : IsSeparatorOf (first_line (after_byte_order_mark text)) separator
  pub made : List ℕ
  pub lines : ArePlainLines separator false (after_byte_order_mark text) made
  pub plain_is : plain ≡ byte_order_mark_of text ++ made
