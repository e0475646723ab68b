-- Laws of plain tables.
use Rattle.std.specs.Prelude.{◌≡◌, ℕ, true, List, [], ◌∷◌, ◌++◌}
use Rattle.std.specs.List.{filter}
use Rattle.twp_plat.specs.PlainTables.{IsPlainTable, after_byte_order_mark, is_line, is_line_end}
use Rattle.twp_plat.specs.PlainTables.{trimmed, with_acres, row_text}

-- a text has only one plain table
abbrev pub OnePlainTable : Type 0
OnePlainTable = (text plain other : List ℕ) → IsPlainTable text plain → IsPlainTable text other
    → plain ≡ other

-- a row as a lot table has it: no empty cell at the end, no number without two decimals in the third
-- cell, commas between the cells, and no cell quoted without need
pub record IsPlainRow (line : List ℕ) : Type 0 where
  pub cells : List (List ℕ)
  pub trimmed_is : trimmed cells ≡ cells
  pub acres_are : with_acres cells ≡ cells
  pub line_is : line ≡ row_text cells

-- text before a line is empty or ends in a line end, and text after a line is empty or begins with one
pub data IsBeforeLine (text : List ℕ) : Type 0 where
  none : text ≡ [] → IsBeforeLine text
  lines : (front : List ℕ) → (byte : ℕ) → is_line_end byte ≡ true → text ≡ front ++ byte ∷ []
      → IsBeforeLine text

pub data IsAfterLine (text : List ℕ) : Type 0 where
  none_more : text ≡ [] → IsAfterLine text
  more_lines : (byte : ℕ) → (rest : List ℕ) → is_line_end byte ≡ true → text ≡ byte ∷ rest
      → IsAfterLine text

-- one of the lines of a text
pub record IsLineOfText (text line : List ℕ) : Type 0 where
  pub before : List ℕ
  pub after : List ℕ
  pub text_is : text ≡ before ++ line ++ after
  pub is : is_line line ≡ true
  pub starts : IsBeforeLine before
  pub stops : IsAfterLine after

-- a text whose lines are all plain rows is its own plain table
abbrev pub PlainTablesStay : Type 0
PlainTablesStay = (text : List ℕ)
    → ((line : List ℕ) → IsLineOfText (after_byte_order_mark text) line → IsPlainRow line)
    → IsPlainTable text text

-- the plain table of a plain table is that plain table
abbrev pub PlainOfPlain : Type 0
PlainOfPlain = (text plain : List ℕ) → IsPlainTable text plain → IsPlainTable plain plain

-- the line ends of a text, in order
abbrev pub line_ends : List ℕ → List ℕ
line_ends text = filter is_line_end text

abbrev pub LineEndsStay : Type 0
LineEndsStay = (text plain : List ℕ) → IsPlainTable text plain → line_ends plain ≡ line_ends text
