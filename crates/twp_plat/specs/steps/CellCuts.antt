-- The cells of a line, read byte by byte, and the plain line as a function.
use Rattle.std.specs.Prelude.{◌==◌, ℕ, Bool, false, List, [], ◌∷◌, ◌++◌, Option, Some, None}
use Rattle.std.specs.Prelude.{if◌then◌else◌, length, nat_le}
use Rattle.twp_plat.specs.PlainTables.{comma, semicolon, tab, quotation_mark, is_line_end, plain_row}
use Rattle.twp_plat.specs.PlainTables.{unclosed_after, first_line, byte_order_mark_of, after_byte_order_mark}
use Rattle.twp_plat.specs.declared.lots.sheet.cells.CellPlace.{CellPlace}
use Rattle.twp_plat.specs.declared.lots.sheet.cells.CellPlace.TheVariants as at
use Rattle.twp_plat.specs.declared.lots.sheet.cells.Effect.{Effect}
use Rattle.twp_plat.specs.declared.lots.sheet.cells.Effect.TheVariants as does

-- a byte that is not a quotation mark, outside of quotation marks: it ends the cell, or joins it
abbrev pub bare_effect : Bool → Effect
bare_effect ends = if ends then does.EndsCell else does.Joins at.Bare

-- what a byte does to the cell at hand if it is a quotation mark, if it is the separator, and otherwise
abbrev pub effect_by : CellPlace → Bool → Bool → Effect
effect_by at.Start quotes ends = if quotes then does.Opens at.Quoted else bare_effect ends
effect_by at.Bare quotes ends = if quotes then does.Fails else bare_effect ends
effect_by at.Quoted quotes ends = if quotes then does.Opens at.AfterQuote else does.Joins at.Quoted
effect_by at.AfterQuote quotes ends =
    if quotes then does.Joins at.Quoted else if ends then does.EndsCell else does.Fails

abbrev pub effect_of : ℕ → CellPlace → ℕ → Effect
effect_of separator place byte = effect_by place (byte == quotation_mark) (byte == separator)

-- a cell before the others
abbrev pub with_cell : List ℕ → Option (List (List ℕ)) → Option (List (List ℕ))
with_cell cell None = None
with_cell cell (Some cells) = Some (cell ∷ cells)

-- the last cell, unless the line ends within quotation marks
abbrev pub last_cell : CellPlace → List ℕ → Option (List (List ℕ))
last_cell at.Start cell = Some (cell ∷ [])
last_cell at.Bare cell = Some (cell ∷ [])
last_cell at.Quoted cell = None
last_cell at.AfterQuote cell = Some (cell ∷ [])

-- the cells of the rest of a line, from a place in a cell, of which these bytes were read
unfoldable pub cells_from : ℕ → CellPlace → List ℕ → List ℕ → Option (List (List ℕ))
cells_from separator place cell [] = last_cell place cell
cells_from separator place cell (byte ∷ rest) = elim (effect_of separator place byte) [
  | does.Joins next ↦ cells_from separator next (cell ++ byte ∷ []) rest
  | does.Opens next ↦ cells_from separator next cell rest
  | does.EndsCell ↦ with_cell cell (cells_from separator at.Start [] rest)
  | does.Fails ↦ None
]

-- the cells of a line, if it is a row
abbrev pub cells_of : ℕ → List ℕ → Option (List (List ℕ))
cells_of separator line = cells_from separator at.Start [] line

-- cells before the others
abbrev pub with_cells : List (List ℕ) → Option (List (List ℕ)) → Option (List (List ℕ))
with_cells front None = None
with_cells front (Some cells) = Some (front ++ cells)

-- whether a line is a row of two or more cells
abbrev pub are_several : Option (List (List ℕ)) → Bool
are_several None = false
are_several (Some cells) = nat_le 2 (length cells)

abbrev pub is_separated : ℕ → List ℕ → Bool
is_separated separator line = are_several (cells_of separator line)

-- the separator of a text, by its first line
abbrev pub separator_of : List ℕ → ℕ
separator_of line =
    if is_separated comma line then comma
    else if is_separated semicolon line then semicolon
    else if is_separated tab line then tab
    else comma

-- the plain line of a line with these cells by its text's separator, and by commas
abbrev pub plain_of : List ℕ → Option (List (List ℕ)) → Option (List (List ℕ)) → List ℕ
plain_of line (Some cells) by_commas = plain_row cells
plain_of line None (Some cells) = plain_row cells
plain_of line None None = line

abbrev pub plain_line : ℕ → Bool → List ℕ → List ℕ
plain_line separator unclosed line =
    if unclosed then line else plain_of line (cells_of separator line) (cells_of comma line)

-- the plain text of the rest of a text, after the front of a line
unfoldable pub plain_from : ℕ → Bool → List ℕ → List ℕ → List ℕ
plain_from separator unclosed line [] = plain_line separator unclosed line
plain_from separator unclosed line (byte ∷ rest) =
    if is_line_end byte
    then plain_line separator unclosed line
    ++ byte ∷ plain_from separator (unclosed_after unclosed line) [] rest
    else plain_from separator unclosed (line ++ byte ∷ []) rest

-- the plain lines of a text without a byte order mark
abbrev pub plain_lines : List ℕ → List ℕ
plain_lines text = plain_from (separator_of (first_line text)) false [] text

abbrev pub plain_table : List ℕ → List ℕ
plain_table text = byte_order_mark_of text ++ plain_lines (after_byte_order_mark text)
