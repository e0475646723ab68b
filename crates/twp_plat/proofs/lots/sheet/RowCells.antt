-- The bytes of a row, read one by one, give its cells. So a line is a row of at most one list of cells.
use Rattle.std.proofs.Common.{◌≡◌, ◌==◌, ◌||◌, ℕ, Bool, true, false, not, List, [], ◌∷◌, ◌++◌}
use Rattle.std.proofs.Common.{Option, Some, None, refl, ap, sym, ◌∙◌, append_assoc}
use Rattle.std.proofs.lemmas.Bool.{eq-eqb, false≢true}
use Rattle.std.proofs.lemmas.List.{append-nil}
use Rattle.twp_plat.specs.PlainTables.{quotation_mark, with_quotes_doubled, quoted, is_bare, IsCell, bare}
use Rattle.twp_plat.specs.PlainTables.{within_quotes, IsRow, IsNoRow}
use Rattle.twp_plat.specs.steps.CellCuts.{with_cell, cells_from, cells_of}
use Rattle.twp_plat.specs.declared.lots.sheet.cells.CellPlace.TheVariants as at
use Rattle.twp_plat.proofs.lots.sheet.RowReading.{row_of_cells}

-- the first byte of a bare text, and the others
record IsBareFirst (separator byte : ℕ) (text : List ℕ) : Type 0 where
  no_separator : (byte == separator) ≡ false
  no_quote : (byte == quotation_mark) ≡ false
  others : is_bare separator text ≡ true

tested : (a b c : Bool) → not ((a || b) || c) ≡ true → (a ≡ false) × (b ≡ false) × (not c ≡ true)
tested true b c is = absurd (false≢true is)
tested false true c is = absurd (false≢true is)
tested false false c is = (refl, refl, is)

bare_first : (separator byte : ℕ) (text : List ℕ) → is_bare separator (byte ∷ text) ≡ true
    → IsBareFirst separator byte text
bare_first separator byte text is =
    let facts = tested (byte == separator) (byte == quotation_mark) _ is in
    record { no_separator = facts.0; no_quote = facts.1; others = facts.2 }

-- one byte
bare_byte : (separator byte : ℕ) (front rest : List ℕ) → (byte == quotation_mark) ≡ false
    → (byte == separator) ≡ false
    → cells_from separator at.Bare front (byte ∷ rest)
    ≡ cells_from separator at.Bare (front ++ byte ∷ []) rest
unfolding cells_from
bare_byte separator byte front rest quote end = rw (cells_from, quote, end) refl

start_byte : (separator byte : ℕ) (rest : List ℕ) → (byte == quotation_mark) ≡ false
    → (byte == separator) ≡ false
    → cells_from separator at.Start [] (byte ∷ rest) ≡ cells_from separator at.Bare (byte ∷ []) rest
unfolding cells_from
start_byte separator byte rest quote end = rw (cells_from, quote, end) refl

quoted_byte : (separator byte : ℕ) (front rest : List ℕ) → (byte == quotation_mark) ≡ false
    → cells_from separator at.Quoted front (byte ∷ rest)
    ≡ cells_from separator at.Quoted (front ++ byte ∷ []) rest
unfolding cells_from
quoted_byte separator byte front rest quote = rw (cells_from, quote) refl

quoted_quote : (separator byte : ℕ) (front rest : List ℕ) → (byte == quotation_mark) ≡ true
    → cells_from separator at.Quoted front (byte ∷ byte ∷ rest)
    ≡ cells_from separator at.Quoted (front ++ byte ∷ []) rest
unfolding cells_from
quoted_quote separator byte front rest quote = rw (cells_from, quote, quote) refl

opening_quote : (separator : ℕ) (rest : List ℕ)
    → cells_from separator at.Start [] (quotation_mark ∷ rest) ≡ cells_from separator at.Quoted [] rest
unfolding cells_from
opening_quote separator rest = refl

closing_quote : (separator : ℕ) (cell rest : List ℕ)
    → cells_from separator at.Quoted cell (quotation_mark ∷ rest)
    ≡ cells_from separator at.AfterQuote cell rest
unfolding cells_from
closing_quote separator cell rest = refl

itself : (n : ℕ) → (n == n) ≡ true
itself n = eq-eqb n n refl

after_start : (separator : ℕ) (rest : List ℕ) → (separator == quotation_mark) ≡ false
    → cells_from separator at.Start [] (separator ∷ rest)
    ≡ with_cell [] (cells_from separator at.Start [] rest)
unfolding cells_from
after_start separator rest other = rw (cells_from, other, itself separator) refl

after_bare : (separator : ℕ) (cell rest : List ℕ) → (separator == quotation_mark) ≡ false
    → cells_from separator at.Bare cell (separator ∷ rest)
    ≡ with_cell cell (cells_from separator at.Start [] rest)
unfolding cells_from
after_bare separator cell rest other = rw (cells_from, other, itself separator) refl

after_quoted : (separator : ℕ) (cell rest : List ℕ) → (separator == quotation_mark) ≡ false
    → cells_from separator at.AfterQuote cell (separator ∷ rest)
    ≡ with_cell cell (cells_from separator at.Start [] rest)
unfolding cells_from
after_quoted separator cell rest other = rw (cells_from, other, itself separator) refl

-- a bare text, and the text within quotation marks
bare_goes : (separator : ℕ) (text front rest : List ℕ) → is_bare separator text ≡ true
    → cells_from separator at.Bare front (text ++ rest) ≡ cells_from separator at.Bare (front ++ text) rest
bare_goes separator [] front rest is = rw (append-nil front) refl
bare_goes separator (byte ∷ text) front rest is =
    let first = bare_first separator byte text is in
    bare_byte separator byte front (text ++ rest) first.no_quote first.no_separator
    ∙ bare_goes separator text (front ++ byte ∷ []) rest first.others
    ∙ ap (λ (front : List ℕ). cells_from separator at.Bare front rest) (append_assoc front (byte ∷ []) text)

quoted_by : (separator byte : ℕ) (cell front rest : List ℕ) (quotes : Bool)
    → (byte == quotation_mark) ≡ quotes
    → cells_from separator at.Quoted front (with_quotes_doubled (byte ∷ cell) ++ rest)
    ≡ cells_from separator at.Quoted (front ++ byte ∷ []) (with_quotes_doubled cell ++ rest)
quoted_by separator byte cell front rest true is =
    rw is (quoted_quote separator byte front (with_quotes_doubled cell ++ rest) is)
quoted_by separator byte cell front rest false is =
    rw is (quoted_byte separator byte front (with_quotes_doubled cell ++ rest) is)

quoted_goes : (separator : ℕ) (cell front rest : List ℕ)
    → cells_from separator at.Quoted front (with_quotes_doubled cell ++ rest)
    ≡ cells_from separator at.Quoted (front ++ cell) rest
quoted_goes separator [] front rest = rw (append-nil front) refl
quoted_goes separator (byte ∷ cell) front rest =
    quoted_by separator byte cell front rest (byte == quotation_mark) refl
    ∙ quoted_goes separator cell (front ++ byte ∷ []) rest
    ∙ ap (λ (front : List ℕ). cells_from separator at.Quoted front rest) (append_assoc front (byte ∷ []) cell)

quoted_cell : (separator : ℕ) (cell rest : List ℕ)
    → cells_from separator at.Start [] (quoted cell ++ rest) ≡ cells_from separator at.AfterQuote cell rest
quoted_cell separator cell rest =
    opening_quote separator ((with_quotes_doubled cell ++ quotation_mark ∷ []) ++ rest)
    ∙ ap (λ (text : List ℕ). cells_from separator at.Quoted [] text)
    (append_assoc (with_quotes_doubled cell) (quotation_mark ∷ []) rest)
    ∙ quoted_goes separator cell [] (quotation_mark ∷ rest)
    ∙ closing_quote separator cell rest

-- the last cell of a row, and a cell before others
last_read : (separator : ℕ) (cell text : List ℕ) → IsCell separator cell text
    → cells_of separator text ≡ Some (cell ∷ [])
unfolding cells_from
last_read separator cell [] (bare is same) = rw same refl
last_read separator cell (byte ∷ text) (bare is same) =
    let first = bare_first separator byte text is in
    start_byte separator byte text first.no_quote first.no_separator
    ∙ ap (λ (text : List ℕ). cells_from separator at.Bare (byte ∷ []) text) (sym (append-nil text))
    ∙ bare_goes separator text (byte ∷ []) [] first.others
    ∙ ap (λ (cell : List ℕ). Some (cell ∷ [])) (sym same)
last_read separator cell text (within_quotes is) =
    ap (cells_of separator) (is ∙ sym (append-nil (quoted cell))) ∙ quoted_cell separator cell []

next_read : (separator : ℕ) (cell text rest : List ℕ) → (separator == quotation_mark) ≡ false
    → IsCell separator cell text
    → cells_of separator (text ++ separator ∷ rest) ≡ with_cell cell (cells_of separator rest)
next_read separator cell [] rest other (bare is same) = rw same (after_start separator rest other)
next_read separator cell (byte ∷ text) rest other (bare is same) =
    let first = bare_first separator byte text is in
    start_byte separator byte (text ++ separator ∷ rest) first.no_quote first.no_separator
    ∙ bare_goes separator text (byte ∷ []) (separator ∷ rest) first.others
    ∙ after_bare separator (byte ∷ text) rest other
    ∙ ap (λ (cell : List ℕ). with_cell cell (cells_of separator rest)) (sym same)
next_read separator cell text rest other (within_quotes is) =
    ap (λ (text : List ℕ). cells_of separator (text ++ separator ∷ rest)) is
    ∙ quoted_cell separator cell (separator ∷ rest)
    ∙ after_quoted separator cell rest other

pub cells_of_row : (separator : ℕ) (cells : List (List ℕ)) (line : List ℕ)
    → (separator == quotation_mark) ≡ false → IsRow separator cells line
    → cells_of separator line ≡ Some cells
cells_of_row separator [] line other row = absurd row
cells_of_row separator (cell ∷ []) line other row = last_read separator cell line row
cells_of_row separator (cell ∷ next ∷ more) line other row =
    ap (cells_of separator) row.3 ∙ next_read separator cell row.0 row.1 other row.2
    ∙ ap (with_cell cell) (cells_of_row separator (next ∷ more) row.1 other row.4)

-- a line that is no row
pub no_row_of_none : (separator : ℕ) (line : List ℕ) → (separator == quotation_mark) ≡ false
    → cells_of separator line ≡ None → IsNoRow separator line
no_row_of_none separator line other none cells row =
    let some : cells_of separator line ≡ Some cells = cells_of_row separator cells line other row in cc

none_by : (separator : ℕ) (line : List ℕ) (found : Option (List (List ℕ))) → cells_of separator line ≡ found
    → IsNoRow separator line → found ≡ None
none_by separator line None is no_row = refl
none_by separator line (Some cells) is no_row = absurd (no_row cells (row_of_cells separator line cells is))

pub none_of_no_row : (separator : ℕ) (line : List ℕ) → IsNoRow separator line
    → cells_of separator line ≡ None
none_of_no_row separator line no_row = none_by separator line _ refl no_row
