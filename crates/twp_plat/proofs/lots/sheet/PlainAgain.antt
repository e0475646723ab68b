-- A plain line is its own plain line, and a plain text has commas.
use Rattle.std.proofs.Common.{◌≡◌, ℕ, Bool, true, false, List, [], ◌∷◌, ◌++◌}
use Rattle.std.proofs.Common.{length, refl, ap, sym, ◌∙◌, arith, if◌then◌else◌}
use Rattle.std.proofs.lemmas.Bool.{false≢true, le-leb}
use Rattle.std.proofs.lemmas.List.{append-nil}
use Rattle.twp_plat.specs.PlainTables.{comma, semicolon, tab, is_separator, is_line, IsRow, IsNoRow}
use Rattle.twp_plat.specs.PlainTables.{IsSeparatorOf, commas, semicolons, tabs, nothing}
use Rattle.twp_plat.specs.PlainTables.{IsPlainLine, row, row_by_commas, no_row, within_a_cell, plain_row}
use Rattle.twp_plat.specs.PlainTables.{trimmed, with_acres, cell_text, row_text, unclosed_after}
use Rattle.twp_plat.specs.PlainTableLaws.{IsPlainRow}
use Rattle.twp_plat.specs.steps.CellCuts.{cells_of, cells_from, are_several, is_separated, separator_of}
use Rattle.twp_plat.proofs.lots.sheet.RowCells.{cells_of_row}
use Rattle.twp_plat.proofs.lots.sheet.PlainFacts.{CanSeparate, separator_is}
use Rattle.twp_plat.proofs.lots.sheet.PlainCells.{cell_is, row_is, plain_row_is_line, row_pairs}
use Rattle.twp_plat.proofs.lots.sheet.PlainRows.{trimmed_twice, acres_trimmed, acres_twice}

-- the plain row of cells is a plain row
pub plain_row_is : (cells : List (List ℕ)) → IsPlainRow (plain_row cells)
plain_row_is cells = record {
  cells = with_acres (trimmed cells);
  trimmed_is = acres_trimmed (trimmed cells) (trimmed_twice cells);
  acres_are = acres_twice (trimmed cells);
  line_is = refl;
}

-- a plain row stays as it is
stays_by : (cells : List (List ℕ)) (line : List ℕ) → trimmed cells ≡ cells → with_acres cells ≡ cells
    → line ≡ row_text cells → IsPlainLine comma false line line
stays_by [] line trim acres is =
    row refl ([] ∷ []) (rw is (cell_is comma [] refl)) is
stays_by (cell ∷ more) line trim acres is =
    row refl (cell ∷ more) (rw is (row_is cell more))
    (is ∙ ap row_text (sym acres ∙ ap with_acres (sym trim)))

pub row_stays : (unclosed : Bool) (line : List ℕ) → IsPlainRow line → IsPlainLine comma unclosed line line
row_stays true line is = within_a_cell refl refl
row_stays false line is = stays_by is.cells line is.trimmed_is is.acres_are is.line_is

-- the quotation marks of a plain row pair
pairs_by : (unclosed : Bool) (cells : List (List ℕ)) → unclosed_after unclosed (row_text cells) ≡ unclosed
pairs_by unclosed [] = refl
pairs_by unclosed (cell ∷ more) = row_pairs comma unclosed (cell ∷ more) _ refl (row_is cell more)

-- the separator of a text whose first line is a plain row
one_cell : (separator : ℕ) (cell : List ℕ) → is_separator separator ≡ true → CanSeparate separator
    → is_separated separator (cell_text cell ++ []) ≡ false
one_cell separator cell is can =
    ap are_several
    (ap (cells_of separator) (append-nil (cell_text cell))
    ∙ cells_of_row separator (cell ∷ []) (cell_text cell) can (cell_is separator cell is))

either_way : (b : Bool) → (if b then comma else comma) ≡ comma
either_way true = refl
either_way false = refl

comma_by : (cells : List (List ℕ)) → separator_of (row_text cells) ≡ comma
unfolding cells_from
comma_by [] = refl
comma_by (cell ∷ []) = rw (one_cell semicolon cell refl refl, one_cell tab cell refl refl) (either_way _)
comma_by (cell ∷ next ∷ more) =
    let several : is_separated comma (row_text (cell ∷ next ∷ more)) ≡ true =
    ap are_several (cells_of_row comma (cell ∷ next ∷ more) _ refl (row_is cell (next ∷ more)))
    ∙ le-leb 2 (length (cell ∷ next ∷ more)) (omega arith) in
    rw several refl

pub comma_separates : (line : List ℕ) → IsPlainRow line → IsSeparatorOf line comma
comma_separates line is =
    let e : separator_of line ≡ comma = ap separator_of is.line_is ∙ comma_by is.cells in
    rw (← e) (separator_is line)

-- what the plain line of a line is
pub record IsLinePlain (unclosed : Bool) (line plain : List ℕ) : Type 0 where
  pub stays : IsPlainLine comma unclosed plain plain
  pub is : is_line plain ≡ true
  pub pairs : unclosed_after unclosed plain ≡ unclosed_after unclosed line

row_again : (separator : ℕ) (unclosed : Bool) (line plain : List ℕ) (cells : List (List ℕ))
    → CanSeparate separator → is_line line ≡ true → IsRow separator cells line
    → plain ≡ plain_row cells → IsLinePlain unclosed line plain
row_again separator unclosed line plain cells can is is_row plain_is = record {
  stays = row_stays unclosed plain (rw plain_is (plain_row_is cells));
  is = rw plain_is (plain_row_is_line separator cells line is_row is);
  pairs = rw plain_is
      (pairs_by unclosed (with_acres (trimmed cells))
      ∙ sym (row_pairs separator unclosed cells line can is_row));
}

pub line_again : (separator : ℕ) (unclosed : Bool) (line plain : List ℕ) → CanSeparate separator
    → is_line line ≡ true → IsPlainLine separator unclosed line plain → IsLinePlain unclosed line plain
line_again separator unclosed line plain can is (row closed cells is_row plain_is) =
    row_again separator unclosed line plain cells can is is_row plain_is
line_again separator unclosed line plain can is (row_by_commas closed none cells is_row plain_is) =
    row_again comma unclosed line plain cells refl is is_row plain_is
line_again separator unclosed line plain can is (no_row closed none none_by_commas plain_is) =
    rw plain_is (record { stays = no_row closed none_by_commas none_by_commas refl; is = is; pairs = refl })
line_again separator unclosed line plain can is (within_a_cell inside plain_is) =
    rw plain_is (record { stays = within_a_cell inside refl; is = is; pairs = refl })

-- a line that is no row by the separator of its text and none by commas has no separator
none_separates : (separator : ℕ) (line : List ℕ) → IsSeparatorOf line separator → IsNoRow separator line
    → IsNoRow comma line → IsSeparatorOf line comma
none_separates separator line (commas some is) none none_by_commas =
    absurd (none_by_commas some.0 some.1)
none_separates separator line (semicolons no_commas some is) none none_by_commas =
    absurd (none some.0 (rw is some.1))
none_separates separator line (tabs no_commas no_semicolons some is) none none_by_commas =
    absurd (none some.0 (rw is some.1))
none_separates separator line (nothing no_commas no_semicolons no_tabs is) none none_by_commas =
    nothing no_commas no_semicolons no_tabs refl

pub separator_again : (separator : ℕ) (line plain : List ℕ) → IsSeparatorOf line separator
    → IsPlainLine separator false line plain → IsSeparatorOf plain comma
separator_again separator line plain is (row closed cells is_row plain_is) =
    rw plain_is (comma_separates (plain_row cells) (plain_row_is cells))
separator_again separator line plain is (row_by_commas closed none cells is_row plain_is) =
    rw plain_is (comma_separates (plain_row cells) (plain_row_is cells))
separator_again separator line plain is (no_row closed none none_by_commas plain_is) =
    rw plain_is (none_separates separator line is none none_by_commas)
separator_again separator line plain is (within_a_cell inside plain_is) = absurd (false≢true inside)
