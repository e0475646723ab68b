-- The plain table of a text is what the functions of `steps.CellCuts` give, and nothing else.
use Rattle.std.proofs.Common.{◌≡◌, ◌==◌, ℕ, Bool, true, false, List}
use Rattle.std.proofs.Common.{Option, Some, None, refl, ap, sym, ◌∙◌, length}
use Rattle.std.proofs.lemmas.Bool.{false≢true, leb-true, le-leb}
use Rattle.twp_plat.specs.PlainTables.{comma, semicolon, tab, quotation_mark}
use Rattle.twp_plat.specs.PlainTables.{IsSeparated, IsSeparatorOf, commas, semicolons, tabs, nothing}
use Rattle.twp_plat.specs.PlainTables.{IsPlainLine, row, row_by_commas, no_row, within_a_cell}
use Rattle.twp_plat.specs.steps.CellCuts.{cells_of, are_several, is_separated, separator_of, plain_of}
use Rattle.twp_plat.specs.steps.CellCuts.{plain_line}
use Rattle.twp_plat.proofs.lots.sheet.RowReading.{row_of_cells}
use Rattle.twp_plat.proofs.lots.sheet.RowCells.{cells_of_row, no_row_of_none, none_of_no_row}

-- a separator is no quotation mark
abbrev pub CanSeparate : ℕ → Type 0
CanSeparate separator = (separator == quotation_mark) ≡ false

-- a line that is separated, by its cells
several_of : (separator : ℕ) (line : List ℕ) (found : Option (List (List ℕ)))
    → cells_of separator line ≡ found → are_several found ≡ true → IsSeparated separator line
several_of separator line None is several = absurd (false≢true several)
several_of separator line (Some cells) is several =
    (cells, row_of_cells separator line cells is, leb-true 2 (length cells) several)

pub separated : (separator : ℕ) (line : List ℕ) → is_separated separator line ≡ true
    → IsSeparated separator line
separated separator line is = several_of separator line _ refl is

pub not_separated : (separator : ℕ) (line : List ℕ) → CanSeparate separator
    → is_separated separator line ≡ false → ¬ IsSeparated separator line
not_separated separator line can is some =
    false≢true
    (sym is
    ∙ ap are_several (cells_of_row separator some.0 line can some.1)
    ∙ le-leb 2 (length some.0) some.2)

test_of : (separator : ℕ) (line : List ℕ) → CanSeparate separator → (is : Bool)
    → is_separated separator line ≡ is → ¬ IsSeparated separator line → is_separated separator line ≡ false
test_of separator line can true is none = absurd (none (separated separator line is))
test_of separator line can false is none = is

separated_test : (separator : ℕ) (line : List ℕ) → CanSeparate separator → IsSeparated separator line
    → is_separated separator line ≡ true
separated_test separator line can some =
    ap are_several (cells_of_row separator some.0 line can some.1) ∙ le-leb 2 (length some.0) some.2

-- the separator of a text
separator_by : (line : List ℕ) (by_comma by_semicolon by_tab : Bool)
    → is_separated comma line ≡ by_comma → is_separated semicolon line ≡ by_semicolon
    → is_separated tab line ≡ by_tab → IsSeparatorOf line (separator_of line)
separator_by line true by_semicolon by_tab c s t = commas (separated comma line c) (rw c refl)
separator_by line false true by_tab c s t =
    semicolons (not_separated comma line refl c) (separated semicolon line s) (rw (c, s) refl)
separator_by line false false true c s t =
    tabs (not_separated comma line refl c) (not_separated semicolon line refl s) (separated tab line t)
    (rw (c, s, t) refl)
separator_by line false false false c s t =
    nothing (not_separated comma line refl c) (not_separated semicolon line refl s)
    (not_separated tab line refl t) (rw (c, s, t) refl)

pub separator_is : (line : List ℕ) → IsSeparatorOf line (separator_of line)
separator_is line = separator_by line _ _ _ refl refl refl

pub one_separator : (line : List ℕ) (separator : ℕ) → IsSeparatorOf line separator
    → separator ≡ separator_of line
one_separator line separator (commas c is) = is ∙ rw (separated_test comma line refl c) refl
one_separator line separator (semicolons c s is) =
    is ∙ rw (test_of comma line refl _ refl c, separated_test semicolon line refl s) refl
one_separator line separator (tabs c s t is) =
    is
    ∙ rw
    (test_of comma line refl _ refl c, test_of semicolon line refl _ refl s, separated_test tab line refl t)
    refl
one_separator line separator (nothing c s t is) =
    is
    ∙ rw
    (test_of comma line refl _ refl c, test_of semicolon line refl _ refl s, test_of tab line refl _ refl t)
    refl

pub can_separate : (line : List ℕ) (separator : ℕ) → IsSeparatorOf line separator → CanSeparate separator
can_separate line separator (commas c is) = rw is refl
can_separate line separator (semicolons c s is) = rw is refl
can_separate line separator (tabs c s t is) = rw is refl
can_separate line separator (nothing c s t is) = rw is refl

-- the plain line of a line
line_by : (separator : ℕ) (line : List ℕ) (found by_commas : Option (List (List ℕ)))
    → CanSeparate separator → cells_of separator line ≡ found → cells_of comma line ≡ by_commas
    → IsPlainLine separator false line (plain_of line found by_commas)
line_by separator line (Some cells) by_commas can is other =
    row refl cells (row_of_cells separator line cells is) refl
line_by separator line None (Some cells) can is other =
    row_by_commas refl (no_row_of_none separator line can is) cells (row_of_cells comma line cells other) refl
line_by separator line None None can is other =
    no_row refl (no_row_of_none separator line can is) (no_row_of_none comma line refl other) refl

pub line_is : (separator : ℕ) (unclosed : Bool) (line : List ℕ) → CanSeparate separator
    → IsPlainLine separator unclosed line (plain_line separator unclosed line)
line_is separator true line can = within_a_cell refl refl
line_is separator false line can = line_by separator line _ _ can refl refl

pub one_line : (separator : ℕ) (unclosed : Bool) (line plain : List ℕ) → CanSeparate separator
    → IsPlainLine separator unclosed line plain → plain ≡ plain_line separator unclosed line
one_line separator unclosed line plain can (row closed cells is plain_is) =
    plain_is ∙ rw (closed, cells_of_row separator cells line can is) refl
one_line separator unclosed line plain can (row_by_commas closed none cells is plain_is) =
    plain_is
    ∙ rw (closed, none_of_no_row separator line none, cells_of_row comma cells line refl is) refl
one_line separator unclosed line plain can (no_row closed none none_by_commas plain_is) =
    plain_is
    ∙ rw (closed, none_of_no_row separator line none, none_of_no_row comma line none_by_commas) refl
one_line separator unclosed line plain can (within_a_cell inside plain_is) =
    plain_is ∙ rw inside refl
