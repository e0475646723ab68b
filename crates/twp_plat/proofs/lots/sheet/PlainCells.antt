-- The cells of a plain row: how they are written, and that they have no line ends.
use Rattle.std.proofs.Common.{◌≡◌, ◌==◌, ◌||◌, ℕ, Bool, true, false, not, List, [], ◌∷◌, ◌++◌}
use Rattle.std.proofs.Common.{refl, ap, sym, ◌∙◌, if◌then◌else◌}
use Rattle.std.specs.List.{flat_map, list_any}
use Rattle.std.specs.Prelude.{codes}
use Rattle.std.proofs.lemmas.Bool.{eqb-true, false≢true}
use Rattle.std.proofs.lemmas.List.{append-nil}
use Rattle.std.proofs.lemmas.List.Folds.{list_any-append}
use Rattle.twp_plat.specs.PlainTables.{comma, quotation_mark, is_separator, is_mark, is_line_end}
use Rattle.twp_plat.specs.PlainTables.{is_line, is_bare, IsCell, bare, within_quotes, IsRow, quoted}
use Rattle.twp_plat.specs.PlainTables.{with_quotes_doubled, needs_quotes, cell_text, row_text, before_empty}
use Rattle.twp_plat.specs.PlainTables.{trimmed, is_digits, has_one_decimal, with_acres}
use Rattle.twp_plat.specs.PlainTables.{unclosed_after}
use Rattle.twp_plat.proofs.lots.sheet.PlainFacts.{CanSeparate}

-- each alternative is false if neither holds
or_false : (a b : Bool) → (a || b) ≡ false → (a ≡ false) × (b ≡ false)
or_false true b is = absurd (false≢true (sym is))
or_false false b is = (refl, is)

-- a separator or a quotation mark is a byte for which a cell is quoted
mark_by : (separator byte : ℕ) → is_separator separator ≡ true → is_mark byte ≡ false
    → (ends quotes : Bool) → (byte == separator) ≡ ends → (byte == quotation_mark) ≡ quotes
    → (ends || quotes) ≡ false
mark_by separator byte can no_mark true quotes end quote =
    let same : byte ≡ separator = eqb-true byte separator end in
    let none : is_separator byte ≡ false = (or_false _ _ no_mark).0 in
    absurd (false≢true (sym none ∙ ap is_separator same ∙ can))
mark_by separator byte can no_mark false true end quote =
    absurd (false≢true (sym (or_false _ _ no_mark).1 ∙ quote))
mark_by separator byte can no_mark false false end quote = refl

no_marks : (separator : ℕ) (cell : List ℕ) → is_separator separator ≡ true
    → list_any is_mark cell ≡ false
    → list_any (λ (byte : ℕ). (byte == separator) || (byte == quotation_mark)) cell ≡ false
no_marks separator [] can is = refl
no_marks separator (byte ∷ cell) can is =
    let facts = or_false _ _ is in
    rw (mark_by separator byte can facts.0 _ _ refl refl) (no_marks separator cell can facts.1)

written_by : (separator : ℕ) (cell : List ℕ) → is_separator separator ≡ true → (needs : Bool)
    → needs_quotes cell ≡ needs → IsCell separator cell (if needs then quoted cell else cell)
written_by separator cell can true is = within_quotes refl
written_by separator cell can false is =
    bare (ap not (no_marks separator cell can (or_false _ _ is).1)) refl

-- a cell of a plain row is read as that cell, by each separator
pub cell_is : (separator : ℕ) (cell : List ℕ) → is_separator separator ≡ true
    → IsCell separator cell (cell_text cell)
cell_is separator cell can = written_by separator cell can _ refl

pub row_is : (cell : List ℕ) (more : List (List ℕ)) → IsRow comma (cell ∷ more) (row_text (cell ∷ more))
row_is cell [] = rw (append-nil (cell_text cell)) (cell_is comma cell refl)
row_is cell (next ∷ more) =
    (cell_text cell, row_text (next ∷ more), cell_is comma cell refl, refl, row_is next more)

-- no byte of a text ends a line
abbrev pub has_line_end : List ℕ → Bool
has_line_end text = list_any is_line_end text

negated : (b : Bool) → not b ≡ true → b ≡ false
negated true is = absurd (false≢true is)
negated false is = refl

pub line_has_none : (text : List ℕ) → is_line text ≡ true → has_line_end text ≡ false
line_has_none text is = negated (has_line_end text) is

-- the text before or after another one has no line end either
front_has_none : (front rest : List ℕ) → has_line_end (front ++ rest) ≡ false → has_line_end front ≡ false
front_has_none front rest is = (or_false _ _ (sym (list_any-append is_line_end front rest) ∙ is)).0

rest_has_none : (front rest : List ℕ) → has_line_end (front ++ rest) ≡ false → has_line_end rest ≡ false
rest_has_none front rest is = (or_false _ _ (sym (list_any-append is_line_end front rest) ∙ is)).1

join_has_none : (front rest : List ℕ) → has_line_end front ≡ false → has_line_end rest ≡ false
    → has_line_end (front ++ rest) ≡ false
join_has_none front rest is other = list_any-append is_line_end front rest ∙ rw (is, other) refl

-- doubling quotation marks adds no line ends, and removes none
doubled_by : (byte : ℕ) (quotes : Bool) (rest : List ℕ) → (byte == quotation_mark) ≡ quotes
    → has_line_end ((if quotes then byte ∷ byte ∷ [] else byte ∷ []) ++ rest)
    ≡ (is_line_end byte || has_line_end rest)
doubled_by byte true rest is =
    let same : byte ≡ quotation_mark = eqb-true byte quotation_mark is in rw same refl
doubled_by byte false rest is = refl

doubled_ends : (cell : List ℕ) → has_line_end (with_quotes_doubled cell) ≡ has_line_end cell
doubled_ends [] = refl
doubled_ends (byte ∷ cell) =
    doubled_by byte _ (with_quotes_doubled cell) refl
    ∙ ap (λ (rest : Bool). is_line_end byte || rest) (doubled_ends cell)

cell_has_none : (separator : ℕ) (cell text : List ℕ) → IsCell separator cell text
    → has_line_end text ≡ false → has_line_end cell ≡ false
cell_has_none separator cell text (bare is same) none = ap has_line_end same ∙ none
cell_has_none separator cell text (within_quotes is) none =
    sym (doubled_ends cell)
    ∙ front_has_none (with_quotes_doubled cell) (quotation_mark ∷ []) (ap has_line_end (sym is) ∙ none)

text_by : (cell : List ℕ) (needs : Bool) → has_line_end cell ≡ false
    → has_line_end (if needs then quoted cell else cell) ≡ false
text_by cell true none =
    join_has_none (with_quotes_doubled cell) (quotation_mark ∷ []) (doubled_ends cell ∙ none) refl
text_by cell false none = none

text_has_none : (cell : List ℕ) → has_line_end cell ≡ false → has_line_end (cell_text cell) ≡ false
text_has_none cell none = text_by cell (needs_quotes cell) none

-- no cell has a line end
abbrev pub HaveNone : List (List ℕ) → Type 0
HaveNone [] = Unit {0}
HaveNone (cell ∷ cells) = (has_line_end cell ≡ false) × HaveNone cells

pub cells_have_none : (separator : ℕ) (cells : List (List ℕ)) (line : List ℕ)
    → IsRow separator cells line → has_line_end line ≡ false → HaveNone cells
cells_have_none separator [] line row none = absurd row
cells_have_none separator (cell ∷ []) line row none = (cell_has_none separator cell line row none, tt)
cells_have_none separator (cell ∷ next ∷ more) line row none =
    let whole : has_line_end (row.0 ++ separator ∷ row.1) ≡ false = ap has_line_end (sym row.3) ∙ none in
    let rest : has_line_end (separator ∷ row.1) ≡ false = rest_has_none row.0 (separator ∷ row.1) whole in (
      cell_has_none separator cell row.0 row.2 (front_has_none row.0 (separator ∷ row.1) whole),
      cells_have_none separator (next ∷ more) row.1 row.4 (or_false _ _ rest).1,
    )

before_empty_none : (cell : List ℕ) (cells : List (List ℕ)) → has_line_end cell ≡ false → HaveNone cells
    → HaveNone (before_empty cell cells)
before_empty_none [] [] none others = tt
before_empty_none [] (next ∷ more) none others = (none, others)
before_empty_none (byte ∷ bytes) cells none others = (none, others)

trimmed_none : (cells : List (List ℕ)) → HaveNone cells → HaveNone (trimmed cells)
trimmed_none [] none = tt
trimmed_none (cell ∷ cells) none =
    before_empty_none cell (trimmed cells) none.0 (trimmed_none cells none.1)

decimals_by : (cell : List ℕ) (digits tenths : Bool) → has_line_end cell ≡ false
    → has_line_end (if digits then cell ++ codes ".00" else (if tenths then cell ++ codes "0" else cell))
    ≡ false
decimals_by cell true tenths none = join_has_none cell (codes ".00") none refl
decimals_by cell false true none = join_has_none cell (codes "0") none refl
decimals_by cell false false none = none

acres_none : (cells : List (List ℕ)) → HaveNone cells → HaveNone (with_acres cells)
acres_none [] none = none
acres_none (section ∷ []) none = none
acres_none (section ∷ lot ∷ []) none = none
acres_none (section ∷ lot ∷ acres ∷ more) none =
    (none.0, (none.1.0, (decimals_by acres (is_digits acres) (has_one_decimal acres) none.1.1.0, none.1.1.1)))

more_none : (cells : List (List ℕ)) → HaveNone cells
    → has_line_end (flat_map (λ (cell : List ℕ). comma ∷ cell_text cell) cells) ≡ false
more_none [] none = refl
more_none (cell ∷ cells) none =
    join_has_none (cell_text cell) (flat_map (λ (cell : List ℕ). comma ∷ cell_text cell) cells)
    (text_has_none cell none.0) (more_none cells none.1)

row_none : (cells : List (List ℕ)) → HaveNone cells → has_line_end (row_text cells) ≡ false
row_none [] none = refl
row_none (cell ∷ cells) none =
    join_has_none (cell_text cell) (flat_map (λ (cell : List ℕ). comma ∷ cell_text cell) cells)
    (text_has_none cell none.0) (more_none cells none.1)

pub plain_row_is_line : (separator : ℕ) (cells : List (List ℕ)) (line : List ℕ)
    → IsRow separator cells line → is_line line ≡ true
    → is_line (row_text (with_acres (trimmed cells))) ≡ true
plain_row_is_line separator cells line row is =
    ap not
    (row_none (with_acres (trimmed cells))
    (acres_none (trimmed cells)
    (trimmed_none cells (cells_have_none separator cells line row (line_has_none line is)))))

-- quotation marks of a row pair
not_twice : (b : Bool) → not (not b) ≡ b
not_twice true = refl
not_twice false = refl

after_both : (unclosed : Bool) (front rest : List ℕ)
    → unclosed_after unclosed (front ++ rest) ≡ unclosed_after (unclosed_after unclosed front) rest
after_both unclosed [] rest = refl
after_both unclosed (byte ∷ front) rest =
    after_both (if byte == quotation_mark then not unclosed else unclosed) front rest

bare_pairs : (separator : ℕ) (unclosed : Bool) (text : List ℕ) → is_bare separator text ≡ true
    → unclosed_after unclosed text ≡ unclosed
bare_pairs separator unclosed [] is = refl
bare_pairs separator unclosed (byte ∷ text) is =
    let facts = or_false _ _ (negated _ is) in
    let quote : (byte == quotation_mark) ≡ false = (or_false _ _ facts.0).1 in
    rw quote (bare_pairs separator unclosed text (ap not facts.1))

doubled_pair : (byte : ℕ) (quotes unclosed : Bool) (rest : List ℕ) → (byte == quotation_mark) ≡ quotes
    → unclosed_after unclosed ((if quotes then byte ∷ byte ∷ [] else byte ∷ []) ++ rest)
    ≡ unclosed_after unclosed rest
doubled_pair byte true unclosed rest is =
    rw is (ap (λ (unclosed : Bool). unclosed_after unclosed rest) (not_twice unclosed))
doubled_pair byte false unclosed rest is = rw is refl

doubled_pairs : (unclosed : Bool) (cell : List ℕ)
    → unclosed_after unclosed (with_quotes_doubled cell) ≡ unclosed
doubled_pairs unclosed [] = refl
doubled_pairs unclosed (byte ∷ cell) =
    doubled_pair byte _ unclosed (with_quotes_doubled cell) refl ∙ doubled_pairs unclosed cell

cell_pairs : (separator : ℕ) (unclosed : Bool) (cell text : List ℕ) → IsCell separator cell text
    → unclosed_after unclosed text ≡ unclosed
cell_pairs separator unclosed cell text (bare is same) = bare_pairs separator unclosed text is
cell_pairs separator unclosed cell text (within_quotes is) =
    ap (unclosed_after unclosed) is
    ∙ after_both (not unclosed) (with_quotes_doubled cell) (quotation_mark ∷ [])
    ∙ ap not (doubled_pairs (not unclosed) cell)
    ∙ not_twice unclosed

pub row_pairs : (separator : ℕ) (unclosed : Bool) (cells : List (List ℕ)) (line : List ℕ)
    → CanSeparate separator → IsRow separator cells line → unclosed_after unclosed line ≡ unclosed
row_pairs separator unclosed [] line can row = absurd row
row_pairs separator unclosed (cell ∷ []) line can row = cell_pairs separator unclosed cell line row
row_pairs separator unclosed (cell ∷ next ∷ more) line can row =
    ap (unclosed_after unclosed) row.3
    ∙ after_both unclosed row.0 (separator ∷ row.1)
    ∙ ap (λ (unclosed : Bool). unclosed_after unclosed (separator ∷ row.1))
    (cell_pairs separator unclosed cell row.0 row.2)
    ∙ rw can (row_pairs separator unclosed (next ∷ more) row.1 can row.4)
