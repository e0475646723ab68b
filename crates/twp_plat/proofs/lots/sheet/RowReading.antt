-- A line is a row of cells exactly if its bytes, read one by one, give these cells.
use Rattle.std.proofs.Common.{◌≡◌, ◌==◌, ◌||◌, ℕ, Bool, true, false, not, List, [], ◌∷◌, ◌++◌}
use Rattle.std.proofs.Common.{Option, Some, None, refl, ap, sym, ◌∙◌, append_assoc}
use Rattle.std.specs.List.{list_any}
use Rattle.std.proofs.lemmas.Bool.{eqb-true}
use Rattle.std.proofs.lemmas.List.{append-nil}
use Rattle.std.proofs.lemmas.List.Concat.{flat_map-append}
use Rattle.std.proofs.lemmas.List.Folds.{list_any-append}
use Rattle.twp_plat.specs.PlainTables.{quotation_mark, with_quotes_doubled, quoted, is_bare, IsCell, bare}
use Rattle.twp_plat.specs.PlainTables.{within_quotes, IsRow}
use Rattle.twp_plat.specs.steps.CellCuts.{effect_by, effect_of, last_cell, with_cell, cells_from, cells_of}
use Rattle.twp_plat.specs.declared.lots.sheet.cells.CellPlace.{CellPlace}
use Rattle.twp_plat.specs.declared.lots.sheet.cells.CellPlace.TheVariants as at
use Rattle.twp_plat.specs.declared.lots.sheet.cells.Effect.{Effect}
use Rattle.twp_plat.specs.declared.lots.sheet.cells.Effect.TheVariants as does

-- the text of a cell up to a place, of which these bytes were read
abbrev IsRead : ℕ → CellPlace → List ℕ → List ℕ → Type 0
IsRead separator at.Start cell text = (cell ≡ []) × (text ≡ [])
IsRead separator at.Bare cell text = (is_bare separator text ≡ true) × (cell ≡ text)
IsRead separator at.Quoted cell text = text ≡ quotation_mark ∷ with_quotes_doubled cell
IsRead separator at.AfterQuote cell text = text ≡ quoted cell

bare_front : (found : Bool) → not found ≡ true → not (found || ((false || false) || false)) ≡ true
bare_front true is = is
bare_front false is = refl

-- a byte more of a bare text
bare_more : (separator : ℕ) (text : List ℕ) (byte : ℕ) → is_bare separator text ≡ true
    → (byte == quotation_mark) ≡ false → (byte == separator) ≡ false
    → is_bare separator (text ++ byte ∷ []) ≡ true
bare_more separator text byte is no_quote no_separator =
    rw (list_any-append _ text (byte ∷ []), no_quote, no_separator)
    (bare_front (list_any _ text) is)

doubled_more : (cell : List ℕ) (byte : ℕ) → (byte == quotation_mark) ≡ false
    → with_quotes_doubled (cell ++ byte ∷ []) ≡ with_quotes_doubled cell ++ byte ∷ []
doubled_more cell byte is =
    flat_map-append _ cell (byte ∷ []) ∙ ap (λ (text : List ℕ). with_quotes_doubled cell ++ text) (rw is refl)

doubled_quote : (cell : List ℕ) (byte : ℕ) → (byte == quotation_mark) ≡ true
    → with_quotes_doubled (cell ++ byte ∷ [])
    ≡ (with_quotes_doubled cell ++ quotation_mark ∷ []) ++ byte ∷ []
doubled_quote cell byte is =
    let same : byte ≡ quotation_mark = eqb-true byte quotation_mark is in
    flat_map-append _ cell (byte ∷ [])
    ∙ ap (λ (text : List ℕ). with_quotes_doubled cell ++ text) (rw (is, same) refl)
    ∙ sym (append_assoc (with_quotes_doubled cell) (quotation_mark ∷ []) (byte ∷ []))

-- what a byte leaves that joins the cell, and one that opens or closes quotation marks
joined : (separator byte : ℕ) (cell text : List ℕ) (next : CellPlace) (place : CellPlace) (quotes ends : Bool)
    → IsRead separator place cell text → effect_by place quotes ends ≡ does.Joins next
    → (byte == quotation_mark) ≡ quotes → (byte == separator) ≡ ends
    → IsRead separator next (cell ++ byte ∷ []) (text ++ byte ∷ [])
joined separator byte cell text next at.Start false false read is quote end =
    let e : at.Bare ≡ next = cc in
    rw (← e) (rw read.1 (bare_more separator [] byte refl quote end), rw (read.0, read.1) refl)
joined separator byte cell text next at.Bare false false read is quote end =
    let e : at.Bare ≡ next = cc in
    rw (← e) (bare_more separator text byte read.0 quote end, rw read.1 refl)
joined separator byte cell text next at.Quoted false ends read is quote end =
    let e : at.Quoted ≡ next = cc in
    rw (← e) (rw (read, doubled_more cell byte quote) refl)
joined separator byte cell text next at.AfterQuote true ends read is quote end =
    let e : at.Quoted ≡ next = cc in
    rw (← e) (rw (read, doubled_quote cell byte quote) refl)
joined separator byte cell text next at.Start true ends read is quote end = cc
joined separator byte cell text next at.Start false true read is quote end = cc
joined separator byte cell text next at.Bare true ends read is quote end = cc
joined separator byte cell text next at.Bare false true read is quote end = cc
joined separator byte cell text next at.Quoted true ends read is quote end = cc
joined separator byte cell text next at.AfterQuote false true read is quote end = cc
joined separator byte cell text next at.AfterQuote false false read is quote end = cc

opened : (separator byte : ℕ) (cell text : List ℕ) (next : CellPlace) (place : CellPlace) (quotes ends : Bool)
    → IsRead separator place cell text → effect_by place quotes ends ≡ does.Opens next
    → (byte == quotation_mark) ≡ quotes
    → IsRead separator next cell (text ++ byte ∷ [])
opened separator byte cell text next at.Start true ends read is quote =
    let e : at.Quoted ≡ next = cc in
    rw (← e) (rw (read.0, read.1, eqb-true byte quotation_mark quote) refl)
opened separator byte cell text next at.Quoted true ends read is quote =
    let e : at.AfterQuote ≡ next = cc in
    rw (← e) (rw (read, eqb-true byte quotation_mark quote) refl)
opened separator byte cell text next at.Start false true read is quote = cc
opened separator byte cell text next at.Start false false read is quote = cc
opened separator byte cell text next at.Bare true ends read is quote = cc
opened separator byte cell text next at.Bare false true read is quote = cc
opened separator byte cell text next at.Bare false false read is quote = cc
opened separator byte cell text next at.Quoted false ends read is quote = cc
opened separator byte cell text next at.AfterQuote true ends read is quote = cc
opened separator byte cell text next at.AfterQuote false true read is quote = cc
opened separator byte cell text next at.AfterQuote false false read is quote = cc

-- the cell before a separator
ended : (separator : ℕ) (cell text : List ℕ) (place : CellPlace) (quotes ends : Bool)
    → IsRead separator place cell text → effect_by place quotes ends ≡ does.EndsCell
    → IsCell separator cell text × (ends ≡ true)
ended separator cell text at.Start false true read is = (bare (rw read.1 refl) (read.0 ∙ sym read.1), refl)
ended separator cell text at.Bare false true read is = (bare read.0 read.1, refl)
ended separator cell text at.AfterQuote false true read is = (within_quotes read, refl)
ended separator cell text at.Start true ends read is = cc
ended separator cell text at.Start false false read is = cc
ended separator cell text at.Bare true ends read is = cc
ended separator cell text at.Bare false false read is = cc
ended separator cell text at.Quoted true ends read is = cc
ended separator cell text at.Quoted false ends read is = cc
ended separator cell text at.AfterQuote true ends read is = cc
ended separator cell text at.AfterQuote false false read is = cc

-- the last cell of a line
last : (separator : ℕ) (place : CellPlace) (cell text : List ℕ) (cells : List (List ℕ))
    → IsRead separator place cell text → last_cell place cell ≡ Some cells → IsRow separator cells text
last separator at.Start cell text cells read is =
    let e : cell ∷ [] ≡ cells = cc in rw (← e) (bare (rw read.1 refl) (read.0 ∙ sym read.1))
last separator at.Bare cell text cells read is =
    let e : cell ∷ [] ≡ cells = cc in rw (← e) (bare read.0 read.1)
last separator at.Quoted cell text cells read is = cc
last separator at.AfterQuote cell text cells read is =
    let e : cell ∷ [] ≡ cells = cc in rw (← e) (within_quotes read)

-- the cells after the cell at hand
rest_of : (cell : List ℕ) (found : Option (List (List ℕ))) (cells : List (List ℕ))
    → with_cell cell found ≡ Some cells
    → (more : List (List ℕ)) × (found ≡ Some more) × (cells ≡ cell ∷ more)
rest_of cell None cells is = cc
rest_of cell (Some more) cells is = (more, refl, cc)

-- a cell, the separator, and a row of the others
row_more : (separator : ℕ) (cell text : List ℕ) (more : List (List ℕ)) (rest : List ℕ)
    → IsCell separator cell text → IsRow separator more rest
    → IsRow separator (cell ∷ more) (text ++ separator ∷ rest)
row_more separator cell text [] rest is row = absurd row
row_more separator cell text (next ∷ more) rest is row = (text, rest, is, refl, row)

-- what one byte leaves to be read
read_step : (separator byte : ℕ) (rest : List ℕ)
    → ((place : CellPlace) (cell text : List ℕ) (cells : List (List ℕ)) → IsRead separator place cell text
    → cells_from separator place cell rest ≡ Some cells → IsRow separator cells (text ++ rest))
    → (place : CellPlace) (cell text : List ℕ) (cells : List (List ℕ)) → IsRead separator place cell text
    → (effect : Effect) → effect_of separator place byte ≡ effect
    → elim effect [
      | does.Joins next ↦ cells_from separator next (cell ++ byte ∷ []) rest
      | does.Opens next ↦ cells_from separator next cell rest
      | does.EndsCell ↦ with_cell cell (cells_from separator at.Start [] rest)
      | does.Fails ↦ None
    ] ≡ Some cells
    → IsRow separator cells (text ++ byte ∷ rest)
read_step separator byte rest later place cell text cells read (does.Joins next) effect is =
    rw (← append_assoc text (byte ∷ []) rest)
    (later next (cell ++ byte ∷ []) (text ++ byte ∷ []) cells
    (joined separator byte cell text next place _ _ read effect refl refl) is)
read_step separator byte rest later place cell text cells read (does.Opens next) effect is =
    rw (← append_assoc text (byte ∷ []) rest)
    (later next cell (text ++ byte ∷ []) cells
    (opened separator byte cell text next place _ _ read effect refl) is)
read_step separator byte rest later place cell text cells read does.EndsCell effect is =
    let found = rest_of cell _ cells is in
    let end = ended separator cell text place _ _ read effect in
    let row : IsRow separator found.0 rest = later at.Start [] [] found.0 (refl, refl) found.1 in
    rw (eqb-true byte separator end.1, found.2) (row_more separator cell text found.0 rest end.0 row)
read_step separator byte rest later place cell text cells read does.Fails effect is = cc

read_row : (separator : ℕ) (rest : List ℕ) (place : CellPlace) (cell text : List ℕ)
    (cells : List (List ℕ)) → IsRead separator place cell text
    → cells_from separator place cell rest ≡ Some cells → IsRow separator cells (text ++ rest)
unfolding cells_from
read_row separator [] place cell text cells read is =
    rw (append-nil text) (last separator place cell text cells read is)
read_row separator (byte ∷ rest) place cell text cells read is =
    read_step separator byte rest (read_row separator rest) place cell text cells read
    (effect_of separator place byte) refl is

pub row_of_cells : (separator : ℕ) (line : List ℕ) (cells : List (List ℕ))
    → cells_of separator line ≡ Some cells → IsRow separator cells line
row_of_cells separator line cells is = read_row separator line at.Start [] [] cells (refl, refl) is
