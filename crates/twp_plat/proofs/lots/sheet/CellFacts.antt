-- The loop that reads the cells of a line.
use Rattle.std.proofs.Common.{◌≡◌, ℕ, ◌+◌, ◌<◌, ◌≤◌, List, [], ◌∷◌, ◌++◌, Option, Some, None, length}
use Rattle.std.proofs.Common.{get_or, drop, refl, ap, sym, ◌∙◌, append_assoc, arith, zero, suc}
use Rattle.std.proofs.lemmas.List.{at_drop_more, at_drop_all}
use Rattle.csv.specs.Records.{field_at}
use Rattle.twp_plat.specs.steps.CellCuts.{effect_of, last_cell, with_cell, with_cells, cells_from}
use Rattle.twp_plat.specs.declared.lots.sheet.cells.CellPlace.{CellPlace}
use Rattle.twp_plat.specs.declared.lots.sheet.cells.CellPlace.TheVariants as at
use Rattle.twp_plat.specs.declared.lots.sheet.cells.Effect.TheVariants as does

-- no cells before the others
pub with_no_cells : (found : Option (List (List ℕ))) → with_cells [] found ≡ found
with_no_cells None = refl
with_no_cells (Some cells) = refl

-- a cell moves from the rest to the front
pub one_more_cell : (front : List (List ℕ)) (cell : List ℕ) (found : Option (List (List ℕ)))
    → with_cells (front ++ cell ∷ []) found ≡ with_cells front (with_cell cell found)
one_more_cell front cell None = refl
one_more_cell front cell (Some cells) = ap Some (append_assoc front (cell ∷ []) cells)

-- the rest of a line begins with the byte at its index
at_byte : (separator : ℕ) (place : CellPlace) (cell line : List ℕ) (i : ℕ) → i < length line
    → cells_from separator place cell (drop i line)
    ≡ cells_from separator place cell (get_or line i 0 ∷ drop (i + 1) line)
at_byte separator place cell line i within =
    at_drop_more (cells_from separator place cell) line i 0 within

pub byte_joins : (separator : ℕ) (place next : CellPlace) (cell line : List ℕ) (i : ℕ) → i < length line
    → effect_of separator place (get_or line i 0) ≡ does.Joins next
    → cells_from separator place cell (drop i line)
    ≡ cells_from separator next (cell ++ get_or line i 0 ∷ []) (drop (i + 1) line)
unfolding cells_from
byte_joins separator place next cell line i within is =
    at_byte separator place cell line i within ∙ rw (cells_from, is) refl

pub byte_opens : (separator : ℕ) (place next : CellPlace) (cell line : List ℕ) (i : ℕ) → i < length line
    → effect_of separator place (get_or line i 0) ≡ does.Opens next
    → cells_from separator place cell (drop i line) ≡ cells_from separator next cell (drop (i + 1) line)
unfolding cells_from
byte_opens separator place next cell line i within is =
    at_byte separator place cell line i within ∙ rw (cells_from, is) refl

pub byte_ends_cell : (separator : ℕ) (place : CellPlace) (cell line : List ℕ) (i : ℕ) → i < length line
    → effect_of separator place (get_or line i 0) ≡ does.EndsCell
    → cells_from separator place cell (drop i line)
    ≡ with_cell cell (cells_from separator at.Start [] (drop (i + 1) line))
unfolding cells_from
byte_ends_cell separator place cell line i within is =
    at_byte separator place cell line i within ∙ rw (cells_from, is) refl

pub byte_fails : (separator : ℕ) (place : CellPlace) (cell line : List ℕ) (i : ℕ) → i < length line
    → effect_of separator place (get_or line i 0) ≡ does.Fails
    → cells_from separator place cell (drop i line) ≡ None
unfolding cells_from
byte_fails separator place cell line i within is =
    at_byte separator place cell line i within ∙ rw (cells_from, is) refl

pub at_line_end : (separator : ℕ) (place : CellPlace) (cell line : List ℕ) (i : ℕ) → length line ≤ i
    → cells_from separator place cell (drop i line) ≡ last_cell place cell
unfolding cells_from
at_line_end separator place cell line i past = at_drop_all (cells_from separator place cell) line i past

-- the invariant of the loop, after each kind of byte
pub kept_by_joining : (separator : ℕ) (place next : CellPlace) (cell line : List ℕ) (i : ℕ)
    (front : List (List ℕ)) (whole : Option (List (List ℕ))) → i < length line
    → effect_of separator place (get_or line i 0) ≡ does.Joins next
    → with_cells front (cells_from separator place cell (drop i line)) ≡ whole
    → with_cells front (cells_from separator next (cell ++ get_or line i 0 ∷ []) (drop (i + 1) line)) ≡ whole
kept_by_joining separator place next cell line i front whole within is kept =
    ap (with_cells front) (sym (byte_joins separator place next cell line i within is)) ∙ kept

pub kept_by_opening : (separator : ℕ) (place next : CellPlace) (cell line : List ℕ) (i : ℕ)
    (front : List (List ℕ)) (whole : Option (List (List ℕ))) → i < length line
    → effect_of separator place (get_or line i 0) ≡ does.Opens next
    → with_cells front (cells_from separator place cell (drop i line)) ≡ whole
    → with_cells front (cells_from separator next cell (drop (i + 1) line)) ≡ whole
kept_by_opening separator place next cell line i front whole within is kept =
    ap (with_cells front) (sym (byte_opens separator place next cell line i within is)) ∙ kept

pub kept_by_ending : (separator : ℕ) (place : CellPlace) (cell line : List ℕ) (i : ℕ)
    (front : List (List ℕ)) (whole : Option (List (List ℕ))) → i < length line
    → effect_of separator place (get_or line i 0) ≡ does.EndsCell
    → with_cells front (cells_from separator place cell (drop i line)) ≡ whole
    → with_cells (front ++ cell ∷ []) (cells_from separator at.Start [] (drop (i + 1) line)) ≡ whole
kept_by_ending separator place cell line i front whole within is kept =
    one_more_cell front cell _
    ∙ ap (with_cells front) (sym (byte_ends_cell separator place cell line i within is)) ∙ kept

pub none_by_failing : (separator : ℕ) (place : CellPlace) (cell line : List ℕ) (i : ℕ)
    (front : List (List ℕ)) (whole : Option (List (List ℕ))) → i < length line
    → effect_of separator place (get_or line i 0) ≡ does.Fails
    → with_cells front (cells_from separator place cell (drop i line)) ≡ whole
    → None ≡ whole
none_by_failing separator place cell line i front whole within is kept =
    ap (with_cells front) (sym (byte_fails separator place cell line i within is)) ∙ kept

-- the end of the loop
pub none_within_quotes : (separator : ℕ) (cell line : List ℕ) (i : ℕ)
    (front : List (List ℕ)) (whole : Option (List (List ℕ))) → length line ≤ i
    → with_cells front (cells_from separator at.Quoted cell (drop i line)) ≡ whole
    → None ≡ whole
none_within_quotes separator cell line i front whole past kept =
    ap (with_cells front) (sym (at_line_end separator at.Quoted cell line i past)) ∙ kept

last_cell_is : (place : CellPlace) (cell : List ℕ) → (place ≡ at.Quoted → ⊥)
    → last_cell place cell ≡ Some (cell ∷ [])
last_cell_is at.Start cell not_quoted = refl
last_cell_is at.Bare cell not_quoted = refl
last_cell_is at.Quoted cell not_quoted = absurd (not_quoted refl)
last_cell_is at.AfterQuote cell not_quoted = refl

pub cells_at_end : (separator : ℕ) (place : CellPlace) (cell line : List ℕ) (i : ℕ)
    (front : List (List ℕ)) (whole : Option (List (List ℕ))) → length line ≤ i
    → (place ≡ at.Quoted → ⊥)
    → with_cells front (cells_from separator place cell (drop i line)) ≡ whole
    → Some (front ++ cell ∷ []) ≡ whole
cells_at_end separator place cell line i front whole past not_quoted kept =
    ap (with_cells front)
    (sym (at_line_end separator place cell line i past ∙ last_cell_is place cell not_quoted)) ∙ kept

-- the field of a record at an index
pub field_at_is : (fields : List (List ℕ)) (i : ℕ) → i < length fields
    → field_at fields i ≡ Some (get_or fields i [])
unfolding field_at
field_at_is [] i below = absurd (omega arith)
field_at_is (f ∷ fs) zero below = refl
field_at_is (f ∷ fs) (suc i) below = field_at_is fs i (omega arith)
