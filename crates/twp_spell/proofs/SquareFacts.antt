-- Squares of a section and their halves: the places they contain.
use Rattle.std.proofs.Common.{◌≡◌, ◌==◌, ℕ, zero, suc, ◌+◌, ◌/◌, ◌%◌, ◌^◌, ◌<◌, ◌≤◌, ◌&&◌, Bool, true, false}
use Rattle.std.proofs.Common.{List, [], ◌∷◌, ◌++◌, length, map, refl, sym, ap, ◌∙◌, arith, length-append}
use Rattle.std.proofs.Math.Nat.{pow-succ', div-div-eq-div-mul, div-one}
use Rattle.std.proofs.lemmas.List.{append-nil}
use Rattle.twp_grid.specs.declared.block.Side.{Side}
use Rattle.twp_grid.specs.declared.block.Side.TheVariants.{N, S, E, W}
use Rattle.twp_grid.specs.declared.block.Corner.{Corner}
use Rattle.twp_grid.specs.declared.block.Corner.TheVariants.{NE, NW, SW, SE}
use Rattle.twp_grid.specs.Cuts.{row_asked, column_asked, rows_asked, columns_asked, AreWithin}
use Rattle.twp_grid.specs.Cuts.Cut.{half, quarter}
use Rattle.twp_grid.specs.Places.{binary, begins}
use Rattle.twp_grid.proofs.FinerPlaces.{halved, binary_last, length_binary, axis_coarser}
use Rattle.twp_grammar.specs.declared.item.Step.{Step}
use Rattle.twp_grammar.specs.declared.item.Step.TheVariants.{Quarter}
use Rattle.twp_grammar.specs.ItemPlaces.{cuts_of, in_chain}
use Rattle.twp_grammar.proofs.FinerItems.{chain_coarser, within_greater}
use Rattle.twp_spell.specs.WrittenParts.{steps_of_part, quarter_named}
use Rattle.twp_spell.specs.WrittenParts.Part.{half_of_square}

-- the digits of a number
pub halved_last : (n h : ℕ) → n / 2 ^ suc h ≡ n / 2 ^ h / 2
halved_last n h =
    sym (div-div-eq-div-mul n (2 ^ h) 2 ∙ ap (λ p. n / p) (let power = pow-succ' 2 h in omega arith))

and_true : (x : Bool) → (x && true) ≡ x
and_true true = refl
and_true false = refl

pub and_and : (x y z : Bool) → (x && (y && z)) ≡ ((x && y) && z)
and_and true y z = refl
and_and false y z = refl

begins_last : (asked digits : List ℕ) (d e : ℕ) → length asked ≡ length digits
    → begins (asked ++ d ∷ []) (digits ++ e ∷ []) ≡ (begins asked digits && (d == e))
begins_last [] [] d e same = and_true (d == e)
begins_last [] (b ∷ digits) d e same = absurd (omega arith)
begins_last (a ∷ asked) [] d e same = absurd (omega arith)
begins_last (a ∷ asked) (b ∷ digits) d e same =
    ap (λ x. (a == b) && x) (begins_last asked digits d e (omega arith))
    ∙ and_and (a == b) (begins asked digits) (d == e)

pub axis_last : (g : ℕ) (asked : List ℕ) (d n : ℕ) → length asked ≡ g
    → begins (asked ++ d ∷ []) (binary (suc g) n) ≡ (begins asked (binary g (n / 2)) && (d == n % 2))
axis_last g asked d n same =
    ap (λ digits. begins (asked ++ d ∷ []) digits) (binary_last g n)
    ∙ begins_last asked (binary g (n / 2)) d (n % 2) (same ∙ sym (length_binary g (n / 2)))

pub axis_none : (g : ℕ) (asked : List ℕ) (n : ℕ) → length asked ≡ g
    → begins (asked ++ []) (binary (suc g) n) ≡ begins asked (binary g (n / 2))
axis_none g asked n same =
    ap (λ a. begins a (binary (suc g) n)) (append-nil asked) ∙ axis_coarser g asked n (omega arith)

-- the places of steps, if each place is one of those that a larger place was divided into
pub chain_up : (h g k : ℕ) (steps : List Step) (column row : ℕ) → g ≡ k + h → AreWithin k (cuts_of steps)
    → in_chain g steps column row ≡ in_chain k steps (column / 2 ^ h) (row / 2 ^ h)
chain_up zero g k steps column row is within =
    let same : g ≡ k = omega arith in
    ap (λ n. in_chain n steps column row) same
    ∙ ap (λ n. in_chain k steps n row) (sym (div-one column))
    ∙ ap (λ n. in_chain k steps (column / 1) n) (sym (div-one row))
chain_up (suc h) zero k steps column row is within = absurd (omega arith)
chain_up (suc h) (suc g) k steps column row is within =
    chain_coarser g steps column row (within_greater k g steps (omega arith) within)
    ∙ chain_up h g k steps (column / 2) (row / 2) (omega arith) within
    ∙ ap (λ n. in_chain k steps n (row / 2 / 2 ^ h)) (sym (halved column h))
    ∙ ap (λ n. in_chain k steps (column / 2 ^ suc h) n) (sym (halved row h))

-- the binary digits that a quarter asks for
pub column_digit : Corner → ℕ
column_digit NE = 0
column_digit NW = 1
column_digit SW = 1
column_digit SE = 0

pub row_digit : Corner → ℕ
row_digit NE = 1
row_digit NW = 1
row_digit SW = 0
row_digit SE = 0

pub asks_column : (corner : Corner) → column_asked (quarter corner) ≡ column_digit corner ∷ []
unfolding column_digit
asks_column NE = refl
asks_column NW = refl
asks_column SW = refl
asks_column SE = refl

pub asks_row : (corner : Corner) → row_asked (quarter corner) ≡ row_digit corner ∷ []
unfolding row_digit
asks_row NE = refl
asks_row NW = refl
asks_row SW = refl
asks_row SE = refl

pub digits_small : (corner : Corner) → (column_digit corner < 2) × (row_digit corner < 2)
unfolding column_digit row_digit
digits_small NE = (omega arith, omega arith)
digits_small NW = (omega arith, omega arith)
digits_small SW = (omega arith, omega arith)
digits_small SE = (omega arith, omega arith)

pub named_by_digits : (corner : Corner) → quarter_named (column_digit corner) (row_digit corner) ≡ corner
unfolding column_digit row_digit
named_by_digits NE = refl
named_by_digits NW = refl
named_by_digits SW = refl
named_by_digits SE = refl

pub column_of_named : (x y : ℕ) → x < 2 → column_digit (quarter_named x y) ≡ x
unfolding column_digit
column_of_named zero zero small = refl
column_of_named zero (suc y) small = refl
column_of_named (suc zero) zero small = refl
column_of_named (suc zero) (suc y) small = refl
column_of_named (suc (suc x)) y small = absurd (omega arith)

pub row_of_named : (x y : ℕ) → y < 2 → row_digit (quarter_named x y) ≡ y
unfolding row_digit
row_of_named zero zero small = refl
row_of_named (suc x) zero small = refl
row_of_named zero (suc zero) small = refl
row_of_named (suc x) (suc zero) small = refl
row_of_named x (suc (suc y)) small = absurd (omega arith)

-- the steps of quarters
abbrev pub quarter_steps : List Corner → List Step
quarter_steps quarters = map (λ corner. Quarter corner) quarters

pub columns_long : (quarters : List Corner)
    → length (columns_asked (cuts_of (quarter_steps quarters))) ≡ length quarters
columns_long [] = refl
columns_long (corner ∷ quarters) =
    let more = columns_long quarters in
    length-append (columns_asked (cuts_of (quarter_steps quarters))) (column_asked (quarter corner))
    ∙ ap (λ asked. length (columns_asked (cuts_of (quarter_steps quarters))) + length asked)
    (asks_column corner)
    ∙ omega arith

pub rows_long : (quarters : List Corner)
    → length (rows_asked (cuts_of (quarter_steps quarters))) ≡ length quarters
rows_long [] = refl
rows_long (corner ∷ quarters) =
    let more = rows_long quarters in
    length-append (rows_asked (cuts_of (quarter_steps quarters))) (row_asked (quarter corner))
    ∙ ap (λ asked. length (rows_asked (cuts_of (quarter_steps quarters))) + length asked) (asks_row corner)
    ∙ omega arith

pub square_within : (g : ℕ) (quarters : List Corner) → length quarters ≤ g
    → AreWithin g (cuts_of (quarter_steps quarters))
square_within g quarters fits =
    record { rows = rw (rows_long quarters) fits; columns = rw (columns_long quarters) fits }

pub square_fits : (g : ℕ) (quarters : List Corner) → AreWithin g (cuts_of (quarter_steps quarters))
    → length quarters ≤ g
square_fits g quarters within = let rows = within.rows in let long = rows_long quarters in omega arith

pub half_within : (g : ℕ) (side : Side) (quarters : List Corner) → length quarters < g
    → AreWithin g (cuts_of (steps_of_part (half_of_square side quarters)))
half_within g side quarters fits = record { rows = rows side; columns = columns side }
  where
    axis : (asked extra : List ℕ) → length asked ≡ length quarters → length extra ≤ 1
        → length (asked ++ extra) ≤ g
    axis asked extra long few = omega (arith, length-append asked extra)

    rows : (side : Side) → length (rows_asked (cuts_of (quarter_steps quarters)) ++ row_asked (half side)) ≤ g
    rows N = axis (rows_asked (cuts_of (quarter_steps quarters))) (1 ∷ []) (rows_long quarters) (omega arith)
    rows S = axis (rows_asked (cuts_of (quarter_steps quarters))) (0 ∷ []) (rows_long quarters) (omega arith)
    rows E = axis (rows_asked (cuts_of (quarter_steps quarters))) [] (rows_long quarters) (omega arith)
    rows W = axis (rows_asked (cuts_of (quarter_steps quarters))) [] (rows_long quarters) (omega arith)

    columns : (side : Side)
        → length (columns_asked (cuts_of (quarter_steps quarters)) ++ column_asked (half side)) ≤ g
    columns N =
        axis (columns_asked (cuts_of (quarter_steps quarters))) [] (columns_long quarters) (omega arith)
    columns S =
        axis (columns_asked (cuts_of (quarter_steps quarters))) [] (columns_long quarters) (omega arith)
    columns E =
        axis (columns_asked (cuts_of (quarter_steps quarters))) (0 ∷ []) (columns_long quarters) (omega arith)
    columns W =
        axis (columns_asked (cuts_of (quarter_steps quarters))) (1 ∷ []) (columns_long quarters) (omega arith)

pub half_fits : (g : ℕ) (side : Side) (quarters : List Corner)
    → AreWithin g (cuts_of (steps_of_part (half_of_square side quarters))) → length quarters < g
half_fits g side quarters within = fits side within
  where
    more : (asked : List ℕ) (d : ℕ) → length asked ≡ length quarters → length (asked ++ d ∷ []) ≤ g
        → length quarters < g
    more asked d long fits = omega (arith, length-append asked (d ∷ []))

    fits : (side : Side) → AreWithin g (cuts_of (steps_of_part (half_of_square side quarters)))
        → length quarters < g
    fits N within = more (rows_asked (cuts_of (quarter_steps quarters))) 1 (rows_long quarters) within.rows
    fits S within = more (rows_asked (cuts_of (quarter_steps quarters))) 0 (rows_long quarters) within.rows
    fits E within =
        more (columns_asked (cuts_of (quarter_steps quarters))) 0 (columns_long quarters) within.columns
    fits W within =
        more (columns_asked (cuts_of (quarter_steps quarters))) 1 (columns_long quarters) within.columns
