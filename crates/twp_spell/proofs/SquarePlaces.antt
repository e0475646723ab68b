-- The square of each level that contains a place.
use Rattle.std.proofs.Common.{◌≡◌, ◌==◌, ℕ, zero, suc, ◌+◌, ◌-◌, ◌*◌, ◌/◌, ◌%◌, ◌^◌, ◌<◌, ◌≤◌, ◌&&◌, true}
use Rattle.std.proofs.Common.{List, [], ◌∷◌, ◌++◌, length, refl, sym, ap, ◌∙◌, arith}
use Rattle.std.proofs.Math.Nat.{pow-succ', div-one, mul-div_cancel}
use Rattle.std.proofs.lemmas.Nat.{pow_pos}
use Rattle.std.proofs.lemmas.Bool.{eqb-true, eq-eqb, and_parts}
use Rattle.twp_grid.specs.declared.block.Corner.{Corner}
use Rattle.twp_grid.specs.declared.block.Corner.TheVariants.{NE, NW, SW, SE}
use Rattle.twp_grid.specs.Cuts.{row_asked, rows_asked, columns_asked}
use Rattle.twp_grid.specs.Cuts.Cut.{quarter}
use Rattle.twp_grid.specs.Places.{IsPlace, binary, begins}
use Rattle.twp_grammar.specs.ItemPlaces.{cuts_of, in_chain}
use Rattle.twp_spell.specs.WrittenParts.{quarter_named, turn_of_quarter, address}
use Rattle.twp_spell.proofs.SquareFacts.{halved_last, axis_last, chain_up, column_digit, row_digit}
use Rattle.twp_spell.proofs.SquareFacts.{asks_column, asks_row, digits_small, named_by_digits}
use Rattle.twp_spell.proofs.SquareFacts.{column_of_named, row_of_named, quarter_steps, columns_long}
use Rattle.twp_spell.proofs.SquareFacts.{rows_long, square_within}

-- the quarters that reach a place of a section whose sides are halved k times, the smallest first
unfoldable pub path : ℕ → ℕ → ℕ → List Corner
path zero column row = []
path (suc k) column row = quarter_named (column % 2) (row % 2) ∷ path k (column / 2) (row / 2)

path_next : (k column row : ℕ)
    → path (suc k) column row ≡ quarter_named (column % 2) (row % 2) ∷ path k (column / 2) (row / 2)
unfolding path
path_next k column row = refl

-- a square of the smallest size contains the place that its quarters reach
quarter_chain : (corner : Corner) (quarters : List Corner) (column row : ℕ)
    → in_chain (suc (length quarters)) (quarter_steps (corner ∷ quarters)) column row
    ≡ ((begins (columns_asked (cuts_of (quarter_steps quarters))) (binary (length quarters) (column / 2))
    && (column_digit corner == column % 2))
    && (begins (rows_asked (cuts_of (quarter_steps quarters))) (binary (length quarters) (row / 2))
    && (row_digit corner == row % 2)))
quarter_chain corner quarters column row =
    let k = length quarters in
    let columns = columns_asked (cuts_of (quarter_steps quarters)) in
    let rows = rows_asked (cuts_of (quarter_steps quarters)) in
    ap (λ asked.
    begins (columns ++ asked) (binary (suc k) column)
    && begins (rows ++ row_asked (quarter corner)) (binary (suc k) row)) (asks_column corner)
    ∙ ap (λ asked.
    begins (columns ++ column_digit corner ∷ []) (binary (suc k) column)
    && begins (rows ++ asked) (binary (suc k) row)) (asks_row corner)
    ∙ ap (λ b. b && begins (rows ++ row_digit corner ∷ []) (binary (suc k) row))
    (axis_last k columns (column_digit corner) column (columns_long quarters))
    ∙ ap (λ b. (begins columns (binary k (column / 2)) && (column_digit corner == column % 2)) && b)
    (axis_last k rows (row_digit corner) row (rows_long quarters))

pub square_reached : (quarters : List Corner) (column row : ℕ)
    → in_chain (length quarters) (quarter_steps quarters) column row ≡ true
    → path (length quarters) column row ≡ quarters
unfolding path
square_reached [] column row inside = refl
square_reached (corner ∷ quarters) column row inside =
    let k = length quarters in
    let columns = begins (columns_asked (cuts_of (quarter_steps quarters))) (binary k (column / 2)) in
    let rows = begins (rows_asked (cuts_of (quarter_steps quarters))) (binary k (row / 2)) in
    let parts =
    and_parts (columns && (column_digit corner == column % 2)) (rows && (row_digit corner == row % 2))
    (sym (quarter_chain corner quarters column row) ∙ inside) in
    let across = and_parts columns (column_digit corner == column % 2) parts.0 in
    let upward = and_parts rows (row_digit corner == row % 2) parts.1 in
    let parent : (columns && rows) ≡ true = rw (across.0, upward.0) refl in
    let x : column_digit corner ≡ column % 2 = eqb-true (column_digit corner) (column % 2) across.1 in
    let y : row_digit corner ≡ row % 2 = eqb-true (row_digit corner) (row % 2) upward.1 in
    ap (λ n. quarter_named n (row % 2) ∷ path k (column / 2) (row / 2)) (sym x)
    ∙ ap (λ n. quarter_named (column_digit corner) n ∷ path k (column / 2) (row / 2)) (sym y)
    ∙ ap (λ q. q ∷ path k (column / 2) (row / 2)) (named_by_digits corner)
    ∙ ap (λ p. corner ∷ p) (square_reached quarters (column / 2) (row / 2) parent)

pub first_of : {X : Type 0} (x y : X) (xs ys : List X) → (x ∷ xs) ≡ (y ∷ ys) → (x ≡ y) × (xs ≡ ys)
first_of x y xs ys e = (cc e, cc e)

pub even_or_odd : (n : ℕ) → n % 2 < 2
even_or_odd n = omega arith

pub reached_square : (quarters : List Corner) (column row : ℕ) → path (length quarters) column row ≡ quarters
    → in_chain (length quarters) (quarter_steps quarters) column row ≡ true
unfolding path
reached_square [] column row is = refl
reached_square (corner ∷ quarters) column row is =
    let k = length quarters in
    let both =
    first_of (quarter_named (column % 2) (row % 2)) corner (path k (column / 2) (row / 2)) quarters is in
    let x : column_digit corner ≡ column % 2 =
    ap column_digit (sym both.0) ∙ column_of_named (column % 2) (row % 2) (even_or_odd column) in
    let y : row_digit corner ≡ row % 2 =
    ap row_digit (sym both.0) ∙ row_of_named (column % 2) (row % 2) (even_or_odd row) in
    let parent =
    and_parts (begins (columns_asked (cuts_of (quarter_steps quarters))) (binary k (column / 2)))
    (begins (rows_asked (cuts_of (quarter_steps quarters))) (binary k (row / 2)))
    (reached_square quarters (column / 2) (row / 2) both.1) in
    quarter_chain corner quarters column row
    ∙ rw
    (parent.0, parent.1, eq-eqb (column_digit corner) (column % 2) x, eq-eqb (row_digit corner) (row % 2) y)
    refl

-- the square of level k that contains a place, and its quarter in that square
abbrev pub up : ℕ → ℕ → ℕ → ℕ → List Corner
up g k column row = path k (column / 2 ^ (g - k)) (row / 2 ^ (g - k))

abbrev pub corner_at : ℕ → ℕ → ℕ → ℕ → Corner
corner_at g k column row = quarter_named (column / 2 ^ (g - suc k) % 2) (row / 2 ^ (g - suc k) % 2)

pub up_none : (g column row : ℕ) → up g 0 column row ≡ []
unfolding path
up_none g column row = refl

pub up_next : (g k column row : ℕ) → k < g
    → up g (suc k) column row ≡ corner_at g k column row ∷ up g k column row
up_next g k column row less =
    let next : g - k ≡ suc (g - suc k) = omega arith in
    let half_column : column / 2 ^ (g - k) ≡ column / 2 ^ (g - suc k) / 2 =
    ap (λ n. column / 2 ^ n) next ∙ halved_last column (g - suc k) in
    let half_row : row / 2 ^ (g - k) ≡ row / 2 ^ (g - suc k) / 2 =
    ap (λ n. row / 2 ^ n) next ∙ halved_last row (g - suc k) in
    path_next k (column / 2 ^ (g - suc k)) (row / 2 ^ (g - suc k))
    ∙ ap (λ n. corner_at g k column row ∷ path k n (row / 2 ^ (g - suc k) / 2)) (sym half_column)
    ∙ ap (λ n. corner_at g k column row ∷ path k (column / 2 ^ (g - k)) n) (sym half_row)

-- the places in a square
pub in_square : (g : ℕ) (quarters : List Corner) (column row : ℕ) → length quarters ≤ g
    → in_chain g (quarter_steps quarters) column row ≡ true → up g (length quarters) column row ≡ quarters
in_square g quarters column row fits inside =
    let k = length quarters in
    let above =
    chain_up (g - k) g k (quarter_steps quarters) column row (omega arith)
    (square_within k quarters (omega arith)) in
    square_reached quarters (column / 2 ^ (g - k)) (row / 2 ^ (g - k)) (sym above ∙ inside)

pub square_in : (g : ℕ) (quarters : List Corner) (column row : ℕ) → length quarters ≤ g
    → up g (length quarters) column row ≡ quarters → in_chain g (quarter_steps quarters) column row ≡ true
square_in g quarters column row fits is =
    let k = length quarters in
    let above =
    chain_up (g - k) g k (quarter_steps quarters) column row (omega arith)
    (square_within k quarters (omega arith)) in
    above ∙ reached_square quarters (column / 2 ^ (g - k)) (row / 2 ^ (g - k)) is

-- the column of the place that the quarters reach
unfoldable column_of : List Corner → ℕ
column_of [] = 0
column_of (corner ∷ quarters) = 2 * column_of quarters + column_digit corner

unfoldable row_of : List Corner → ℕ
row_of [] = 0
row_of (corner ∷ quarters) = 2 * row_of quarters + row_digit corner

path_to : (quarters : List Corner) → path (length quarters) (column_of quarters) (row_of quarters) ≡ quarters
unfolding path column_of row_of
path_to [] = refl
path_to (corner ∷ quarters) =
    let small = digits_small corner in
    let x : (2 * column_of quarters + column_digit corner) % 2 ≡ column_digit corner =
    omega (arith, small.0) in
    let y : (2 * row_of quarters + row_digit corner) % 2 ≡ row_digit corner = omega (arith, small.1) in
    let across : (2 * column_of quarters + column_digit corner) / 2 ≡ column_of quarters =
    omega (arith, small.0) in
    let upward : (2 * row_of quarters + row_digit corner) / 2 ≡ row_of quarters = omega (arith, small.1) in
    rw (x, y, across, upward, named_by_digits corner, path_to quarters) refl

place_below : (quarters : List Corner)
    → (column_of quarters < 2 ^ length quarters) × (row_of quarters < 2 ^ length quarters)
unfolding column_of row_of
place_below [] = (omega arith, omega arith)
place_below (corner ∷ quarters) =
    let small = digits_small corner in
    let rest = place_below quarters in
    let power = pow-succ' 2 (length quarters) in
    (omega (arith, small.0, rest.0), omega (arith, small.1, rest.1))

-- a place of a square
pub record PlaceOf (g : ℕ) (quarters : List Corner) : Type 0 where
  pub column : ℕ
  pub row : ℕ
  pub place : IsPlace g column row
  pub is : up g (length quarters) column row ≡ quarters

below_up : (n k h g : ℕ) → n < 2 ^ k → g ≡ k + h → n * 2 ^ h < 2 ^ g
below_up n k zero g less is =
    let same : g ≡ k = omega arith in
    let power : 2 ^ g ≡ 2 ^ k = ap (λ m. 2 ^ m) same in
    omega arith
below_up n k (suc h) zero less is = absurd (omega arith)
below_up n k (suc h) (suc g) less is =
    let more : n * 2 ^ h < 2 ^ g = below_up n k h g less (omega arith) in
    let power = pow-succ' 2 g in
    let power' : n * 2 ^ suc h ≡ n * (2 * 2 ^ h) = ap (λ m. n * m) (pow-succ' 2 h) in
    omega arith

pub place_of : (g : ℕ) (quarters : List Corner) → length quarters ≤ g → PlaceOf g quarters
place_of g quarters fits =
    let k = length quarters in
    let h = g - length quarters in
    let below = place_below quarters in
    let across : column_of quarters * 2 ^ h / 2 ^ h ≡ column_of quarters =
    mul-div_cancel (column_of quarters) (pow_pos h) in
    let upward : row_of quarters * 2 ^ h / 2 ^ h ≡ row_of quarters =
    mul-div_cancel (row_of quarters) (pow_pos h) in
    record {
      column = column_of quarters * 2 ^ h;
      row = row_of quarters * 2 ^ h;
      place = (
        below_up (column_of quarters) k h g below.0 (omega arith),
        below_up (row_of quarters) k h g below.1 (omega arith),
      );
      is = rw (across, upward) (path_to quarters);
    }

-- a square of the smallest size contains only one place
same_number : (n m : ℕ) → n / 2 ≡ m / 2 → n % 2 ≡ m % 2 → n ≡ m
same_number n m halves rest = omega arith

pub one_place : (g column row column' row' : ℕ) → IsPlace g column row → IsPlace g column' row'
    → path g column row ≡ path g column' row' → (column ≡ column') × (row ≡ row')
unfolding path
one_place zero column row column' row' place place' same =
    let across = place.0 in
    let across' = place'.0 in
    let upward = place.1 in
    let upward' = place'.1 in
    (omega arith, omega arith)
one_place (suc g) column row column' row' place place' same =
    let power = pow-succ' 2 g in
    let across = place.0 in
    let across' = place'.0 in
    let upward = place.1 in
    let upward' = place'.1 in
    let both =
    first_of (quarter_named (column % 2) (row % 2)) (quarter_named (column' % 2) (row' % 2))
    (path g (column / 2) (row / 2)) (path g (column' / 2) (row' / 2)) same in
    let rest =
    one_place g (column / 2) (row / 2) (column' / 2) (row' / 2) ((omega arith), (omega arith))
    ((omega arith), (omega arith)) both.1 in
    let x : column % 2 ≡ column' % 2 =
    sym (column_of_named (column % 2) (row % 2) (even_or_odd column))
    ∙ ap column_digit both.0
    ∙ column_of_named (column' % 2) (row' % 2) (even_or_odd column') in
    let y : row % 2 ≡ row' % 2 =
    sym (row_of_named (column % 2) (row % 2) (even_or_odd row))
    ∙ ap row_digit both.0
    ∙ row_of_named (column' % 2) (row' % 2) (even_or_odd row') in
    (same_number column column' rest.0 x, same_number row row' rest.1 y)

pub up_all : (g column row : ℕ) → up g g column row ≡ path g column row
up_all g column row =
    let none : g - g ≡ 0 = omega arith in
    ap (λ h. path g (column / 2 ^ h) (row / 2 ^ h)) none
    ∙ ap (λ n. path g n (row / 1)) (div-one column)
    ∙ ap (λ n. path g column n) (div-one row)

-- places with the same address are the same
unfoldable quarter_of_turn : ℕ → Corner
quarter_of_turn zero = NE
quarter_of_turn (suc zero) = NW
quarter_of_turn (suc (suc zero)) = SW
quarter_of_turn (suc (suc (suc n))) = SE

turn_back : (corner : Corner) → quarter_of_turn (turn_of_quarter corner) ≡ corner
unfolding quarter_of_turn
turn_back NE = refl
turn_back NW = refl
turn_back SW = refl
turn_back SE = refl

pub same_quarter : (corner other : Corner) → turn_of_quarter corner ≡ turn_of_quarter other → corner ≡ other
same_quarter corner other same = sym (turn_back corner) ∙ ap quarter_of_turn same ∙ turn_back other

pub turn_small : (corner : Corner) → turn_of_quarter corner < 4
turn_small NE = omega arith
turn_small NW = omega arith
turn_small SW = omega arith
turn_small SE = omega arith

pub one_address : (g column row column' row' : ℕ) → IsPlace g column row → IsPlace g column' row'
    → address g column row ≡ address g column' row' → path g column row ≡ path g column' row'
unfolding path
one_address zero column row column' row' place place' same = refl
one_address (suc g) column row column' row' place place' same =
    let q = quarter_named (column % 2) (row % 2) in
    let q' = quarter_named (column' % 2) (row' % 2) in
    let small = turn_small q in
    let small' = turn_small q' in
    let power = pow-succ' 2 g in
    let across = place.0 in
    let across' = place'.0 in
    let upward = place.1 in
    let upward' = place'.1 in
    let parent : address g (column / 2) (row / 2) ≡ address g (column' / 2) (row' / 2) = omega arith in
    let turn : turn_of_quarter q ≡ turn_of_quarter q' = omega arith in
    let quarter_is : q ≡ q' = sym (turn_back q) ∙ ap quarter_of_turn turn ∙ turn_back q' in
    ap (λ p. p ∷ path g (column / 2) (row / 2)) quarter_is
    ∙ ap (λ p. q' ∷ p)
    (one_address g (column / 2) (row / 2) (column' / 2) (row' / 2) ((omega arith), (omega arith))
    ((omega arith), (omega arith)) parent)
