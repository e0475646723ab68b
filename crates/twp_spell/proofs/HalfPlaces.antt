-- The places in halves of squares.
use Rattle.std.proofs.Common.{◌≡◌, ◌==◌, ℕ, zero, suc, ◌-◌, ◌/◌, ◌%◌, ◌^◌, ◌<◌, ◌&&◌, Bool, true, List}
use Rattle.std.proofs.Common.{length, refl, sym, ap, ◌∙◌, arith}
use Rattle.std.proofs.lemmas.Bool.{eqb-true, eq-eqb, and_parts}
use Rattle.twp_grid.specs.declared.block.Side.{Side}
use Rattle.twp_grid.specs.declared.block.Side.TheVariants.{N, S, E, W}
use Rattle.twp_grid.specs.declared.block.Corner.{Corner}
use Rattle.twp_grid.specs.Cuts.{rows_asked, columns_asked}
use Rattle.twp_grid.specs.Places.{binary, begins}
use Rattle.twp_grammar.specs.ItemPlaces.{cuts_of, in_chain}
use Rattle.twp_spell.specs.WrittenParts.{steps_of_part, IsOnSide, quarter_named}
use Rattle.twp_spell.specs.WrittenParts.Part.{half_of_square}
use Rattle.twp_spell.proofs.SquareFacts.{halved_last, axis_last, axis_none, chain_up, quarter_steps}
use Rattle.twp_spell.proofs.SquareFacts.{columns_long, rows_long, half_within}
use Rattle.twp_spell.proofs.SquarePlaces.{path, square_reached, reached_square, even_or_odd, up, corner_at}

-- the digits of the quarters on a side
north : (x y : ℕ) → 1 ≡ y → IsOnSide N (quarter_named x y)
north x zero is = absurd (omega arith)
north zero (suc y) is = tt
north (suc x) (suc y) is = tt

is_north : (x y : ℕ) → y < 2 → IsOnSide N (quarter_named x y) → 1 ≡ y
is_north zero zero small on = absurd on
is_north (suc x) zero small on = absurd on
is_north x (suc y) small on = omega arith

south : (x y : ℕ) → 0 ≡ y → IsOnSide S (quarter_named x y)
south x (suc y) is = absurd (omega arith)
south zero zero is = tt
south (suc x) zero is = tt

is_south : (x y : ℕ) → y < 2 → IsOnSide S (quarter_named x y) → 0 ≡ y
is_south zero (suc y) small on = absurd on
is_south (suc x) (suc y) small on = absurd on
is_south x zero small on = omega arith

east : (x y : ℕ) → 0 ≡ x → IsOnSide E (quarter_named x y)
east (suc x) y is = absurd (omega arith)
east zero zero is = tt
east zero (suc y) is = tt

is_east : (x y : ℕ) → x < 2 → IsOnSide E (quarter_named x y) → 0 ≡ x
is_east (suc x) zero small on = absurd on
is_east (suc x) (suc y) small on = absurd on
is_east zero y small on = omega arith

west : (x y : ℕ) → 1 ≡ x → IsOnSide W (quarter_named x y)
west zero y is = absurd (omega arith)
west (suc x) zero is = tt
west (suc x) (suc y) is = tt

is_west : (x y : ℕ) → x < 2 → IsOnSide W (quarter_named x y) → 1 ≡ x
is_west zero zero small on = absurd on
is_west zero (suc y) small on = absurd on
is_west (suc x) y small on = omega arith

-- the digits that a half asks for after its square's quarters
column_begins : List Corner → ℕ → Bool
column_begins quarters column =
    begins (columns_asked (cuts_of (quarter_steps quarters))) (binary (length quarters) (column / 2))

row_begins : List Corner → ℕ → Bool
row_begins quarters row =
    begins (rows_asked (cuts_of (quarter_steps quarters))) (binary (length quarters) (row / 2))

half_asks : Side → List Corner → ℕ → ℕ → Bool
half_asks N quarters column row = column_begins quarters column && (row_begins quarters row && (1 == row % 2))
half_asks S quarters column row = column_begins quarters column && (row_begins quarters row && (0 == row % 2))
half_asks E quarters column row =
    (column_begins quarters column && (0 == column % 2)) && row_begins quarters row
half_asks W quarters column row =
    (column_begins quarters column && (1 == column % 2)) && row_begins quarters row

both_axes : (a b c d : Bool) → a ≡ c → b ≡ d → (a && b) ≡ (c && d)
both_axes a b c d e f = rw (e, f) refl

half_chain : (side : Side) (quarters : List Corner) (column row : ℕ)
    → in_chain (suc (length quarters)) (steps_of_part (half_of_square side quarters)) column row
    ≡ half_asks side quarters column row
unfolding half_asks column_begins row_begins
half_chain N quarters column row =
    let k = length quarters in
    let columns = columns_asked (cuts_of (quarter_steps quarters)) in
    let rows = rows_asked (cuts_of (quarter_steps quarters)) in
    both_axes _ _ _ _ (axis_none k columns column (columns_long quarters))
    (axis_last k rows 1 row (rows_long quarters))
half_chain S quarters column row =
    let k = length quarters in
    let columns = columns_asked (cuts_of (quarter_steps quarters)) in
    let rows = rows_asked (cuts_of (quarter_steps quarters)) in
    both_axes _ _ _ _ (axis_none k columns column (columns_long quarters))
    (axis_last k rows 0 row (rows_long quarters))
half_chain E quarters column row =
    let k = length quarters in
    let columns = columns_asked (cuts_of (quarter_steps quarters)) in
    let rows = rows_asked (cuts_of (quarter_steps quarters)) in
    both_axes _ _ _ _ (axis_last k columns 0 column (columns_long quarters))
    (axis_none k rows row (rows_long quarters))
half_chain W quarters column row =
    let k = length quarters in
    let columns = columns_asked (cuts_of (quarter_steps quarters)) in
    let rows = rows_asked (cuts_of (quarter_steps quarters)) in
    both_axes _ _ _ _ (axis_last k columns 1 column (columns_long quarters))
    (axis_none k rows row (rows_long quarters))

-- the half of a square of the second smallest size
abbrev Reaches : Side → List Corner → ℕ → ℕ → Type 0
Reaches side quarters column row =
    (path (length quarters) (column / 2) (row / 2) ≡ quarters)
    × IsOnSide side (quarter_named (column % 2) (row % 2))

parent_reached : (quarters : List Corner) (column row : ℕ) → column_begins quarters column ≡ true
    → row_begins quarters row ≡ true → path (length quarters) (column / 2) (row / 2) ≡ quarters
unfolding column_begins row_begins
parent_reached quarters column row across upward =
    square_reached quarters (column / 2) (row / 2) (rw (across, upward) refl)

half_reached : (side : Side) (quarters : List Corner) (column row : ℕ)
    → half_asks side quarters column row ≡ true → Reaches side quarters column row
unfolding half_asks
half_reached N quarters column row inside =
    let outer =
    and_parts (column_begins quarters column) (row_begins quarters row && (1 == row % 2)) inside in
    let inner = and_parts (row_begins quarters row) (1 == row % 2) outer.1 in (
      parent_reached quarters column row outer.0 inner.0,
      north (column % 2) (row % 2) (eqb-true 1 (row % 2) inner.1),
    )
half_reached S quarters column row inside =
    let outer =
    and_parts (column_begins quarters column) (row_begins quarters row && (0 == row % 2)) inside in
    let inner = and_parts (row_begins quarters row) (0 == row % 2) outer.1 in (
      parent_reached quarters column row outer.0 inner.0,
      south (column % 2) (row % 2) (eqb-true 0 (row % 2) inner.1),
    )
half_reached E quarters column row inside =
    let outer =
    and_parts (column_begins quarters column && (0 == column % 2)) (row_begins quarters row) inside in
    let inner = and_parts (column_begins quarters column) (0 == column % 2) outer.0 in (
      parent_reached quarters column row inner.0 outer.1,
      east (column % 2) (row % 2) (eqb-true 0 (column % 2) inner.1),
    )
half_reached W quarters column row inside =
    let outer =
    and_parts (column_begins quarters column && (1 == column % 2)) (row_begins quarters row) inside in
    let inner = and_parts (column_begins quarters column) (1 == column % 2) outer.0 in (
      parent_reached quarters column row inner.0 outer.1,
      west (column % 2) (row % 2) (eqb-true 1 (column % 2) inner.1),
    )

reached_parent : (quarters : List Corner) (column row : ℕ)
    → path (length quarters) (column / 2) (row / 2) ≡ quarters
    → (column_begins quarters column ≡ true) × (row_begins quarters row ≡ true)
unfolding column_begins row_begins
reached_parent quarters column row is =
    and_parts
    (begins (columns_asked (cuts_of (quarter_steps quarters))) (binary (length quarters) (column / 2)))
    (begins (rows_asked (cuts_of (quarter_steps quarters))) (binary (length quarters) (row / 2)))
    (reached_square quarters (column / 2) (row / 2) is)

reached_half : (side : Side) (quarters : List Corner) (column row : ℕ) → Reaches side quarters column row
    → half_asks side quarters column row ≡ true
unfolding half_asks
reached_half N quarters column row reaches =
    let parent = reached_parent quarters column row reaches.0 in
    rw (parent.0, parent.1, eq-eqb 1 (row % 2) (is_north (column % 2) (row % 2) (even_or_odd row) reaches.1))
    refl
reached_half S quarters column row reaches =
    let parent = reached_parent quarters column row reaches.0 in
    rw (parent.0, parent.1, eq-eqb 0 (row % 2) (is_south (column % 2) (row % 2) (even_or_odd row) reaches.1))
    refl
reached_half E quarters column row reaches =
    let parent = reached_parent quarters column row reaches.0 in
    rw (
      parent.0,
      parent.1,
      eq-eqb 0 (column % 2) (is_east (column % 2) (row % 2) (even_or_odd column) reaches.1),
    ) refl
reached_half W quarters column row reaches =
    let parent = reached_parent quarters column row reaches.0 in
    rw (
      parent.0,
      parent.1,
      eq-eqb 1 (column % 2) (is_west (column % 2) (row % 2) (even_or_odd column) reaches.1),
    ) refl

-- the place's square at level k, from its square at the next level
parent_up : (g k column row : ℕ) → k < g
    → path k (column / 2 ^ (g - suc k) / 2) (row / 2 ^ (g - suc k) / 2) ≡ up g k column row
parent_up g k column row less =
    let next : g - k ≡ suc (g - suc k) = omega arith in
    let half_column : column / 2 ^ (g - k) ≡ column / 2 ^ (g - suc k) / 2 =
    ap (λ n. column / 2 ^ n) next ∙ halved_last column (g - suc k) in
    let half_row : row / 2 ^ (g - k) ≡ row / 2 ^ (g - suc k) / 2 =
    ap (λ n. row / 2 ^ n) next ∙ halved_last row (g - suc k) in
    ap (λ n. path k n (row / 2 ^ (g - suc k) / 2)) (sym half_column)
    ∙ ap (λ n. path k (column / 2 ^ (g - k)) n) (sym half_row)

-- the places in a half
pub in_half : (g : ℕ) (side : Side) (quarters : List Corner) (column row : ℕ) → length quarters < g
    → in_chain g (steps_of_part (half_of_square side quarters)) column row ≡ true
    → (up g (length quarters) column row ≡ quarters)
    × IsOnSide side (corner_at g (length quarters) column row)
in_half g side quarters column row fits inside =
    let k = length quarters in
    let above =
    chain_up (g - suc k) g (suc k) (steps_of_part (half_of_square side quarters)) column row (omega arith)
    (half_within (suc k) side quarters (omega arith)) in
    let reached =
    half_reached side quarters (column / 2 ^ (g - suc k)) (row / 2 ^ (g - suc k))
    (sym (half_chain side quarters (column / 2 ^ (g - suc k)) (row / 2 ^ (g - suc k)))
    ∙ sym above
    ∙ inside) in
    (sym (parent_up g k column row fits) ∙ reached.0, reached.1)

pub half_in : (g : ℕ) (side : Side) (quarters : List Corner) (column row : ℕ) → length quarters < g
    → up g (length quarters) column row ≡ quarters
    → IsOnSide side (corner_at g (length quarters) column row)
    → in_chain g (steps_of_part (half_of_square side quarters)) column row ≡ true
half_in g side quarters column row fits is on =
    let k = length quarters in
    let above =
    chain_up (g - suc k) g (suc k) (steps_of_part (half_of_square side quarters)) column row (omega arith)
    (half_within (suc k) side quarters (omega arith)) in
    above ∙ half_chain side quarters (column / 2 ^ (g - suc k)) (row / 2 ^ (g - suc k))
    ∙ reached_half side quarters (column / 2 ^ (g - suc k)) (row / 2 ^ (g - suc k))
    (parent_up g k column row fits ∙ is, on)
