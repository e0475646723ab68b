-- A section's places, stored in rows.
use Rattle.std.proofs.Common.{◌≡◌, ℕ, zero, suc, ◌+◌, ◌-◌, ◌<◌, ◌≤◌, ◌&&◌, ◌||◌, Bool, true, false, List, []}
use Rattle.std.proofs.Common.{length, get_or, nat_le, nat_lt, ap, refl, sym, ◌∙◌, inl, inr, arith, replicate}
use Rattle.std.proofs.Math.Path.{fun_ext}
use Rattle.std.proofs.Math.ListN.{set}
use Rattle.std.proofs.lemmas.List.{get_or-set_same, get_or-set_other}
use Rattle.std.proofs.lemmas.Bool.{cases_eq, and_parts, cases_Bool, and_right}
use Rattle.std.proofs.lemmas.Bool.Decides.{nat_tests}
use Rattle.twp_grid.specs.Places.{PLACE_DIGITS, places_across, is_place}
use Rattle.twp_grid.specs.Spans.{Interval, in_span, IsDyadic, Rectangle, in_rectangle}
use Rattle.twp_grid.specs.Spans.{total, one_where}
use Rattle.twp_grid.proofs.TotalFacts.{total-zero, total-next, total-ext}
use Rattle.twp_grid.specs.Lands.{Meets, HoldsAll, count_held}
use Rattle.twp_land.specs.Storage.{held_by_row, nothing_held, with_block}
use Rattle.twp_land.specs.steps.RowTests.{SomeHeld, EachHeld, count_in_row}
use Rattle.twp_land.specs.steps.RowTests.{IsFilled, AreFilled}

pub count_in_row-zero : (row : List Bool) (start : ℕ) → count_in_row row start 0 ≡ 0
count_in_row-zero row start = total-zero _

pub count_in_row-next : (row : List Bool) (start len : ℕ)
    → count_in_row row start (len + 1)
    ≡ count_in_row row start len + one_where (get_or row (start + len) false)
count_in_row-next row start len = total-next len _

-- how many tests are true in some rows
abbrev pub count_in_rows : List (List Bool) → ℕ → ℕ → ℕ → ℕ → ℕ
count_in_rows rows first height column width =
    total height (λ up. count_in_row (get_or rows (first + up) []) column width)

pub count_in_rows-zero : (rows : List (List Bool)) (first column width : ℕ)
    → count_in_rows rows first 0 column width ≡ 0
count_in_rows-zero rows first column width = total-zero _

pub count_in_rows-next : (rows : List (List Bool)) (first height column width : ℕ)
    → count_in_rows rows first (height + 1) column width
    ≡ count_in_rows rows first height column width
    + count_in_row (get_or rows (first + height) []) column width
count_in_rows-next rows first height column width = total-next height _

-- the test of a place is that of its row
held_inside : (rows : List (List Bool)) (column row : ℕ) → column < places_across PLACE_DIGITS
    → row < places_across PLACE_DIGITS
    → held_by_row rows column row ≡ get_or (get_or rows row []) column false
held_inside rows column row in-column in-row =
    let place : is_place PLACE_DIGITS column row ≡ true = grind (arith, nat_tests) in
    rw place refl

-- the offset of an index in a span
offset : (span : Interval) (n : ℕ) → in_span span n ≡ true → (k : ℕ) × (k < span.len) × (n ≡ span.start + k)
offset span n inside =
    let parts = and_parts (nat_le span.start n) (nat_lt n (span.start + span.len)) inside in
    let least : span.start ≤ n = grind (arith, nat_tests) in
    let below : n < span.start + span.len = grind (arith, nat_tests) in
    (n - span.start, omega arith, omega arith)

at_offset : (span : Interval) (k : ℕ) → k < span.len → in_span span (span.start + k) ≡ true
at_offset span k below = grind (arith, nat_tests)

pub meets_found : (rows : List (List Bool)) (block : Rectangle) (up : ℕ) → IsDyadic PLACE_DIGITS block.rows
    → IsDyadic PLACE_DIGITS block.columns
    → up < block.rows.len
    → SomeHeld (get_or rows (block.rows.start + up) []) block.columns.start block.columns.len
    → Meets (held_by_row rows) block
meets_found rows block up dyadic-rows dyadic-columns below found =
    let along = found.0 in
    let lt : along < block.columns.len = found.1 in
    let in-rows : block.rows.start + block.rows.len ≤ places_across PLACE_DIGITS = dyadic-rows.within in
    let in-columns : block.columns.start + block.columns.len ≤ places_across PLACE_DIGITS =
    dyadic-columns.within in
    record {
      column = block.columns.start + along;
      row = block.rows.start + up;
      inside = rw (at_offset block.columns along lt, at_offset block.rows up below) refl;
      is_held =
          held_inside rows (block.columns.start + along) (block.rows.start + up) (omega arith) (omega arith)
          ∙ found.2;
    }

pub meets_nowhere : (rows : List (List Bool)) (block : Rectangle) → IsDyadic PLACE_DIGITS block.rows
    → IsDyadic PLACE_DIGITS block.columns
    → ((k : ℕ) → k < block.rows.len
    → SomeHeld (get_or rows (block.rows.start + k) []) block.columns.start block.columns.len → ⊥)
    → Meets (held_by_row rows) block → ⊥
meets_nowhere rows block dyadic-rows dyadic-columns none meets =
    let parts = and_parts (in_span block.columns meets.column) (in_span block.rows meets.row) meets.inside in
    let along = offset block.columns meets.column parts.0 in
    let up = offset block.rows meets.row parts.1 in
    let in-rows : block.rows.start + block.rows.len ≤ places_across PLACE_DIGITS = dyadic-rows.within in
    let in-columns : block.columns.start + block.columns.len ≤ places_across PLACE_DIGITS =
    dyadic-columns.within in
    let column-is : meets.column ≡ block.columns.start + along.0 = along.2 in
    let row-is : meets.row ≡ block.rows.start + up.0 = up.2 in
    let along-lt : along.0 < block.columns.len = along.1 in
    let up-lt : up.0 < block.rows.len = up.1 in
    let there : get_or (get_or rows (block.rows.start + up.0) []) (block.columns.start + along.0) false
    ≡ get_or (get_or rows meets.row []) meets.column false =
    ap (λ r. get_or (get_or rows r []) (block.columns.start + along.0) false) (sym row-is)
    ∙ ap (λ c. get_or (get_or rows meets.row []) c false) (sym column-is) in
    none up.0 up-lt (
      along.0,
      along-lt,
      there ∙ sym (held_inside rows meets.column meets.row (omega arith) (omega arith)) ∙ meets.is_held,
    )

pub full_of_rows : (rows : List (List Bool)) (block : Rectangle) → IsDyadic PLACE_DIGITS block.rows
    → IsDyadic PLACE_DIGITS block.columns
    → ((k : ℕ) → k < block.rows.len
    → EachHeld (get_or rows (block.rows.start + k) []) block.columns.start block.columns.len)
    → HoldsAll (held_by_row rows) block
full_of_rows rows block dyadic-rows dyadic-columns each column row inside =
    let parts = and_parts (in_span block.columns column) (in_span block.rows row) inside in
    let along = offset block.columns column parts.0 in
    let up = offset block.rows row parts.1 in
    let in-rows : block.rows.start + block.rows.len ≤ places_across PLACE_DIGITS = dyadic-rows.within in
    let in-columns : block.columns.start + block.columns.len ≤ places_across PLACE_DIGITS =
    dyadic-columns.within in
    let column-is : column ≡ block.columns.start + along.0 = along.2 in
    let row-is : row ≡ block.rows.start + up.0 = up.2 in
    let along-lt : along.0 < block.columns.len = along.1 in
    let up-lt : up.0 < block.rows.len = up.1 in
    held_inside rows column row (omega arith) (omega arith)
    ∙ ap (λ r. get_or (get_or rows r []) column false) row-is
    ∙ ap (λ c. get_or (get_or rows (block.rows.start + up.0) []) c false) column-is
    ∙ each up.0 up-lt along.0 along-lt

pub count_of_rows : (rows : List (List Bool)) (block : Rectangle) → IsDyadic PLACE_DIGITS block.rows
    → IsDyadic PLACE_DIGITS block.columns
    → count_in_rows rows block.rows.start block.rows.len block.columns.start block.columns.len
    ≡ count_held (held_by_row rows) block
count_of_rows rows block dyadic-rows dyadic-columns =
    let in-rows : block.rows.start + block.rows.len ≤ places_across PLACE_DIGITS = dyadic-rows.within in
    let in-columns : block.columns.start + block.columns.len ≤ places_across PLACE_DIGITS =
    dyadic-columns.within in
    total-ext block.rows.len _ _ (λ up below.
    total-ext block.columns.len _ _ (λ along lt.
    ap (λ b. one_where b)
    (sym
    (held_inside rows (block.columns.start + along) (block.rows.start + up) (omega arith) (omega arith)))))

-- a block lies in the section
outside_block : (block : Rectangle) (column row : ℕ) → IsDyadic PLACE_DIGITS block.rows
    → IsDyadic PLACE_DIGITS block.columns
    → is_place PLACE_DIGITS column row ≡ false → in_rectangle block column row ≡ false
outside_block block column row dyadic-rows dyadic-columns outside =
    let in-rows : block.rows.start + block.rows.len ≤ places_across PLACE_DIGITS = dyadic-rows.within in
    let in-columns : block.columns.start + block.columns.len ≤ places_across PLACE_DIGITS =
    dyadic-columns.within in
    grind (arith, nat_tests)

or_and_true : (a b : Bool) → (a || b) ≡ (a || (b && true))
or_and_true true b = refl
or_and_true false true = refl
or_and_true false false = refl

or_and_false : (a b : Bool) → a ≡ (a || (b && false))
or_and_false true b = refl
or_and_false false true = refl
or_and_false false false = refl

pub held_after_filling : (rows : List (List Bool)) (block : Rectangle) (filled : List (List Bool))
    → IsDyadic PLACE_DIGITS block.rows → IsDyadic PLACE_DIGITS block.columns
    → AreFilled rows block filled → held_by_row filled ≡ with_block (held_by_row rows) block
held_after_filling rows block filled dyadic-rows dyadic-columns are =
    fun_ext (λ column. fun_ext (λ row. elim (cases_Bool (is_place PLACE_DIGITS column row)) [
      | inl place ↦ inside column row place
      | inr outside ↦ rw (outside, outside_block block column row dyadic-rows dyadic-columns outside) refl
    ]))
  where
    inside : (column row : ℕ) → is_place PLACE_DIGITS column row ≡ true
        → held_by_row filled column row ≡ with_block (held_by_row rows) block column row
    inside column row place =
        let parts =
        and_parts (nat_lt column (places_across PLACE_DIGITS)) (nat_lt row (places_across PLACE_DIGITS))
        place in
        let in-column : column < places_across PLACE_DIGITS = grind (arith, nat_tests) in
        let in-row : row < places_across PLACE_DIGITS = grind (arith, nat_tests) in
        elim (cases_Bool (in_span block.rows row)) [
          | inl there ↦ rw (place, are.inside row in-row there column in-column, there) (or_and_true _ _)
          | inr elsewhere ↦ rw (place, are.outside row in-row elsewhere, elsewhere) (or_and_false _ _)
        ]

-- one more place is added
pub filled_next : (row filled : List Bool) (start along : ℕ) → length filled ≡ places_across PLACE_DIGITS
    → start + along < places_across PLACE_DIGITS
    → IsFilled row (record { start = start; len = along }) filled
    → IsFilled row (record { start = start; len = along + 1 }) (set filled (start + along) true)
filled_next row filled start along all inside is column below = elim (cases_eq column (start + along)) [
  | inl here ↦
      let now : get_or (set filled (start + along) true) column false ≡ true =
      ap (λ k. get_or (set filled (start + along) true) k false) here
      ∙ get_or-set_same filled (start + along) true false (omega arith) in
      let held : in_span (record { start = start; len = along + 1 }) column ≡ true =
      grind (arith, nat_tests) in
      rw (now, held) (or_true (get_or row column false))
  | inr other ↦
      let same : in_span (record { start = start; len = along + 1 }) column
      ≡ in_span (record { start = start; len = along }) column = grind (arith, nat_tests) in
      get_or-set_other filled (start + along) column true false other
      ∙ is column below
      ∙ ap (λ b. get_or row column false || b) (sym same)
]
  where
    or_true : (b : Bool) → true ≡ (b || true)
    or_true true = refl
    or_true false = refl

held_in_no_row : (n m : ℕ) (column row : ℕ)
    → get_or (get_or (replicate n (replicate m false)) row []) column false ≡ false
held_in_no_row zero m column zero = refl
held_in_no_row zero m column (suc row) = refl
held_in_no_row (suc n) m column (suc row) = held_in_no_row n m column row
held_in_no_row (suc n) m column zero = none m column
  where
    none : (m column : ℕ) → get_or (replicate m false) column false ≡ false
    none zero zero = refl
    none zero (suc column) = refl
    none (suc m) zero = refl
    none (suc m) (suc column) = none m column

-- rows of false contain no place
pub held_in_none : (n m : ℕ) → held_by_row (replicate n (replicate m false)) ≡ nothing_held
held_in_none n m = fun_ext (λ column. fun_ext (λ row.
    and_right (is_place PLACE_DIGITS column row) _ (held_in_no_row n m column row)))
