-- Blocks in a section, and sums over their places among all places of the section.
use Rattle.std.proofs.Common.{◌≡◌, ℕ, ◌+◌, ◌-◌, ◌<◌, ◌≤◌, Bool, true, false, nat_le, nat_lt, ap, refl, ◌∙◌}
use Rattle.std.proofs.Common.{arith, min}
use Rattle.std.proofs.Math.Nat.{min-zero}
use Rattle.std.proofs.lemmas.Bool.{and_parts, and_right}
use Rattle.std.proofs.lemmas.Bool.Decides.{nat_tests}
use Rattle.twp_grid.specs.Places.{PLACE_DIGITS, places_across}
use Rattle.twp_grid.specs.Spans.{Interval, in_span, IsDyadic, Rectangle, in_rectangle}
use Rattle.twp_grid.specs.Spans.{total, one_where}
use Rattle.twp_grid.proofs.TotalFacts.{total-ext, total-add, total-all_zero}
use Rattle.twp_grid.specs.Lands.{count_held}

-- the block's places lie in the section
pub record InSection (block : Rectangle) : Type 0 where
  pub rows : block.rows.start + block.rows.len ≤ places_across PLACE_DIGITS
  pub columns : block.columns.start + block.columns.len ≤ places_across PLACE_DIGITS

pub dyadic_in_section : (block : Rectangle) → IsDyadic PLACE_DIGITS block.rows
    → IsDyadic PLACE_DIGITS block.columns → InSection block
dyadic_in_section block rows columns = record { rows = rows.within; columns = columns.within }

pub place_inside : (block : Rectangle) (column row : ℕ) → InSection block
    → in_rectangle block column row ≡ true
    → (column < places_across PLACE_DIGITS) × (row < places_across PLACE_DIGITS)
place_inside block column row lies inside =
    let parts = and_parts (in_span block.columns column) (in_span block.rows row) inside in
    (below block.columns column parts.0 lies.columns, below block.rows row parts.1 lies.rows)
  where
    below : (span : Interval) (n : ℕ) → in_span span n ≡ true
        → span.start + span.len ≤ places_across PLACE_DIGITS
        → n < places_across PLACE_DIGITS
    below span n inside within =
        let parts = and_parts (nat_le span.start n) (nat_lt n (span.start + span.len)) inside in
        let under : n < span.start + span.len = grind (arith, nat_tests) in
        omega arith

-- a sum in which only the terms of a span count
total_of_span : (n : ℕ) (span : Interval) (f g : ℕ → ℕ) → span.start + span.len ≤ n
    → ((k : ℕ) → k < span.len → f (span.start + k) ≡ g k)
    → ((k : ℕ) → in_span span k ≡ false → f k ≡ 0) → total n f ≡ total span.len g
total_of_span n span f g within same none =
    let rest = n - (span.start + span.len) in
    let all : n ≡ span.start + (span.len + rest) = omega arith in
    let first = total-add span.start (span.len + rest) f in
    let second = total-add span.len rest (λ k. f (span.start + k)) in
    let before = total-all_zero span.start f (λ k below. none k (out_below k below)) in
    let there = total-ext span.len (λ k. f (span.start + k)) g same in
    let after =
    total-all_zero rest (λ k. f (span.start + (span.len + k)))
    (λ k below. none (span.start + (span.len + k)) (out_above k)) in
    ap (λ n. total n f) all ∙ omega arith
  where
    out_below : (k : ℕ) → k < span.start → in_span span k ≡ false
    out_below k below = grind (arith, nat_tests)

    out_above : (k : ℕ) → in_span span (span.start + (span.len + k)) ≡ false
    out_above k = grind (arith, nat_tests)

-- the places of a block among all places of a section
pub total_of_block : (held : ℕ → ℕ → Bool) (block : Rectangle) → InSection block
    → total (places_across PLACE_DIGITS) (λ row. total (places_across PLACE_DIGITS) (λ column.
    min (one_where (held column row)) (one_where (in_rectangle block column row))))
    ≡ count_held held block
total_of_block held block lies =
    total_of_span (places_across PLACE_DIGITS) block.rows _ _ lies.rows
    (λ up below. total_of_span (places_across PLACE_DIGITS) block.columns _ _ lies.columns
    (λ along within.
    inside (block.columns.start + along) (block.rows.start + up) (at_offset block.columns along within)
    (at_offset block.rows up below))
    (λ column out. out_of_columns column (block.rows.start + up) out))
    (λ row out. total-all_zero (places_across PLACE_DIGITS) _ (λ column _. out_of_rows column row out))
  where
    at_offset : (span : Interval) (k : ℕ) → k < span.len → in_span span (span.start + k) ≡ true
    at_offset span k below = grind (arith, nat_tests)

    inside : (column row : ℕ) → in_span block.columns column ≡ true → in_span block.rows row ≡ true
        → min (one_where (held column row)) (one_where (in_rectangle block column row))
        ≡ one_where (held column row)
    inside column row in-columns in-rows = rw (in-columns, in-rows) (one (held column row))
      where
        one : (test : Bool) → min (one_where test) 1 ≡ one_where test
        one true = refl
        one false = refl

    out_of_columns : (column row : ℕ) → in_span block.columns column ≡ false
        → min (one_where (held column row)) (one_where (in_rectangle block column row)) ≡ 0
    out_of_columns column row out = rw out (min-zero (one_where (held column row)))

    out_of_rows : (column row : ℕ) → in_span block.rows row ≡ false
        → min (one_where (held column row)) (one_where (in_rectangle block column row)) ≡ 0
    out_of_rows column row out =
        rw (out, and_right (in_span block.columns column) false refl) (min-zero (one_where (held column row)))
