-- A section's places without those of a block, as they are stored.
use Rattle.std.proofs.Common.{◌≡◌, ◌==◌, ℕ, zero, suc, ◌-◌, ◌<◌, ◌&&◌, Bool, true, false, not, List, length}
use Rattle.std.proofs.Common.{get_or, nat_lt, ap, refl, sym, ◌∙◌, inl, inr, arith, min, map, w32}
use Rattle.std.proofs.Math.Path.{fun_ext}
use Rattle.std.specs.Int.{bit_at, bit_not}
use Rattle.std.specs.Int.Bits.{bit_and}
use Rattle.std.specs.Simd.Lanes.{zip2, put_chunk}
use Rattle.std.proofs.lemmas.Simd.{get_or-zip2, length-zip2, put_chunk_whole}
use Rattle.std.proofs.lemmas.List.{get_or-map, length-map}
use Rattle.std.proofs.lemmas.Nat.Bits.{bit_at_and, bit_at_not, bit_at-lt}
use Rattle.std.proofs.lemmas.Bool.{cases_Bool, and_parts}
use Rattle.std.proofs.lemmas.Bool.Decides.{nat_tests}
use Rattle.twp_grid.specs.Places.{PLACE_DIGITS, places_across, is_place}
use Rattle.twp_grid.specs.Spans.{Rectangle, in_span, in_rectangle}
use Rattle.twp_grid.specs.Spans.{one_where}
use Rattle.twp_land.specs.Storage.{held_by_row, held_by_lane, without_block}
use Rattle.twp_land.specs.steps.BitLanes.{AreBlockLanes}
use Rattle.twp_land.specs.steps.RowTests.{AreCleared}

-- a place of the section
of_place : (column row : ℕ) → is_place PLACE_DIGITS column row ≡ true
    → (column < places_across PLACE_DIGITS) × (row < places_across PLACE_DIGITS)
of_place column row place =
    let parts =
    and_parts (nat_lt column (places_across PLACE_DIGITS)) (nat_lt row (places_across PLACE_DIGITS)) place in
    (grind (arith, nat_tests), grind (arith, nat_tests))

in_row_of_block : (held in_columns : Bool) → (held && not in_columns) ≡ (held && not (in_columns && true))
in_row_of_block held true = refl
in_row_of_block held false = refl

off_rows_of_block : (held in_columns : Bool) → held ≡ (held && not (in_columns && false))
off_rows_of_block true true = refl
off_rows_of_block true false = refl
off_rows_of_block false in_columns = refl

pub held_after_clearing : (rows : List (List Bool)) (block : Rectangle) (cleared : List (List Bool))
    → AreCleared rows block cleared
    → held_by_row cleared ≡ without_block (held_by_row rows) block
held_after_clearing rows block cleared are =
    fun_ext (λ column. fun_ext (λ row. elim (cases_Bool (is_place PLACE_DIGITS column row)) [
      | inl place ↦ inside column row place
      | inr outside ↦ rw outside refl
    ]))
  where
    inside : (column row : ℕ) → is_place PLACE_DIGITS column row ≡ true
        → held_by_row cleared column row ≡ without_block (held_by_row rows) block column row
    inside column row place =
        let at = of_place column row place in
        elim (cases_Bool (in_span block.rows row)) [
          | inl there ↦ rw (place, are.inside row at.1 there column at.0, there) (in_row_of_block _ _)
          | inr elsewhere ↦ rw (place, are.outside row at.1 elsewhere, elsewhere) (off_rows_of_block _ _)
        ]

-- The lanes of a set and of a block, of the same length.
module _ (lanes block_lanes : List ℕ) (block : Rectangle) (count : length lanes ≡ places_across PLACE_DIGITS)
    (are : AreBlockLanes block block_lanes) where
  abbrev off_block : List ℕ
  off_block = map (λ n. bit_not w32 n) block_lanes

  length_off : length off_block ≡ places_across PLACE_DIGITS
  length_off = length-map block_lanes (λ n. bit_not w32 n) ∙ are.count

  bit_off_block : (column row : ℕ) → column < places_across PLACE_DIGITS → row < places_across PLACE_DIGITS
      → bit_at (get_or off_block row 0) column ≡ 1 - one_where (in_rectangle block column row)
  bit_off_block column row in-column in-row =
      ap (λ n. bit_at n column)
      (get_or-map (λ n. bit_not w32 n) block_lanes row 0 0 (omega (arith, are.count)))
      ∙ bit_at_not w32 (get_or block_lanes row 0) column (are.below row in-row) in-column
      ∙ ap (λ bit. 1 - bit) (are.bits column row in-row)

  bit_of_rest : (column row : ℕ) → column < places_across PLACE_DIGITS → row < places_across PLACE_DIGITS
      → bit_at (get_or (zip2 bit_and lanes off_block) row 0) column
      ≡ min (bit_at (get_or lanes row 0) column) (1 - one_where (in_rectangle block column row))
  bit_of_rest column row in-column in-row =
      ap (λ n. bit_at n column)
      (get_or-zip2 bit_and lanes off_block row 0 0 0 (omega (arith, count)) (omega (arith, length_off)))
      ∙ bit_at_and (get_or lanes row 0) (get_or off_block row 0) column
      ∙ ap (λ bit. min (bit_at (get_or lanes row 0) column) bit) (bit_off_block column row in-column in-row)

  pub lanes_without_block : held_by_lane (put_chunk 0 lanes (zip2 bit_and lanes off_block))
      ≡ without_block (held_by_lane lanes) block
  lanes_without_block =
      ap held_by_lane
      (put_chunk_whole lanes (zip2 bit_and lanes off_block)
      (sym (length-zip2 bit_and lanes off_block (count ∙ sym length_off))))
      ∙ fun_ext (λ column. fun_ext (λ row. elim (cases_Bool (is_place PLACE_DIGITS column row)) [
        | inl place ↦
            let at = of_place column row place in
            rw (place, bit_of_rest column row at.0 at.1)
            (rest (bit_at (get_or lanes row 0) column) (in_rectangle block column row)
            (bit_at-lt (get_or lanes row 0) column))
        | inr outside ↦ rw outside refl
      ]))
    where
      rest : (bit : ℕ) (test : Bool) → bit < 2
          → (min bit (1 - one_where test) == 1) ≡ ((bit == 1) && not test)
      rest zero true small = refl
      rest zero false small = refl
      rest (suc zero) true small = refl
      rest (suc zero) false small = refl
      rest (suc (suc bit)) test small = absurd (omega arith)
