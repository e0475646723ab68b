-- The common places of two sets in one section, and the places in either, as they are stored.
use Rattle.std.proofs.Common.{◌≡◌, ◌↔◌, IsTrue, ◌≢◌, ◌==◌, ℕ, zero, suc, ◌^◌, ◌<◌, ◌≤◌, ◌||◌, ◌&&◌, Bool}
use Rattle.std.proofs.Common.{true}
use Rattle.std.proofs.Common.{false, not, List, [], length, get_or, nat_lt, ap, refl, sym, ◌∙◌, inl, inr}
use Rattle.std.proofs.Common.{arith, min, max}
use Rattle.std.proofs.Math.Path.{fun_ext}
use Rattle.std.specs.Int.{bit_at}
use Rattle.std.specs.Int.Bits.{bit_and, bit_or}
use Rattle.std.specs.Simd.Lanes.{zip2, fold_l, put_chunk}
use Rattle.std.proofs.lemmas.Simd.{get_or-zip2, length-zip2, put_chunk_whole}
use Rattle.std.proofs.lemmas.Nat.{and_le_r}
use Rattle.std.proofs.lemmas.Nat.Bits.{bit_at_and, bit_at_or, bit_at-lt, bit_at-zero, same_from_bits_below}
use Rattle.std.proofs.lemmas.Bool.{cases_Bool, and_parts, eqb-true, eq-eqb, ne_eqb, not-false}
use Rattle.std.proofs.lemmas.Bool.Decides.{nat_tests}
use Rattle.twp_grid.specs.Places.{PLACE_DIGITS, places_across, is_place}
use Rattle.twp_land.specs.Storage.{held_by_row, held_by_lane, held_by_either, held_by_both, ShareHeld}
use Rattle.twp_land.specs.steps.RowTests.{ShareInRow, IsJoined, IsCommon}
use Rattle.twp_land.specs.steps.BitLanes.{AreLanes}
use Rattle.twp_land.proofs.BitFacts.{or_of_zeros, zeros_of_or, some_or_none}

-- a place of the section
in_place : (column row : ℕ) → column < places_across PLACE_DIGITS → row < places_across PLACE_DIGITS
    → is_place PLACE_DIGITS column row ≡ true
in_place column row in-column in-row = grind (arith, nat_tests)

of_place : (column row : ℕ) → is_place PLACE_DIGITS column row ≡ true
    → (column < places_across PLACE_DIGITS) × (row < places_across PLACE_DIGITS)
of_place column row place =
    let parts =
    and_parts (nat_lt column (places_across PLACE_DIGITS)) (nat_lt row (places_across PLACE_DIGITS)) place in
    (grind (arith, nat_tests), grind (arith, nat_tests))

pub rows_apart : (rows others : List (List Bool))
    → ((k : ℕ) → k < places_across PLACE_DIGITS → ShareInRow (get_or rows k []) (get_or others k []) → ⊥)
    → ShareHeld (held_by_row rows) (held_by_row others) → ⊥
rows_apart rows others apart shared =
    let first = and_parts (is_place PLACE_DIGITS shared.column shared.row) _ shared.in_first in
    let second = and_parts (is_place PLACE_DIGITS shared.column shared.row) _ shared.in_second in
    let place = of_place shared.column shared.row first.0 in
    apart shared.row place.1 (shared.column, place.0, first.1, second.1)

-- the rows below a number are joined, and the others are as they were
pub record AreJoined (rows others : List (List Bool)) (count : ℕ) (joined : List (List Bool)) : Type 0 where
  pub all : length joined ≡ places_across PLACE_DIGITS
  pub below : (row : ℕ) → row < count
      → IsJoined (get_or rows row []) (get_or others row []) (get_or joined row [])
  pub from : (row : ℕ) → count ≤ row → get_or joined row [] ≡ get_or rows row []

-- the rows below a number contain the places of both, and the others are as they were
pub record AreCommon (rows others : List (List Bool)) (count : ℕ) (common : List (List Bool)) : Type 0 where
  pub all : length common ≡ places_across PLACE_DIGITS
  pub below : (row : ℕ) → row < count
      → IsCommon (get_or rows row []) (get_or others row []) (get_or common row [])
  pub from : (row : ℕ) → count ≤ row → get_or common row [] ≡ get_or rows row []

-- The lanes of two sets, of the same length.
module _ (lanes others : List ℕ) (count : length lanes ≡ places_across PLACE_DIGITS)
    (same : length others ≡ places_across PLACE_DIGITS) where
  abbrev both : List ℕ
  both = zip2 bit_and lanes others

  length_both : length both ≡ places_across PLACE_DIGITS
  length_both = length-zip2 bit_and lanes others (count ∙ sym same) ∙ count

  lane_of_both : (row : ℕ) → row < places_across PLACE_DIGITS
      → get_or both row 0 ≡ bit_and (get_or lanes row 0) (get_or others row 0)
  lane_of_both row below =
      get_or-zip2 bit_and lanes others row 0 0 0 (omega (arith, count)) (omega (arith, same))

  bit_of_both : (column row : ℕ) → row < places_across PLACE_DIGITS
      → bit_at (get_or both row 0) column
      ≡ min (bit_at (get_or lanes row 0) column) (bit_at (get_or others row 0) column)
  bit_of_both column row below =
      ap (λ n. bit_at n column) (lane_of_both row below)
      ∙ bit_at_and (get_or lanes row 0) (get_or others row 0) column

  both_below : AreLanes others → (row : ℕ) → row < places_across PLACE_DIGITS
      → get_or both row 0 < 2 ^ places_across PLACE_DIGITS
  both_below are row below =
      let least = and_le_r (get_or lanes row 0) (get_or others row 0) in
      omega (arith, lane_of_both row below, are row (omega (arith, same)))

  empty_lane : AreLanes others → (row : ℕ) → row < places_across PLACE_DIGITS
      → ((column : ℕ) → column < places_across PLACE_DIGITS
      → (bit_at (get_or both row 0) column == 1) ≡ false)
      → get_or both row 0 ≡ 0
  empty_lane are row below none =
      same_from_bits_below (places_across PLACE_DIGITS) (get_or both row 0) 0 (both_below are row below)
      (omega arith) (λ column within.
      zero_bit (bit_at (get_or both row 0) column) (bit_at-lt (get_or both row 0) column) (none column within)
      ∙ sym (bit_at-zero column))
    where
      zero_bit : (bit : ℕ) → bit < 2 → (bit == 1) ≡ false → bit ≡ 0
      zero_bit zero below no_one = refl
      zero_bit (suc zero) below no_one = cc no_one
      zero_bit (suc (suc bit)) below no_one = absurd (omega arith)

  held_of_bit : (kept : List ℕ) (column row : ℕ) → column < places_across PLACE_DIGITS
      → row < places_across PLACE_DIGITS
      → bit_at (get_or kept row 0) column ≡ 1 → held_by_lane kept column row ≡ true
  held_of_bit kept column row in-column in-row bit =
      rw (in_place column row in-column in-row) (eq-eqb _ _ bit)

  share_at : (column row : ℕ) → column < places_across PLACE_DIGITS → row < places_across PLACE_DIGITS
      → bit_at (get_or both row 0) column ≡ 1
      → ShareHeld (held_by_lane lanes) (held_by_lane others)
  share_at column row in-column in-row is =
      let bits =
      both_set (bit_at (get_or lanes row 0) column) (bit_at (get_or others row 0) column)
      (sym (bit_of_both column row in-row) ∙ is)
      (bit_at-lt (get_or lanes row 0) column) (bit_at-lt (get_or others row 0) column) in
      record {
        column = column;
        row = row;
        in_first = held_of_bit lanes column row in-column in-row bits.0;
        in_second = held_of_bit others column row in-column in-row bits.1;
      }
    where
      both_set : (bit other : ℕ) → min bit other ≡ 1 → bit < 2 → other < 2 → (bit ≡ 1) × (other ≡ 1)
      both_set zero zero is small small' = cc is
      both_set zero (suc zero) is small small' = cc is
      both_set zero (suc (suc other)) is small small' = absurd (omega arith)
      both_set (suc zero) zero is small small' = cc is
      both_set (suc zero) (suc zero) is small small' = (refl, refl)
      both_set (suc zero) (suc (suc other)) is small small' = absurd (omega arith)
      both_set (suc (suc bit)) other is small small' = absurd (omega arith)

  share_of_some : AreLanes others → fold_l bit_or 0 both ≢ 0
      → ShareHeld (held_by_lane lanes) (held_by_lane others)
  share_of_some are some =
      elim (some_or_none (places_across PLACE_DIGITS) (λ row. not (get_or both row 0 == 0))) [
        | inl found ↦ in_row found.0 found.1 found.2
        | inr none ↦ absurd (some (or_of_zeros 0 both refl (λ row below.
            eqb-true (get_or both row 0) 0 (not-false _ (none row (omega (arith, length_both)))))))
      ]
    where
      in_row : (row : ℕ) → row < places_across PLACE_DIGITS → not (get_or both row 0 == 0) ≡ true
          → ShareHeld (held_by_lane lanes) (held_by_lane others)
      in_row row below some_there = elim (some_or_none (places_across PLACE_DIGITS) (λ column.
          bit_at (get_or both row 0) column == 1)) [
            | inl found ↦ share_at found.0 row found.1 below (eqb-true _ 1 found.2)
            | inr none ↦ cc (sym some_there ∙ ap (λ n. not (n == 0)) (empty_lane are row below none))
          ]

  some_of_share : ShareHeld (held_by_lane lanes) (held_by_lane others) → fold_l bit_or 0 both ≡ 0 → ⊥
  some_of_share shared none =
      let first = and_parts (is_place PLACE_DIGITS shared.column shared.row) _ shared.in_first in
      let second = and_parts (is_place PLACE_DIGITS shared.column shared.row) _ shared.in_second in
      let place = of_place shared.column shared.row first.0 in
      let lane = (zeros_of_or 0 both none).1 shared.row (omega (arith, length_both, place.1)) in
      let bit : bit_at (get_or both shared.row 0) shared.column ≡ 1 =
      bit_of_both shared.column shared.row place.1 ∙ rw (eqb-true _ _ first.1, eqb-true _ _ second.1) refl in
      let empty : bit_at (get_or both shared.row 0) shared.column ≡ 0 =
      ap (λ n. bit_at n shared.column) lane ∙ bit_at-zero shared.column in
      omega arith

  pub lanes_share : AreLanes others
      → IsTrue (not (fold_l bit_or 0 both == 0)) ↔ ShareHeld (held_by_lane lanes) (held_by_lane others)
  lanes_share are = (
    λ some. share_of_some are (λ none. cc (sym some ∙ ap (λ n. not (n == 0)) none)),
    λ shared. ap (λ t. not t) (ne_eqb _ 0 (some_of_share shared)),
  )

  bit_of_either : (column row : ℕ) → row < places_across PLACE_DIGITS
      → bit_at (get_or (zip2 bit_or lanes others) row 0) column
      ≡ max (bit_at (get_or lanes row 0) column) (bit_at (get_or others row 0) column)
  bit_of_either column row below =
      ap (λ n. bit_at n column)
      (get_or-zip2 bit_or lanes others row 0 0 0 (omega (arith, count)) (omega (arith, same)))
      ∙ bit_at_or (get_or lanes row 0) (get_or others row 0) column

  pub lanes_joined : held_by_lane (put_chunk 0 lanes (zip2 bit_or lanes others))
      ≡ held_by_either (held_by_lane lanes) (held_by_lane others)
  lanes_joined =
      ap held_by_lane
      (put_chunk_whole lanes (zip2 bit_or lanes others)
      (sym (length-zip2 bit_or lanes others (count ∙ sym same))))
      ∙ fun_ext (λ column. fun_ext (λ row. elim (cases_Bool (is_place PLACE_DIGITS column row)) [
        | inl place ↦
            rw (place, bit_of_either column row (of_place column row place).1)
            (either (bit_at (get_or lanes row 0) column) (bit_at (get_or others row 0) column)
            (bit_at-lt (get_or lanes row 0) column) (bit_at-lt (get_or others row 0) column))
        | inr outside ↦ rw outside refl
      ]))
    where
      either : (bit other : ℕ) → bit < 2 → other < 2 → (max bit other == 1) ≡ ((bit == 1) || (other == 1))
      either zero zero small small' = refl
      either zero (suc zero) small small' = refl
      either (suc zero) zero small small' = refl
      either (suc zero) (suc zero) small small' = refl
      either (suc (suc bit)) other small small' = absurd (omega arith)
      either zero (suc (suc other)) small small' = absurd (omega arith)
      either (suc zero) (suc (suc other)) small small' = absurd (omega arith)

  pub lanes_common : held_by_lane (put_chunk 0 lanes (zip2 bit_and lanes others))
      ≡ held_by_both (held_by_lane lanes) (held_by_lane others)
  lanes_common =
      ap held_by_lane
      (put_chunk_whole lanes (zip2 bit_and lanes others)
      (sym (length-zip2 bit_and lanes others (count ∙ sym same))))
      ∙ fun_ext (λ column. fun_ext (λ row. elim (cases_Bool (is_place PLACE_DIGITS column row)) [
        | inl place ↦
            rw (place, bit_of_both column row (of_place column row place).1)
            (of_two (bit_at (get_or lanes row 0) column) (bit_at (get_or others row 0) column)
            (bit_at-lt (get_or lanes row 0) column) (bit_at-lt (get_or others row 0) column))
        | inr outside ↦ rw outside refl
      ]))
    where
      of_two : (bit other : ℕ) → bit < 2 → other < 2 → (min bit other == 1) ≡ ((bit == 1) && (other == 1))
      of_two zero zero small small' = refl
      of_two zero (suc zero) small small' = refl
      of_two (suc zero) zero small small' = refl
      of_two (suc zero) (suc zero) small small' = refl
      of_two (suc (suc bit)) other small small' = absurd (omega arith)
      of_two zero (suc (suc other)) small small' = absurd (omega arith)
      of_two (suc zero) (suc (suc other)) small small' = absurd (omega arith)
