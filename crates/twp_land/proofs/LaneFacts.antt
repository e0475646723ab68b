-- A section's places, stored in lanes of bits.
use Rattle.std.proofs.Common.{◌≡◌, ◌↔◌, IsTrue, ◌≢◌, ◌==◌, ℕ, zero, suc, ◌+◌, ◌%◌, ◌^◌, ◌<◌, ◌&&◌, ◌||◌}
use Rattle.std.proofs.Common.{◌⊎◌, Bool, true, false, not, List, length, get_or, nat_lt, ap, refl}
use Rattle.std.proofs.Common.{sym, ◌∙◌, inl, inr, arith, replicate, min, max, map}
use Rattle.std.proofs.Math.Path.{fun_ext}
use Rattle.std.proofs.Math.Nat.{min-zero}
use Rattle.std.specs.Int.{bit_at}
use Rattle.std.specs.Int.Bits.{bit_and, bit_or, bit_xor}
use Rattle.std.specs.Int.RustNames.{count_ones}
use Rattle.std.specs.Simd.Lanes.{zip2, fold_l, put_chunk}
use Rattle.std.proofs.lemmas.Simd.{get_or-zip2, length-zip2, put_chunk_whole}
use Rattle.std.proofs.lemmas.Nat.{and_le_r}
use Rattle.std.proofs.lemmas.Nat.Bits.{bit_at_and, bit_at_or, bit_at_xor, bit_at-lt, bit_at-zero}
use Rattle.std.proofs.lemmas.Nat.Bits.{same_from_bits, same_from_bits_below}
use Rattle.std.proofs.lemmas.Bool.{cases_Bool, and_parts, and_right, eqb-true, eq-eqb, ne_eqb, not-false}
use Rattle.std.proofs.lemmas.Bool.Decides.{nat_tests}
use Rattle.twp_grid.specs.Places.{PLACE_DIGITS, places_across, is_place}
use Rattle.twp_grid.specs.Spans.{Rectangle, in_rectangle}
use Rattle.twp_grid.specs.Spans.{total, one_where}
use Rattle.twp_grid.proofs.TotalFacts.{total-ext}
use Rattle.twp_grid.specs.Lands.{Meets, HoldsAll, count_held}
use Rattle.twp_land.specs.Storage.{held_by_lane, nothing_held, with_block}
use Rattle.twp_land.specs.steps.BitLanes.{AreBlockLanes, ones_in_lanes}
use Rattle.twp_land.proofs.BlockFacts.{InSection, place_inside, total_of_block}
use Rattle.twp_land.proofs.BitFacts.{or_of_zeros, zeros_of_or, ones_are_total, some_or_none}
use Rattle.twp_land.proofs.BitFacts.{no_bit}

-- the test of a place is its lane's bit
held_inside : (lanes : List ℕ) (column row : ℕ) → column < places_across PLACE_DIGITS
    → row < places_across PLACE_DIGITS
    → held_by_lane lanes column row ≡ (bit_at (get_or lanes row 0) column == 1)
held_inside lanes column row in-column in-row =
    let place : is_place PLACE_DIGITS column row ≡ true = grind (arith, nat_tests) in
    rw place refl

bit_of_held : (lanes : List ℕ) (column row : ℕ) → held_by_lane lanes column row ≡ true
    → bit_at (get_or lanes row 0) column ≡ 1
bit_of_held lanes column row held = eqb-true _ _ (and_parts (is_place PLACE_DIGITS column row) _ held).1

held_of_bit : (lanes : List ℕ) (column row : ℕ) → column < places_across PLACE_DIGITS
    → row < places_across PLACE_DIGITS
    → bit_at (get_or lanes row 0) column ≡ 1 → held_by_lane lanes column row ≡ true
held_of_bit lanes column row in-column in-row bit =
    held_inside lanes column row in-column in-row ∙ eq-eqb _ _ bit

-- a bit as a test
bit_as_test : (lanes : List ℕ) (column row : ℕ) → column < places_across PLACE_DIGITS
    → row < places_across PLACE_DIGITS
    → bit_at (get_or lanes row 0) column ≡ one_where (held_by_lane lanes column row)
bit_as_test lanes column row in-column in-row =
    rw (held_inside lanes column row in-column in-row)
    (test (bit_at (get_or lanes row 0) column) (bit_at-lt (get_or lanes row 0) column))
  where
    test : (bit : ℕ) → bit < 2 → bit ≡ one_where (bit == 1)
    test zero below = refl
    test (suc zero) below = refl
    test (suc (suc bit)) below = absurd (omega arith)

-- The lanes of a set and of a block, of the same length.
module _ (lanes block_lanes : List ℕ) (block : Rectangle) (count : length lanes ≡ places_across PLACE_DIGITS)
    (are : AreBlockLanes block block_lanes) (lies : InSection block) where
  abbrev both : List ℕ
  both = zip2 bit_and lanes block_lanes

  -- the block's bits that are not in the set
  abbrev lacking : List ℕ
  lacking = zip2 bit_xor both block_lanes

  -- how many bits in each lane are in both
  abbrev ones : List ℕ
  ones = map (λ n. count_ones n) both

  same_count : length lanes ≡ length block_lanes
  same_count = count ∙ sym are.count

  length_both : length both ≡ places_across PLACE_DIGITS
  length_both = length-zip2 bit_and lanes block_lanes same_count ∙ count

  lane_of_both : (row : ℕ) → row < places_across PLACE_DIGITS
      → get_or both row 0 ≡ bit_and (get_or lanes row 0) (get_or block_lanes row 0)
  lane_of_both row below =
      get_or-zip2 bit_and lanes block_lanes row 0 0 0 (omega (arith, count)) (omega (arith, are.count))

  bit_of_both : (column row : ℕ) → row < places_across PLACE_DIGITS
      → bit_at (get_or both row 0) column
      ≡ min (bit_at (get_or lanes row 0) column) (one_where (in_rectangle block column row))
  bit_of_both column row below =
      ap (λ n. bit_at n column) (lane_of_both row below)
      ∙ bit_at_and (get_or lanes row 0) (get_or block_lanes row 0) column
      ∙ ap (λ bit. min (bit_at (get_or lanes row 0) column) bit) (are.bits column row below)

  both_below : (row : ℕ) → row < places_across PLACE_DIGITS
      → get_or both row 0 < 2 ^ places_across PLACE_DIGITS
  both_below row below =
      let least = and_le_r (get_or lanes row 0) (get_or block_lanes row 0) in
      omega (arith, lane_of_both row below, are.below row below)

  -- a lane in which no bit is in both
  empty_lane : (row : ℕ) → row < places_across PLACE_DIGITS
      → ((column : ℕ) → column < places_across PLACE_DIGITS
      → (bit_at (get_or both row 0) column == 1) ≡ false)
      → get_or both row 0 ≡ 0
  empty_lane row below none =
      same_from_bits_below (places_across PLACE_DIGITS) (get_or both row 0) 0 (both_below row below)
      (omega arith) (λ column within.
      zero_bit (bit_at (get_or both row 0) column) (bit_at-lt (get_or both row 0) column) (none column within)
      ∙ sym (bit_at-zero column))
    where
      zero_bit : (bit : ℕ) → bit < 2 → (bit == 1) ≡ false → bit ≡ 0
      zero_bit zero below no_one = refl
      zero_bit (suc zero) below no_one = cc no_one
      zero_bit (suc (suc bit)) below no_one = absurd (omega arith)

  place_of_bit : (column row : ℕ) → row < places_across PLACE_DIGITS → bit_at (get_or both row 0) column ≡ 1
      → Meets (held_by_lane lanes) block
  place_of_bit column row below is =
      let least =
      both_set (bit_at (get_or lanes row 0) column) (in_rectangle block column row)
      (sym (bit_of_both column row below) ∙ is) (bit_at-lt (get_or lanes row 0) column) in
      let inside = least.1 in
      record {
        column = column;
        row = row;
        inside = inside;
        is_held = held_of_bit lanes column row (place_inside block column row lies inside).0 below least.0;
      }
    where
      both_set : (bit : ℕ) (test : Bool) → min bit (one_where test) ≡ 1 → bit < 2 → (bit ≡ 1) × (test ≡ true)
      both_set zero true is small = cc is
      both_set zero false is small = cc is
      both_set (suc zero) true is small = (refl, refl)
      both_set (suc zero) false is small = cc is
      both_set (suc (suc bit)) test is small = absurd (omega arith)

  -- some lane has a bit that is in both
  meets_of_some : fold_l bit_or 0 both ≢ 0 → Meets (held_by_lane lanes) block
  meets_of_some some =
      elim (some_or_none (places_across PLACE_DIGITS) (λ row. not (get_or both row 0 == 0))) [
        | inl found ↦ in_row found.0 found.1 found.2
        | inr none ↦ absurd (some (or_of_zeros 0 both refl (λ row below.
            is_empty row (none row (omega (arith, length_both))))))
      ]
    where
      is_empty : (row : ℕ) → not (get_or both row 0 == 0) ≡ false → get_or both row 0 ≡ 0
      is_empty row not_some = eqb-true (get_or both row 0) 0 (not-false _ not_some)

      in_row : (row : ℕ) → row < places_across PLACE_DIGITS → not (get_or both row 0 == 0) ≡ true
          → Meets (held_by_lane lanes) block
      in_row row below some_there = elim (some_or_none (places_across PLACE_DIGITS) (λ column.
          bit_at (get_or both row 0) column == 1)) [
            | inl found ↦ place_of_bit found.0 row below (eqb-true _ 1 found.2)
            | inr none ↦ cc (sym some_there ∙ ap (λ n. not (n == 0)) (empty_lane row below none))
          ]

  some_of_meets : Meets (held_by_lane lanes) block → fold_l bit_or 0 both ≡ 0 → ⊥
  some_of_meets meets none =
      let in-row = (place_inside block meets.column meets.row lies meets.inside).1 in
      let lane = (zeros_of_or 0 both none).1 meets.row (omega (arith, length_both)) in
      let bit : bit_at (get_or both meets.row 0) meets.column ≡ 1 =
      bit_of_both meets.column meets.row in-row
      ∙ rw (meets.inside, bit_of_held lanes meets.column meets.row meets.is_held) refl in
      let empty : bit_at (get_or both meets.row 0) meets.column ≡ 0 =
      ap (λ n. bit_at n meets.column) lane ∙ bit_at-zero meets.column in
      omega arith

  pub lanes_meet : IsTrue (not (fold_l bit_or 0 both == 0)) ↔ Meets (held_by_lane lanes) block
  lanes_meet = (
    λ some. meets_of_some (λ none. cc (sym some ∙ ap (λ n. not (n == 0)) none)),
    λ meets. ap (λ t. not t) (ne_eqb _ 0 (some_of_meets meets)),
  )

  lacks : (column row : ℕ) → row < places_across PLACE_DIGITS
      → bit_at (get_or lacking row 0) column
      ≡ (min (bit_at (get_or lanes row 0) column) (one_where (in_rectangle block column row))
      + one_where (in_rectangle block column row))
      % 2
  lacks column row below =
      let lane =
      get_or-zip2 bit_xor both block_lanes row 0 0 0 (omega (arith, length_both))
      (omega (arith, are.count)) in
      ap (λ n. bit_at n column) lane ∙ bit_at_xor (get_or both row 0) (get_or block_lanes row 0) column
      ∙ (λ i. (bit_of_both column row below i + are.bits column row below i) % 2)

  length_lacks : length lacking ≡ places_across PLACE_DIGITS
  length_lacks = length-zip2 bit_xor both block_lanes (length_both ∙ sym are.count) ∙ length_both

  full_of_none : fold_l bit_or 0 lacking ≡ 0 → HoldsAll (held_by_lane lanes) block
  full_of_none none column row inside =
      let place = place_inside block column row lies inside in
      let lane = (zeros_of_or 0 lacking none).1 row (omega (arith, length_lacks, place.1)) in
      let empty : bit_at (get_or lacking row 0) column ≡ 0 =
      ap (λ n. bit_at n column) lane ∙ bit_at-zero column in
      let there : (min (bit_at (get_or lanes row 0) column) 1 + 1) % 2 ≡ 0 =
      rw inside at (sym (lacks column row place.1) ∙ empty) in
      held_of_bit lanes column row place.0 place.1
      (is_set (bit_at (get_or lanes row 0) column) there (bit_at-lt (get_or lanes row 0) column))
    where
      is_set : (bit : ℕ) → (min bit 1 + 1) % 2 ≡ 0 → bit < 2 → bit ≡ 1
      is_set zero is small = cc is
      is_set (suc zero) is small = refl
      is_set (suc (suc bit)) is small = absurd (omega arith)

  none_of_full : HoldsAll (held_by_lane lanes) block → fold_l bit_or 0 lacking ≡ 0
  none_of_full full =
      or_of_zeros 0 lacking refl (λ row below.
      same_from_bits (get_or lacking row 0) 0 (λ column.
      none column row (omega (arith, length_lacks)) (cases_Bool (in_rectangle block column row))
      ∙ sym (bit_at-zero column)))
    where
      none_inside : (column row : ℕ) → row < places_across PLACE_DIGITS → in_rectangle block column row ≡ true
          → (min (bit_at (get_or lanes row 0) column) (one_where (in_rectangle block column row))
          + one_where (in_rectangle block column row))
          % 2
          ≡ 0
      none_inside column row below inside =
          rw (inside, bit_of_held lanes column row (full column row inside)) refl

      none_outside : (bit : ℕ) → (min bit 0 + 0) % 2 ≡ 0
      none_outside bit = rw (min-zero bit) refl

      none : (column row : ℕ) → row < places_across PLACE_DIGITS
          → (in_rectangle block column row ≡ true) ⊎ (in_rectangle block column row ≡ false)
          → bit_at (get_or lacking row 0) column ≡ 0
      none column row below (inl inside) = lacks column row below ∙ none_inside column row below inside
      none column row below (inr outside) =
          lacks column row below ∙ rw outside (none_outside (bit_at (get_or lanes row 0) column))

  pub lanes_are_full : IsTrue (fold_l bit_or 0 lacking == 0) ↔ HoldsAll (held_by_lane lanes) block
  lanes_are_full = (
    λ none. full_of_none (eqb-true _ 0 none),
    λ full. eq-eqb _ 0 (none_of_full full),
  )

  -- the set's bits and the block's bits
  bit_of_either : (column row : ℕ) → row < places_across PLACE_DIGITS
      → bit_at (get_or (zip2 bit_or lanes block_lanes) row 0) column
      ≡ max (bit_at (get_or lanes row 0) column) (one_where (in_rectangle block column row))
  bit_of_either column row below =
      ap (λ n. bit_at n column)
      (get_or-zip2 bit_or lanes block_lanes row 0 0 0 (omega (arith, count)) (omega (arith, are.count)))
      ∙ bit_at_or (get_or lanes row 0) (get_or block_lanes row 0) column
      ∙ ap (λ bit. max (bit_at (get_or lanes row 0) column) bit) (are.bits column row below)

  pub lanes_with_block : held_by_lane (put_chunk 0 lanes (zip2 bit_or lanes block_lanes))
      ≡ with_block (held_by_lane lanes) block
  lanes_with_block =
      ap held_by_lane
      (put_chunk_whole lanes (zip2 bit_or lanes block_lanes)
      (sym (length-zip2 bit_or lanes block_lanes same_count)))
      ∙ fun_ext (λ column. fun_ext (λ row. elim (cases_Bool (is_place PLACE_DIGITS column row)) [
        | inl place ↦ inside column row place
        | inr outside ↦ rw (outside, not_inside column row outside) refl
      ]))
    where
      not_inside : (column row : ℕ) → is_place PLACE_DIGITS column row ≡ false
          → in_rectangle block column row ≡ false
      not_inside column row outside = elim (cases_Bool (in_rectangle block column row)) [
        | inl there ↦
            let place = place_inside block column row lies there in
            let is : is_place PLACE_DIGITS column row ≡ true = grind (arith, nat_tests, place.0, place.1) in
            cc (sym is ∙ outside)
        | inr not_there ↦ not_there
      ]

      either : (bit : ℕ) (test : Bool) → bit < 2 → (max bit (one_where test) == 1) ≡ ((bit == 1) || test)
      either zero true small = refl
      either zero false small = refl
      either (suc zero) true small = refl
      either (suc zero) false small = refl
      either (suc (suc bit)) test small = absurd (omega arith)

      inside : (column row : ℕ) → is_place PLACE_DIGITS column row ≡ true
          → held_by_lane (zip2 bit_or lanes block_lanes) column row
          ≡ with_block (held_by_lane lanes) block column row
      inside column row place =
          let parts =
          and_parts (nat_lt column (places_across PLACE_DIGITS)) (nat_lt row (places_across PLACE_DIGITS))
          place in
          let in-row : row < places_across PLACE_DIGITS = grind (arith, nat_tests) in
          rw (place, bit_of_either column row in-row)
          (either (bit_at (get_or lanes row 0) column) (in_rectangle block column row)
          (bit_at-lt (get_or lanes row 0) column))

  -- the ones in a row's lane
  ones_of_row : (row : ℕ) → row < places_across PLACE_DIGITS
      → count_ones (get_or both row 0)
      ≡ total (places_across PLACE_DIGITS)
      (λ column. min (one_where (held_by_lane lanes column row)) (one_where (in_rectangle block column row)))
  ones_of_row row below =
      ones_are_total (places_across PLACE_DIGITS) (get_or both row 0) (both_below row below)
      ∙ total-ext (places_across PLACE_DIGITS) _ _ (λ column within.
      bit_of_both column row below
      ∙ ap (λ bit. min bit (one_where (in_rectangle block column row)))
      (bit_as_test lanes column row within below))

  pub count_in_lanes : ones_in_lanes both ≡ count_held (held_by_lane lanes) block
  count_in_lanes =
      total-ext (places_across PLACE_DIGITS) _ _ ones_of_row ∙ total_of_block (held_by_lane lanes) block lies

-- lanes without bits contain no place
pub held_in_no_lanes : (n : ℕ) → held_by_lane (replicate n 0) ≡ nothing_held
held_in_no_lanes n =
    fun_ext (λ column. fun_ext (λ row. and_right (is_place PLACE_DIGITS column row) _ (no_bit n column row)))

-- what is kept of no places is no places
pub nothing_kept : (held keep : ℕ → ℕ → Bool) → held ≡ nothing_held
    → (λ column row. held column row && keep column row) ≡ nothing_held
nothing_kept held keep none =
    ap (λ places. λ column row. places column row && keep column row) none
