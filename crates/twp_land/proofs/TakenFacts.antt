-- A section's places without those of another set, and whether the set contains them all, as they
-- are stored.
use Rattle.std.proofs.Common.{◌≡◌, ◌↔◌, IsTrue, ◌==◌, ℕ, zero, suc, ◌-◌, ◌<◌, ◌≤◌, ◌&&◌, Bool, true}
use Rattle.std.proofs.Common.{not, List, [], length, get_or, nat_lt, ap, refl, sym, ◌∙◌, inl, inr, arith, min}
use Rattle.std.proofs.Common.{map, w32}
use Rattle.std.proofs.Math.Path.{fun_ext}
use Rattle.std.specs.Int.{bit_at, bit_not}
use Rattle.std.specs.Int.Bits.{bit_and, bit_or}
use Rattle.std.specs.Simd.Lanes.{zip2, fold_l, put_chunk}
use Rattle.std.proofs.lemmas.Simd.{get_or-zip2, length-zip2, put_chunk_whole}
use Rattle.std.proofs.lemmas.List.{get_or-map, length-map}
use Rattle.std.proofs.lemmas.Nat.{and_le_r}
use Rattle.std.proofs.lemmas.Nat.Bits.{bit_at_and, bit_at_not, bit_at-lt, bit_at-zero, same_from_bits_below}
use Rattle.std.proofs.lemmas.Bool.{cases_Bool, and_parts, eqb-true, eq-eqb}
use Rattle.std.proofs.lemmas.Bool.Decides.{nat_tests}
use Rattle.twp_grid.specs.Places.{PLACE_DIGITS, places_across, is_place}
use Rattle.twp_land.specs.Storage.{held_by_lane, held_without, ContainsHeld}
use Rattle.twp_land.specs.steps.RowTests.{IsTaken}
use Rattle.twp_land.specs.steps.BitLanes.{AreLanes}
use Rattle.twp_land.proofs.BitFacts.{or_of_zeros, zeros_of_or}

-- a place of the section
in_place : (column row : ℕ) → column < places_across PLACE_DIGITS → row < places_across PLACE_DIGITS
    → is_place PLACE_DIGITS column row ≡ true
in_place column row in-column in-row = grind (arith, nat_tests)

of_place : (column row : ℕ) → is_place PLACE_DIGITS column row ≡ true
    → (column < places_across PLACE_DIGITS) × (row < places_across PLACE_DIGITS)
of_place column row place =
    let parts =
    and_parts (nat_lt column (places_across PLACE_DIGITS)) (nat_lt row (places_across PLACE_DIGITS)) place in
    (grind (arith, nat_tests), grind (arith, nat_tests))

-- the rows below a number are without the others, and the rest are as they were
pub record AreTaken (rows others : List (List Bool)) (count : ℕ) (taken : List (List Bool)) : Type 0 where
  pub all : length taken ≡ places_across PLACE_DIGITS
  pub below : (row : ℕ) → row < count
      → IsTaken (get_or rows row []) (get_or others row []) (get_or taken row [])
  pub from : (row : ℕ) → count ≤ row → get_or taken row [] ≡ get_or rows row []

-- The lanes of two sets, of the same length.
module _ (lanes others : List ℕ) (count : length lanes ≡ places_across PLACE_DIGITS)
    (same : length others ≡ places_across PLACE_DIGITS) where
  -- the places that are not in a set
  abbrev off : List ℕ → List ℕ
  off lanes = map (λ n. bit_not w32 n) lanes

  abbrev rest : List ℕ
  rest = zip2 bit_and lanes (off others)

  length_off_others : length (off others) ≡ places_across PLACE_DIGITS
  length_off_others = length-map others (λ n. bit_not w32 n) ∙ same

  length_off_lanes : length (off lanes) ≡ places_across PLACE_DIGITS
  length_off_lanes = length-map lanes (λ n. bit_not w32 n) ∙ count

  bit_of_rest : AreLanes others → (column row : ℕ) → column < places_across PLACE_DIGITS
      → row < places_across PLACE_DIGITS
      → bit_at (get_or rest row 0) column
      ≡ min (bit_at (get_or lanes row 0) column) (1 - bit_at (get_or others row 0) column)
  bit_of_rest are column row in-column in-row =
      ap (λ n. bit_at n column)
      (get_or-zip2 bit_and lanes (off others) row 0 0 0 (omega (arith, count))
      (omega (arith, length_off_others)))
      ∙ bit_at_and (get_or lanes row 0) (get_or (off others) row 0) column
      ∙ ap (λ bit. min (bit_at (get_or lanes row 0) column) bit) off_there
    where
      off_there : bit_at (get_or (off others) row 0) column ≡ 1 - bit_at (get_or others row 0) column
      off_there =
          ap (λ n. bit_at n column)
          (get_or-map (λ n. bit_not w32 n) others row 0 0 (omega (arith, same)))
          ∙ bit_at_not w32 (get_or others row 0) column (are row (omega (arith, same))) in-column

  pub lanes_taken : AreLanes others
      → held_by_lane (put_chunk 0 lanes rest) ≡ held_without (held_by_lane lanes) (held_by_lane others)
  lanes_taken are =
      ap held_by_lane (put_chunk_whole lanes rest
      (sym (length-zip2 bit_and lanes (off others) (count ∙ sym length_off_others))))
      ∙ fun_ext (λ column. fun_ext (λ row. elim (cases_Bool (is_place PLACE_DIGITS column row)) [
        | inl place ↦
            let at = of_place column row place in
            rw (place, bit_of_rest are column row at.0 at.1)
            (of_two (bit_at (get_or lanes row 0) column) (bit_at (get_or others row 0) column)
            (bit_at-lt (get_or lanes row 0) column) (bit_at-lt (get_or others row 0) column))
        | inr outside ↦ rw outside refl
      ]))
    where
      of_two : (bit other : ℕ) → bit < 2 → other < 2
          → (min bit (1 - other) == 1) ≡ ((bit == 1) && not (other == 1))
      of_two zero zero small small' = refl
      of_two zero (suc zero) small small' = refl
      of_two (suc zero) zero small small' = refl
      of_two (suc zero) (suc zero) small small' = refl
      of_two (suc (suc bit)) other small small' = absurd (omega arith)
      of_two zero (suc (suc other)) small small' = absurd (omega arith)
      of_two (suc zero) (suc (suc other)) small small' = absurd (omega arith)

  -- the places of the second set that the first lacks
  abbrev lacking : List ℕ
  lacking = zip2 bit_and (off lanes) others

  length_lacking : length lacking ≡ places_across PLACE_DIGITS
  length_lacking =
      length-zip2 bit_and (off lanes) others (length_off_lanes ∙ sym same) ∙ length_off_lanes

  lane_lacking : (row : ℕ) → row < places_across PLACE_DIGITS
      → get_or lacking row 0 ≡ bit_and (get_or (off lanes) row 0) (get_or others row 0)
  lane_lacking row below =
      get_or-zip2 bit_and (off lanes) others row 0 0 0 (omega (arith, length_off_lanes))
      (omega (arith, same))

  bit_lacking : AreLanes lanes → (column row : ℕ) → column < places_across PLACE_DIGITS
      → row < places_across PLACE_DIGITS
      → bit_at (get_or lacking row 0) column
      ≡ min (1 - bit_at (get_or lanes row 0) column) (bit_at (get_or others row 0) column)
  bit_lacking are column row in-column in-row =
      ap (λ n. bit_at n column) (lane_lacking row in-row)
      ∙ bit_at_and (get_or (off lanes) row 0) (get_or others row 0) column
      ∙ ap (λ bit. min bit (bit_at (get_or others row 0) column)) off_there
    where
      off_there : bit_at (get_or (off lanes) row 0) column ≡ 1 - bit_at (get_or lanes row 0) column
      off_there =
          ap (λ n. bit_at n column)
          (get_or-map (λ n. bit_not w32 n) lanes row 0 0 (omega (arith, count)))
          ∙ bit_at_not w32 (get_or lanes row 0) column (are row (omega (arith, count))) in-column

  contains_of_none : AreLanes lanes → fold_l bit_or 0 lacking ≡ 0
      → ContainsHeld (held_by_lane lanes) (held_by_lane others)
  contains_of_none are none column row held =
      let parts = and_parts (is_place PLACE_DIGITS column row) _ held in
      let at = of_place column row parts.0 in
      let lane = (zeros_of_or 0 lacking none).1 row (omega (arith, length_lacking, at.1)) in
      let empty : min (1 - bit_at (get_or lanes row 0) column) (bit_at (get_or others row 0) column) ≡ 0 =
      sym (bit_lacking are column row at.0 at.1) ∙ ap (λ n. bit_at n column) lane ∙ bit_at-zero column in
      rw parts.0
      (eq-eqb _ 1 (is_set (bit_at (get_or lanes row 0) column) (bit_at (get_or others row 0) column) empty
      (eqb-true _ 1 parts.1) (bit_at-lt (get_or lanes row 0) column)))
    where
      is_set : (bit other : ℕ) → min (1 - bit) other ≡ 0 → other ≡ 1 → bit < 2 → bit ≡ 1
      is_set zero other none one small = cc (none, ap (λ n. min 1 n) one)
      is_set (suc zero) other none one small = refl
      is_set (suc (suc bit)) other none one small = absurd (omega arith)

  none_of_contains : AreLanes lanes → AreLanes others
      → ContainsHeld (held_by_lane lanes) (held_by_lane others) → fold_l bit_or 0 lacking ≡ 0
  none_of_contains are are' contains =
      or_of_zeros 0 lacking refl (λ row below. empty row (omega (arith, length_lacking)))
    where
      no_bit : (bit other : ℕ) → bit < 2 → other < 2 → (other ≡ 1 → bit ≡ 1) → min (1 - bit) other ≡ 0
      no_bit zero zero small small' held = refl
      no_bit zero (suc zero) small small' held = cc (held refl)
      no_bit (suc zero) zero small small' held = refl
      no_bit (suc zero) (suc zero) small small' held = refl
      no_bit (suc (suc bit)) other small small' held = absurd (omega arith)
      no_bit zero (suc (suc other)) small small' held = absurd (omega arith)
      no_bit (suc zero) (suc (suc other)) small small' held = absurd (omega arith)

      bit : (column row : ℕ) → column < places_across PLACE_DIGITS → row < places_across PLACE_DIGITS
          → bit_at (get_or others row 0) column ≡ 1 → bit_at (get_or lanes row 0) column ≡ 1
      bit column row in-column in-row one =
          let held : held_by_lane others column row ≡ true =
          rw (in_place column row in-column in-row) (eq-eqb _ 1 one) in
          eqb-true _ 1
          (and_parts (is_place PLACE_DIGITS column row) _ (contains column row held)).1

      empty : (row : ℕ) → row < places_across PLACE_DIGITS → get_or lacking row 0 ≡ 0
      empty row below =
          let least = and_le_r (get_or (off lanes) row 0) (get_or others row 0) in
          same_from_bits_below (places_across PLACE_DIGITS) (get_or lacking row 0) 0
          (omega (arith, lane_lacking row below, are' row (omega (arith, same)))) (omega arith)
          (λ column within.
          bit_lacking are column row within below
          ∙ no_bit (bit_at (get_or lanes row 0) column) (bit_at (get_or others row 0) column)
          (bit_at-lt (get_or lanes row 0) column) (bit_at-lt (get_or others row 0) column)
          (bit column row within below)
          ∙ sym (bit_at-zero column))

  pub lanes_contain : AreLanes lanes → AreLanes others
      → IsTrue (fold_l bit_or 0 lacking == 0) ↔ ContainsHeld (held_by_lane lanes) (held_by_lane others)
  lanes_contain are are' = (
    λ none. contains_of_none are (eqb-true _ 0 none),
    λ contains. eq-eqb _ 0 (none_of_contains are are' contains),
  )
