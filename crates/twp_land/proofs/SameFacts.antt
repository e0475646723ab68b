-- Two sets in one section that contain the same places, as they are stored.
use Rattle.std.proofs.Common.{◌≡◌, ◌↔◌, IsTrue, ◌==◌, ℕ, zero, suc, ◌+◌, ◌%◌, ◌<◌, true, List}
use Rattle.std.proofs.Common.{length, get_or, nat_lt, ap, refl, sym, ◌∙◌, inl, inr, arith}
use Rattle.std.specs.Int.{bit_at}
use Rattle.std.specs.Int.Bits.{bit_or, bit_xor, xor_self}
use Rattle.std.specs.Simd.Lanes.{zip2, fold_l}
use Rattle.std.proofs.lemmas.Simd.{get_or-zip2, length-zip2}
use Rattle.std.proofs.lemmas.Nat.Bits.{bit_at_xor, bit_at-lt, bit_at-zero, same_from_bits_below}
use Rattle.std.proofs.lemmas.Bool.{cases_Bool, and_parts, eqb-true, eq-eqb}
use Rattle.std.proofs.lemmas.Bool.Decides.{nat_tests}
use Rattle.twp_grid.specs.Places.{PLACE_DIGITS, places_across, is_place}
use Rattle.twp_land.specs.Storage.{held_by_lane, SameHeld}
use Rattle.twp_land.specs.steps.BitLanes.{AreLanes}
use Rattle.twp_land.proofs.BitFacts.{or_of_zeros, zeros_of_or}

-- a place of the section
in_place : (column row : ℕ) → column < places_across PLACE_DIGITS → row < places_across PLACE_DIGITS
    → is_place PLACE_DIGITS column row ≡ true
in_place column row in-column in-row = grind (arith, nat_tests)

of_place : (column row : ℕ) → is_place PLACE_DIGITS column row ≡ true
    → (column < places_across PLACE_DIGITS) × (row < places_across PLACE_DIGITS)
of_place column row place =
    let parts =
    and_parts (nat_lt column (places_across PLACE_DIGITS)) (nat_lt row (places_across PLACE_DIGITS)) place in
    (grind (arith, nat_tests), grind (arith, nat_tests))

-- The lanes of two sets, of the same length.
module _ (lanes others : List ℕ) (count : length lanes ≡ places_across PLACE_DIGITS)
    (equal : length others ≡ places_across PLACE_DIGITS) where
  abbrev differing : List ℕ
  differing = zip2 bit_xor lanes others

  length_differing : length differing ≡ places_across PLACE_DIGITS
  length_differing = length-zip2 bit_xor lanes others (count ∙ sym equal) ∙ count

  lane_differing : (row : ℕ) → row < places_across PLACE_DIGITS
      → get_or differing row 0 ≡ bit_xor (get_or lanes row 0) (get_or others row 0)
  lane_differing row below =
      get_or-zip2 bit_xor lanes others row 0 0 0 (omega (arith, count)) (omega (arith, equal))

  same_of_none : fold_l bit_or 0 differing ≡ 0 → SameHeld (held_by_lane lanes) (held_by_lane others)
  same_of_none none column row = elim (cases_Bool (is_place PLACE_DIGITS column row)) [
    | inl place ↦ rw (place, same_bit column row (of_place column row place).1) refl
    | inr outside ↦ rw outside refl
  ]
    where
      same : (bit other : ℕ) → (bit + other) % 2 ≡ 0 → bit < 2 → other < 2 → bit ≡ other
      same bit other even small small' = omega arith

      same_bit : (column row : ℕ) → row < places_across PLACE_DIGITS
          → bit_at (get_or lanes row 0) column ≡ bit_at (get_or others row 0) column
      same_bit column row below =
          let lane =
          sym (lane_differing row below)
          ∙ (zeros_of_or 0 differing none).1 row (omega (arith, length_differing)) in
          let even =
          sym (bit_at_xor (get_or lanes row 0) (get_or others row 0) column)
          ∙ ap (λ n. bit_at n column) lane
          ∙ bit_at-zero column in
          same (bit_at (get_or lanes row 0) column) (bit_at (get_or others row 0) column) even
          (bit_at-lt (get_or lanes row 0) column) (bit_at-lt (get_or others row 0) column)

  none_of_same : AreLanes lanes → AreLanes others → SameHeld (held_by_lane lanes) (held_by_lane others)
      → fold_l bit_or 0 differing ≡ 0
  none_of_same are are' same =
      or_of_zeros 0 differing refl (λ row below. none row (omega (arith, length_differing)))
    where
      one_test : (bit other : ℕ) → bit < 2 → other < 2 → (bit == 1) ≡ (other == 1) → bit ≡ other
      one_test zero zero small small' is = refl
      one_test zero (suc zero) small small' is = cc is
      one_test (suc zero) zero small small' is = cc is
      one_test (suc zero) (suc zero) small small' is = refl
      one_test (suc (suc bit)) other small small' is = absurd (omega arith)
      one_test zero (suc (suc other)) small small' is = absurd (omega arith)
      one_test (suc zero) (suc (suc other)) small small' is = absurd (omega arith)

      bit : (column row : ℕ) → column < places_across PLACE_DIGITS → row < places_across PLACE_DIGITS
          → bit_at (get_or lanes row 0) column ≡ bit_at (get_or others row 0) column
      bit column row in-column in-row =
          one_test (bit_at (get_or lanes row 0) column) (bit_at (get_or others row 0) column)
          (bit_at-lt (get_or lanes row 0) column) (bit_at-lt (get_or others row 0) column)
          (rw (in_place column row in-column in-row) at (same column row))

      none : (row : ℕ) → row < places_across PLACE_DIGITS → get_or differing row 0 ≡ 0
      none row below =
          let lane =
          same_from_bits_below (places_across PLACE_DIGITS) (get_or lanes row 0) (get_or others row 0)
          (are row (omega (arith, count))) (are' row (omega (arith, equal)))
          (λ column within. bit column row within below) in
          lane_differing row below
          ∙ ap (λ n. bit_xor n (get_or others row 0)) lane
          ∙ xor_self (get_or others row 0)

  pub lanes_same : AreLanes lanes → AreLanes others
      → IsTrue (fold_l bit_or 0 differing == 0) ↔ SameHeld (held_by_lane lanes) (held_by_lane others)
  lanes_same are are' = (
    λ none. same_of_none (eqb-true _ 0 none),
    λ same. eq-eqb _ 0 (none_of_same are are' same),
  )
