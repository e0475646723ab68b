-- The test of whether a section has a place at a column and a row.
use Rattle.std.proofs.Common.{◌≡◌, ℕ, ◌+◌, ◌^◌, ◌&&◌, true, refl, arith, nat_lt, nat_le}
use Rattle.std.proofs.lemmas.Bool.{and_parts}
use Rattle.std.proofs.lemmas.Bool.Decides.{nat_tests}
use Rattle.twp_grid.specs.Places.{is_place, IsPlace, PLACE_DIGITS, places_across}
use Rattle.twp_grid.specs.Spans.{in_rectangle, whole_block}

pub place_of_test : (g column row : ℕ) → is_place g column row ≡ true → IsPlace g column row
place_of_test g column row place =
    let parts = and_parts (nat_lt column (2 ^ g)) (nat_lt row (2 ^ g)) place in
    (grind (arith, nat_tests, parts.0), grind (arith, nat_tests, parts.1))

pub test_of_place : (g column row : ℕ) → IsPlace g column row → is_place g column row ≡ true
test_of_place g column row place =
    let across : nat_lt column (2 ^ g) ≡ true = grind (arith, nat_tests, place.0) in
    let upward : nat_lt row (2 ^ g) ≡ true = grind (arith, nat_tests, place.1) in
    rw (across, upward) refl

-- a whole section contains all its places
pub whole_is_place : (column row : ℕ)
    → in_rectangle (whole_block PLACE_DIGITS) column row ≡ is_place PLACE_DIGITS column row
whole_is_place column row = rw (along column, along row) refl
  where
    along : (n : ℕ)
        → (nat_le 0 n && nat_lt n (0 + places_across PLACE_DIGITS)) ≡ nat_lt n (places_across PLACE_DIGITS)
    along n = grind (arith, nat_tests)
