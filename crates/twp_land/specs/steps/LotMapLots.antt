-- The lots of bytes are land of their section, and have numbers from 1 to 99: the proof of a law of
-- `Lotting`.
use Rattle.std.proofs.Common.{◌≡◌, ℕ, ◌<◌, ◌&&◌, Bool, List, Some, None, true, false, not, nat_le}
use Rattle.std.proofs.Common.{nat_lt, inl, inr, arith}
use Rattle.std.proofs.Common.{refl}
use Rattle.std.proofs.lemmas.Bool.{cases_Bool}
use Rattle.std.proofs.lemmas.Bool.Decides.{nat_tests}
use Rattle.twp_grid.specs.Places.{PLACE_DIGITS, IsPlace, is_place}
use Rattle.twp_grid.specs.Lands.{AreLots, lotting}
use Rattle.twp_grid.proofs.PlaceTests.{place_of_test}
use Rattle.twp_land.specs.LotMaps.{NO_LAND, layout_of_bytes, mark_of, marked_lot, place_number}

-- a mark that names a lot is its number
pub lot_of_mark : (mark lot : ℕ) → marked_lot mark ≡ Some lot → (mark ≡ lot) × (0 < lot) × (lot < NO_LAND)
lot_of_mark mark lot is = elim (cases_Bool (nat_lt 0 mark && nat_lt mark NO_LAND)) [
  | inr other ↦
      let none : None ≡ Some lot = rw other at is in
      absurd (cc none)
  | inl names ↦
      let some : Some mark ≡ Some lot = rw names at is in
      let same : mark ≡ lot = cc some in
      (same, grind (arith, nat_tests, names, same), grind (arith, nat_tests, names, same))
]

nowhere : (place : Bool) → not (place && false) ≡ true
nowhere true = refl
nowhere false = refl

pub map_are_lots : (positions divided : List ℕ) → AreLots (lotting (layout_of_bytes positions divided))
map_are_lots positions divided = record {
  within = λ section lot column row is.
      let here = lot_here section lot column row is in
      let mark = mark_of positions divided section (place_number column row) in
      let land : nat_le NO_LAND mark ≡ false = grind (arith, nat_tests, here.1) in
      (here.0, rw land (nowhere (is_place PLACE_DIGITS column row)));
  numbered = λ section lot column row is.
      let here = lot_here section lot column row is in
      (omega (arith, here.1), omega (arith, here.1));
}
  where
    lot_here : (section lot column row : ℕ)
        → (layout_of_bytes positions divided).lot_of section column row ≡ Some lot
        → IsPlace PLACE_DIGITS column row
        × ((mark_of positions divided section (place_number column row) ≡ lot) × (0 < lot) × (lot < NO_LAND))
    lot_here section lot column row is = elim (cases_Bool (is_place PLACE_DIGITS column row)) [
      | inr out ↦
          let none : None ≡ Some lot = rw out at is in
          absurd (cc none)
      | inl place ↦ (
        place_of_test PLACE_DIGITS column row place,
        lot_of_mark (mark_of positions divided section (place_number column row)) lot (rw place at is),
      )
    ]
