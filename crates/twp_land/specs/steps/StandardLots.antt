-- The standard lots lie in their sections, and have low numbers: the proof of a law of `Lotting`.
use Rattle.std.proofs.Common.{◌≡◌, ℕ, ◌+◌, ◌*◌, ◌%◌, ◌<◌, ◌≤◌, Some, true, refl, inl, inr, arith}
use Rattle.std.proofs.lemmas.Bool.{cases_lt}
use Rattle.std.proofs.lemmas.Nat.{div-add-mod', mod_below, mul-le}
use Rattle.twp_grid.specs.Lots.{POSITIONS_ACROSS, lot_at_position}
use Rattle.twp_grid.specs.Places.{PLACE_DIGITS, IsPlace, places_across, places_to_position, position_along}
use Rattle.twp_grid.specs.Lands.{STANDARD_LOTS, AreLots, lot_of_place, standard_lots}
use Rattle.twp_grid.proofs.LotFacts.{lot_outside, lot_numbered}
use Rattle.twp_grid.proofs.TilingFacts.{position_has_places}

-- a place whose position is one of the four along a side is in the section
below_side : (g position place : ℕ) → POSITIONS_ACROSS ≤ places_across g → position_along g place ≡ position
    → position < POSITIONS_ACROSS → place < places_across g
below_side g position place fits is less =
    let size = places_to_position g in
    let has = position_has_places g fits in
    let split : position_along g place * size + place % size ≡ place = div-add-mod' place size in
    let rest : place % size < size = mod_below place size has.0 in
    let most : position_along g place * size ≤ 3 * size =
    mul-le (position_along g place) size 3 size (omega (arith, is, less)) (omega arith) in
    omega (arith, has.1, split, rest, most)

lies_within : (g : ℕ) → POSITIONS_ACROSS ≤ places_across g → (section lot column row : ℕ)
    → lot_of_place g section column row ≡ Some lot → IsPlace g column row
lies_within g fits section lot column row is =
    within (position_along g column) (position_along g row) refl refl is
  where
    within : (c r : ℕ) → position_along g column ≡ c → position_along g row ≡ r
        → lot_at_position section c r ≡ Some lot → IsPlace g column row
    within c r column-is row-is found = elim (cases_lt c 4) [
      | inr out ↦
          let far : 3 < c = omega (arith, out) in
          cc (found, lot_outside section c r (inl far))
      | inl in-c ↦ elim (cases_lt r 4) [
        | inr out ↦
            let far : 3 < r = omega (arith, out) in
            cc (found, lot_outside section c r (inr far))
        | inl in-r ↦ (below_side g c column fits column-is in-c, below_side g r row fits row-is in-r)
      ]
    ]

is_land : (g : ℕ) → POSITIONS_ACROSS ≤ places_across g → (section lot column row : ℕ)
    → lot_of_place g section column row ≡ Some lot
    → IsPlace g column row × ((standard_lots g).has_land section column row ≡ true)
is_land g fits section lot column row is =
    let place = lies_within g fits section lot column row is in
    (place, refl)

pub are_standard_lots : (g : ℕ) → POSITIONS_ACROSS ≤ places_across g → AreLots (standard_lots g)
are_standard_lots g fits = record {
  within = is_land g fits;
  numbered = λ section lot column row is.
      let few = lot_numbered section _ _ lot is in
      (few.0, omega (arith, few.1));
}

pub standard_are_lots : AreLots STANDARD_LOTS
standard_are_lots = are_standard_lots PLACE_DIGITS (omega arith)
