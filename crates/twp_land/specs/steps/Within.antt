-- Stored sets lie in the township: the proofs of the law of `Land` and `Plot`.
use Rattle.std.proofs.Common.{◌≡◌, ◌==◌, ℕ, ◌-◌, Bool, true, false, List, Option, Some, None, nat_le}
use Rattle.std.proofs.Common.{nat_lt, arith, sym, ◌∙◌}
use Rattle.std.specs.List.{slice_get}
use Rattle.std.specs.Option.{option_map_or}
use Rattle.std.proofs.lemmas.Bool.Decides.{nat_tests}
use Rattle.std.proofs.lemmas.Bool.{and_parts}
use Rattle.twp_grid.specs.Winding.{SECTION_COUNT, IsSection}
use Rattle.twp_grid.specs.Places.{PLACE_DIGITS, places_across, is_place, IsPlace}
use Rattle.twp_grid.proofs.PlaceTests.{whole_is_place}
use Rattle.twp_land.specs.Storage.{is_section, held_by_section, held_in_one, held_by_row, held_by_lane}
use Rattle.twp_land.specs.Storage.{all_if}

-- a place of the section, from its test
place_of : (column row : ℕ) → is_place PLACE_DIGITS column row ≡ true
    → IsPlace PLACE_DIGITS column row
place_of column row place =
    let below_width = nat_lt column (places_across PLACE_DIGITS) in
    let below_height = nat_lt row (places_across PLACE_DIGITS) in
    let parts = and_parts below_width below_height place in
    (grind (arith, nat_tests), grind (arith, nat_tests))

-- a set stored as rows lies in the section
pub row_within : (rows : List (List Bool)) (column row : ℕ)
    → held_by_row rows column row ≡ true → IsPlace PLACE_DIGITS column row
row_within rows column row held =
    place_of column row (and_parts (is_place PLACE_DIGITS column row) _ held).0

-- a set stored as lanes lies in the section
pub lane_within : (lanes : List ℕ) (column row : ℕ)
    → held_by_lane lanes column row ≡ true → IsPlace PLACE_DIGITS column row
lane_within lanes column row held =
    place_of column row (and_parts (is_place PLACE_DIGITS column row) _ held).0

-- a set stored by section contains only places of a section, which its part there contains
pub held_within : {P : Type 0} (held : P → ℕ → ℕ → Bool) (plots : List P) (section column row : ℕ)
    → ((plot : P) (column row : ℕ) → held plot column row ≡ true → IsPlace PLACE_DIGITS column row)
    → held_by_section held plots section column row ≡ true
    → IsSection section × IsPlace PLACE_DIGITS column row
held_within {P = P} held plots section column row within is =
    let parts = and_parts (is_section section) _ is in
    let sides = and_parts (nat_le 1 section) (nat_le section SECTION_COUNT) parts.0 in
    let number : IsSection section = (grind (arith, nat_tests), grind (arith, nat_tests)) in
    (number, of_plot (slice_get plots (section - 1)) parts.1)
  where
    of_plot : (found : Option P) → option_map_or (λ plot. held plot column row) found false ≡ true
        → IsPlace PLACE_DIGITS column row
    of_plot None none = cc none
    of_plot (Some plot) held_there = within plot column row held_there

-- a set of places in one section contains only places of a section
pub one_within : (number : ℕ) (held : ℕ → ℕ → Bool) (section column row : ℕ)
    → ((column row : ℕ) → held column row ≡ true → IsPlace PLACE_DIGITS column row)
    → held_in_one number held section column row ≡ true
    → IsSection section × IsPlace PLACE_DIGITS column row
one_within number held section column row within is =
    let parts = and_parts (is_section section) _ is in
    let sides = and_parts (nat_le 1 section) (nat_le section SECTION_COUNT) parts.0 in
    let range : IsSection section = (grind (arith, nat_tests), grind (arith, nat_tests)) in
    (range, within column row (and_parts (number == section) _ parts.1).1)

-- a set in one section that contains each of its places or none lies in the section
all_within : (is : Bool) (column row : ℕ) → all_if is column row ≡ true → IsPlace PLACE_DIGITS column row
all_within is column row held =
    place_of column row (sym (whole_is_place column row) ∙ (and_parts is _ held).1)

-- a set of whole sections contains only places of a section
pub sections_within : (held : List Bool) (section column row : ℕ)
    → held_by_section all_if held section column row ≡ true
    → IsSection section × IsPlace PLACE_DIGITS column row
sections_within held section column row is = held_within all_if held section column row all_within is
