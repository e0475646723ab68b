-- Where the lots of a plat lie, and where it has no land, as bytes. A section has 16 positions, and a
-- position 64 places; both are numbered by row from the south, and in a row by column from the east.
use Rattle.std.specs.Prelude.{ℕ, zero, suc, ◌+◌, ◌-◌, ◌*◌, ◌/◌, ◌%◌, ◌&&◌, nat_le, nat_lt, not}
use Rattle.std.specs.Prelude.{Bool}
use Rattle.std.specs.Prelude.{List, Option, Some, None, get_or, min, if◌then◌else◌}
use Rattle.twp_grid.specs.Lots.{POSITIONS, POSITIONS_ACROSS}
use Rattle.twp_grid.specs.Places.{PLACE_DIGITS, is_place}
use Rattle.twp_grid.specs.Lands.{Layout, Lotting, STANDARD_LAYOUT, off_lots}

-- the mark of a place without land; 0 marks land in no lot, and a number between them the lot
abbrev pub NO_LAND : ℕ
NO_LAND = 100

-- the number of places in a position
abbrev pub PLACES_OF_POSITION : ℕ
PLACES_OF_POSITION = 64

-- the number of a place in its section: by its position, and then within this
abbrev pub place_number : ℕ → ℕ → ℕ
place_number column row =
    (row / 8 * POSITIONS_ACROSS + column / 8) * PLACES_OF_POSITION + (row % 8 * 8 + column % 8)

-- the mark of a place of a position: its byte, or if that is greater, one of a divided position, in
-- which a greater byte also marks a place without land
abbrev pub mark_in : List ℕ → ℕ → ℕ → ℕ
mark_in divided byte within =
    if nat_lt NO_LAND byte
    then min (get_or divided ((byte - (NO_LAND + 1)) * PLACES_OF_POSITION + within) NO_LAND) NO_LAND
    else byte

-- the mark of a place of a section, by its number
abbrev pub mark_of : List ℕ → List ℕ → ℕ → ℕ → ℕ
mark_of positions divided section number =
    mark_in divided
    (get_or positions ((section - 1) * POSITIONS + number / PLACES_OF_POSITION) 0)
    (number % PLACES_OF_POSITION)

-- the lot that a mark names
abbrev pub marked_lot : ℕ → Option ℕ
marked_lot mark = if nat_lt 0 mark && nat_lt mark NO_LAND then Some mark else None

-- the layout of bytes
abbrev pub layout_of_bytes : List ℕ → List ℕ → Layout
layout_of_bytes positions divided = record {
  lot_of = λ section column row.
      if is_place PLACE_DIGITS column row
      then marked_lot (mark_of positions divided section (place_number column row))
      else None;
  has_land = λ section column row.
      not (is_place PLACE_DIGITS column row
      && nat_le NO_LAND (mark_of positions divided section (place_number column row)));
}

-- the layout of a plat's lots: 0 stands for that of a regular township, other numbers for that of bytes
abbrev pub layout_of_plat : ℕ → List ℕ → List ℕ → Layout
layout_of_plat zero positions divided = STANDARD_LAYOUT
layout_of_plat (suc _) positions divided = layout_of_bytes positions divided

-- the places of a set in one section that are land in no lot
abbrev pub land_off_lots : Lotting → ℕ → (ℕ → ℕ → Bool) → ℕ → ℕ → Bool
land_off_lots lots section held column row =
    off_lots lots section held column row && lots.has_land section column row
