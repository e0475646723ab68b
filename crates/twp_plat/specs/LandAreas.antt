-- The exact area of land on a plat: a sum over single places. A place is an equal part of its
-- position, so its share of the area is the position's piece divided by the number of places in a
-- position.
use Rattle.std.specs.Prelude.{◌≡◌, ℕ, ◌+◌, ◌*◌, Bool, if◌then◌else◌}
use Rattle.twp_measure.specs.Areas.{Fraction}
use Rattle.twp_grid.specs.Winding.{SECTION_COUNT}
use Rattle.twp_grid.specs.Places.{places_to_position, position_along}
use Rattle.twp_grid.specs.Spans.{whole_block}
use Rattle.twp_grid.specs.Spans.{total, total_over}
use Rattle.twp_plat.specs.Plats.{SurveyPlat}
use Rattle.twp_plat.specs.Pieces.{over_of}
use Rattle.twp_plat.specs.Pieces.{ArePieces}

-- the number of places in a position
abbrev pub places_of_position : ℕ → ℕ
places_of_position g = places_to_position g * places_to_position g

-- the units of the piece that a place lies in, if the set contains the place; otherwise 0
abbrev pub piece_where_held : ℕ → (ℕ → ℕ → ℕ) → (ℕ → ℕ → Bool) → ℕ → ℕ → ℕ
piece_where_held g pieces held column row =
    if held column row then pieces (position_along g column) (position_along g row) else 0

-- the sum of these units over the places of a section
abbrev pub section_sum : ℕ → (ℕ → ℕ → ℕ) → (ℕ → ℕ → Bool) → ℕ
section_sum g pieces held = total_over (whole_block g) (piece_where_held g pieces held)

-- their sum over the places of a township, for any set of places, whether or not it contains lots wholly
abbrev pub township_sum : ℕ → (ℕ → ℕ → ℕ → ℕ) → (ℕ → ℕ → ℕ → Bool) → ℕ
township_sum g pieces places =
    total SECTION_COUNT (λ before. section_sum g (pieces (before + 1)) (places (before + 1)))

-- the area of a set of places: the sum of their pieces, divided without remainder by a position's places
pub record IsLandArea (g : ℕ) (plat : SurveyPlat) (places : ℕ → ℕ → ℕ → Bool)
    (area : Fraction) : Type 0 where
  pub pieces : ℕ → ℕ → ℕ → ℕ
  pub are : ArePieces plat pieces
  pub over_is : area.over ≡ over_of plat
  pub sum_is : places_of_position g * area.units ≡ township_sum g pieces places
