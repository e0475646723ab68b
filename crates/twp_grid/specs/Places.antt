-- The places of a section, which are the smallest parts that a description can name: each side of
-- the section is halved g times. A place's column is counted from the east and its row from the
-- south.
use Rattle.std.specs.Prelude.{ℕ, zero, suc, ◌/◌, ◌%◌, ◌^◌, ◌<◌, ◌==◌, ◌&&◌, nat_lt, Bool, true}
use Rattle.std.specs.Prelude.{false, List, [], ◌∷◌}
use Rattle.twp_grid.specs.Lots.{POSITIONS_ACROSS}

-- how many binary digits a place's column and row have (this project's limit)
abbrev pub PLACE_DIGITS : ℕ
PLACE_DIGITS = 5

-- the number of places along a side of a section
abbrev pub places_across : ℕ → ℕ
places_across g = 2 ^ g

-- the number of places along a side of a position
abbrev pub places_to_position : ℕ → ℕ
places_to_position g = places_across g / POSITIONS_ACROSS

-- a column and a row of a place
abbrev pub IsPlace : ℕ → ℕ → ℕ → Type 0
IsPlace g column row = (column < places_across g) × (row < places_across g)

-- the same, as a test
abbrev pub is_place : ℕ → ℕ → ℕ → Bool
is_place g column row = nat_lt column (places_across g) && nat_lt row (places_across g)

-- the column of the position that contains the places of this column; the same for rows
abbrev pub position_along : ℕ → ℕ → ℕ
position_along g place = place / places_to_position g

-- a column or a row in binary, the highest digit first
abbrev pub binary : ℕ → ℕ → List ℕ
binary zero place = []
binary (suc g) place = (place / 2 ^ g % 2) ∷ binary g place

-- the digits begin with those asked for
abbrev pub begins : List ℕ → List ℕ → Bool
begins [] digits = true
begins (d ∷ asked) [] = false
begins (d ∷ asked) (e ∷ digits) = (d == e) && begins asked digits
