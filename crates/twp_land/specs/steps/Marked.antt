-- The places of a section with marks in a range, one block after another in the order of their numbers.
use Rattle.std.specs.Prelude.{◌≡◌, ℕ, ◌≤◌, ◌<◌, ◌==◌, ◌&&◌, nat_le, nat_lt, Bool, true, List}
use Rattle.twp_grid.specs.Places.{PLACE_DIGITS, is_place}
use Rattle.twp_grid.specs.Spans.{Rectangle, in_rectangle}
use Rattle.twp_land.specs.LotMaps.{mark_of, place_number}

-- the number of places in a section
abbrev pub PLACES : ℕ
PLACES = 1024

-- the places of a section whose marks are from a least to a greatest
abbrev pub marked : List ℕ → List ℕ → ℕ → ℕ → ℕ → ℕ → ℕ → Bool
marked positions divided section least most column row =
    is_place PLACE_DIGITS column row
    && (nat_le least (mark_of positions divided section (place_number column row))
    && nat_le (mark_of positions divided section (place_number column row)) most)

-- the places of a set in one section, as a set of a township
abbrev pub in_section : ℕ → (ℕ → ℕ → Bool) → ℕ → ℕ → ℕ → Bool
in_section section set other column row = (section == other) && set column row

-- the places of a set that are numbered below this
abbrev pub below : (ℕ → ℕ → Bool) → ℕ → ℕ → ℕ → Bool
below set number column row = set column row && nat_lt (place_number column row) number

-- no place of the set is numbered from here on
abbrev pub NoneLeft : (ℕ → ℕ → Bool) → ℕ → Type 0
NoneLeft set from = (column row : ℕ) → set column row ≡ true → place_number column row < from

-- the places of the set that are numbered from here to an end are those of this block
pub record IsNextBlock (set : ℕ → ℕ → Bool) (from : ℕ) (block : Rectangle) (end : ℕ) : Type 0 where
  pub more : from < end
  pub within : end ≤ PLACES
  pub some : in_rectangle block block.columns.start block.rows.start ≡ true
  pub is_set : (column row : ℕ) → in_rectangle block column row ≡ true → set column row ≡ true
  pub numbered : (column row : ℕ) → in_rectangle block column row ≡ true
      → (from ≤ place_number column row) × (place_number column row < end)
  pub all : (column row : ℕ) → set column row ≡ true
      → from ≤ place_number column row → place_number column row < end
      → in_rectangle block column row ≡ true
