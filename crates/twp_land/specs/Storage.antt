-- How the sets are stored: that of a township as one set for each section, by number, or for one of
-- them; that of a section by rows from the south, each by columns from the east, as tests or as the
-- bits of a lane.
use Rattle.std.specs.Prelude.{◌≡◌, ℕ, ◌-◌, ◌==◌, ◌&&◌, ◌||◌, not, Bool, true, false}
use Rattle.std.specs.Prelude.{List, [], nat_le, slice_index_or}
use Rattle.std.specs.List.{slice_get}
use Rattle.std.specs.Int.{bit_at}
use Rattle.std.specs.Option.{option_map_or}
use Rattle.twp_grid.specs.Winding.{SECTION_COUNT}
use Rattle.twp_grid.specs.Places.{PLACE_DIGITS, is_place}
use Rattle.twp_grid.specs.Spans.{Rectangle, in_rectangle, whole_block}

-- the empty set in one section
abbrev pub nothing_held : ℕ → ℕ → Bool
nothing_held column row = false

-- the places of a set and those of a block
abbrev pub with_block : (ℕ → ℕ → Bool) → Rectangle → ℕ → ℕ → Bool
with_block held block column row = held column row || in_rectangle block column row

-- the places of a set without those of a block
abbrev pub without_block : (ℕ → ℕ → Bool) → Rectangle → ℕ → ℕ → Bool
without_block held block column row = held column row && not (in_rectangle block column row)

-- the set in one section that contains each of its places, or none
abbrev pub all_if : Bool → ℕ → ℕ → Bool
all_if is column row = is && in_rectangle (whole_block PLACE_DIGITS) column row

-- whether a number is that of a section
abbrev pub is_section : ℕ → Bool
is_section number = nat_le 1 number && nat_le number SECTION_COUNT

-- the set whose part in each section is stored at the section's number
abbrev pub held_by_section : {P : Type 0} → (P → ℕ → ℕ → Bool) → List P → ℕ → ℕ → ℕ → Bool
held_by_section held plots section column row =
    is_section section
    && option_map_or (λ plot. held plot column row) (slice_get plots (section - 1)) false

-- the set whose places are all in the section with a number
abbrev pub held_in_one : ℕ → (ℕ → ℕ → Bool) → ℕ → ℕ → ℕ → Bool
held_in_one number held section column row = is_section section && ((number == section) && held column row)

-- the set that is stored as rows
abbrev pub held_by_row : List (List Bool) → ℕ → ℕ → Bool
held_by_row rows column row =
    is_place PLACE_DIGITS column row && slice_index_or (slice_index_or rows row []) column false

-- the set that is stored as lanes of bits
abbrev pub held_by_lane : List ℕ → ℕ → ℕ → Bool
held_by_lane lanes column row =
    is_place PLACE_DIGITS column row && (bit_at (slice_index_or lanes row 0) column == 1)

-- the set that is stored as lanes of bits for each section, by number
abbrev pub land_of_rows : List (List ℕ) → ℕ → ℕ → ℕ → Bool
land_of_rows rows = held_by_section held_by_lane rows

-- a place of one section is in both sets
pub record ShareHeld (held more : ℕ → ℕ → Bool) : Type 0 where
  pub column : ℕ
  pub row : ℕ
  pub in_first : held column row ≡ true
  pub in_second : more column row ≡ true

-- the same places of one section are in both sets
abbrev pub SameHeld : (ℕ → ℕ → Bool) → (ℕ → ℕ → Bool) → Type 0
SameHeld held more = (column row : ℕ) → held column row ≡ more column row

-- the places in either of two sets in one section
abbrev pub held_by_either : (ℕ → ℕ → Bool) → (ℕ → ℕ → Bool) → ℕ → ℕ → Bool
held_by_either held more column row = held column row || more column row

-- the places that are in both of two sets in one section
abbrev pub held_by_both : (ℕ → ℕ → Bool) → (ℕ → ℕ → Bool) → ℕ → ℕ → Bool
held_by_both held more column row = held column row && more column row

-- the places of one section in the first set that are not in the second
abbrev pub held_without : (ℕ → ℕ → Bool) → (ℕ → ℕ → Bool) → ℕ → ℕ → Bool
held_without held less column row = held column row && not (less column row)

-- each place of one section in the second set is in the first
abbrev pub ContainsHeld : (ℕ → ℕ → Bool) → (ℕ → ℕ → Bool) → Type 0
ContainsHeld held more = (column row : ℕ) → more column row ≡ true → held column row ≡ true
