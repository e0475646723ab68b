-- A mark for each place of a township: 0 for land in no lot, and otherwise the lot's number, or that there is
-- no land. Marks are painted block by block, and no place twice.
use Rattle.std.specs.Prelude.{◌≡◌, ◌≢◌, ℕ, zero, suc, ◌+◌, ◌-◌, ◌*◌, ◌/◌, ◌%◌, ◌<◌, ◌==◌, ◌&&◌, not, Bool}
use Rattle.std.specs.Prelude.{true}
use Rattle.std.specs.Prelude.{List, [], get_or, min, if◌then◌else◌}
use Rattle.twp_grid.specs.Winding.{IsSection, SECTION_COUNT}
use Rattle.twp_grid.specs.Lots.{POSITIONS}
use Rattle.twp_grid.specs.Places.{PLACE_DIGITS, IsPlace}
use Rattle.twp_grid.specs.Spans.{Rectangle, in_rectangle, total, one_where}
use Rattle.twp_land.specs.LotMaps.{NO_LAND, PLACES_OF_POSITION, mark_of, place_number}
use Rattle.twp_land.specs.steps.Marked.{PLACES}

-- the mark of a place of one section
abbrev pub mark_at : List ℕ → ℕ → ℕ → ℕ
mark_at marks column row = get_or marks (place_number column row) 0

-- the marks of a section
abbrev pub marks_of : List (List ℕ) → ℕ → List ℕ
marks_of sections section = get_or sections (section - 1) []

-- some place of the block has a mark
pub record HasMark (marks : List ℕ) (block : Rectangle) : Type 0 where
  pub column : ℕ
  pub row : ℕ
  pub inside : in_rectangle block column row ≡ true
  pub is_marked : mark_at marks column row ≢ 0

-- no place of the block had a mark; each has this one now, and the other places have those that they had
pub record IsPainted (block : Rectangle) (mark : ℕ) (old new : List ℕ) : Type 0 where
  pub free : (column row : ℕ) → in_rectangle block column row ≡ true → mark_at old column row ≡ 0
  pub marks : (column row : ℕ) → IsPlace PLACE_DIGITS column row → mark_at new column row
      ≡ (if in_rectangle block column row then mark else mark_at old column row)

-- a test holds for all numbers below this
abbrev pub all_below : ℕ → (ℕ → Bool) → Bool
all_below zero test = true
all_below (suc n) test = all_below n test && test n

-- the places of the position whose first place has this number have the same mark
abbrev pub are_alike : List ℕ → ℕ → Bool
are_alike marks first = all_below PLACES_OF_POSITION (λ n. get_or marks (first + n) 0 == get_or marks first 0)

-- the position with an index in the township has places with different marks
abbrev pub is_divided : List (List ℕ) → ℕ → Bool
is_divided sections index =
    not (are_alike (get_or sections (index / POSITIONS) []) (index % POSITIONS * PLACES_OF_POSITION))

-- how many positions of the township are divided
abbrev pub divided_count : List (List ℕ) → ℕ
divided_count sections = total (SECTION_COUNT * POSITIONS) (λ index. one_where (is_divided sections index))

-- how many positions of a township can be divided
abbrev pub DIVIDED_MOST : ℕ
DIVIDED_MOST = 128

-- the layout has these marks, the greatest of which is that of places without land
abbrev pub HasMarks : List ℕ → List ℕ → List (List ℕ) → Type 0
HasMarks positions divided sections = (section number : ℕ) → IsSection section → number < PLACES
    → mark_of positions divided section number ≡ min (get_or (marks_of sections section) number 0) NO_LAND
