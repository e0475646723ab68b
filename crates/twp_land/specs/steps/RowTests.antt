-- Operations on rows of tests.
use Rattle.std.specs.Prelude.{◌≡◌, ℕ, ◌+◌, ◌<◌, ◌&&◌, ◌||◌, not, Bool, true, false}
use Rattle.std.specs.Prelude.{List, [], length, slice_index_or}
use Rattle.twp_grid.specs.Places.{PLACE_DIGITS, places_across}
use Rattle.twp_grid.specs.Spans.{Interval, in_span, Rectangle}
use Rattle.twp_grid.specs.Spans.{total, one_where}

-- some of a row's tests in a span is true
abbrev pub SomeHeld : List Bool → ℕ → ℕ → Type 0
SomeHeld row start len =
    (along : ℕ) × (along < len) × (slice_index_or row (start + along) false ≡ true)

-- each of a row's tests in a span is true
abbrev pub EachHeld : List Bool → ℕ → ℕ → Type 0
EachHeld row start len =
    (along : ℕ) → along < len → slice_index_or row (start + along) false ≡ true

-- how many tests are true
abbrev pub count_in_row : List Bool → ℕ → ℕ → ℕ
count_in_row row start len = total len (λ along. one_where (slice_index_or row (start + along) false))

-- the row's tests, and true in the span
abbrev pub IsFilled : List Bool → Interval → List Bool → Type 0
IsFilled row span filled = (column : ℕ) → column < places_across PLACE_DIGITS
    → slice_index_or filled column false ≡ (slice_index_or row column false || in_span span column)

-- the rows' tests, and true in the block
pub record AreFilled (rows : List (List Bool)) (block : Rectangle) (filled : List (List Bool))
    : Type 0 where
  pub count : length filled ≡ places_across PLACE_DIGITS
  pub inside : (row : ℕ) → row < places_across PLACE_DIGITS → in_span block.rows row ≡ true
      → IsFilled (slice_index_or rows row []) block.columns (slice_index_or filled row [])
  pub outside : (row : ℕ) → row < places_across PLACE_DIGITS → in_span block.rows row ≡ false
      → slice_index_or filled row [] ≡ slice_index_or rows row []

-- the row's tests, and false in the span
abbrev pub IsCleared : List Bool → Interval → List Bool → Type 0
IsCleared row span cleared = (column : ℕ) → column < places_across PLACE_DIGITS
    → slice_index_or cleared column false
    ≡ (slice_index_or row column false && not (in_span span column))

-- the rows' tests, and false in the block
pub record AreCleared (rows : List (List Bool)) (block : Rectangle) (cleared : List (List Bool))
    : Type 0 where
  pub count : length cleared ≡ places_across PLACE_DIGITS
  pub inside : (row : ℕ) → row < places_across PLACE_DIGITS → in_span block.rows row ≡ true
      → IsCleared (slice_index_or rows row []) block.columns (slice_index_or cleared row [])
  pub outside : (row : ℕ) → row < places_across PLACE_DIGITS → in_span block.rows row ≡ false
      → slice_index_or cleared row [] ≡ slice_index_or rows row []

-- some test is true in both rows
abbrev pub ShareInRow : List Bool → List Bool → Type 0
ShareInRow row other = (column : ℕ) × (column < places_across PLACE_DIGITS)
    × (slice_index_or row column false ≡ true) × (slice_index_or other column false ≡ true)

-- each test is true exactly if it is true in either row
abbrev pub IsJoined : List Bool → List Bool → List Bool → Type 0
IsJoined row other joined = (column : ℕ) → column < places_across PLACE_DIGITS
    → slice_index_or joined column false
    ≡ (slice_index_or row column false || slice_index_or other column false)

-- each test is true exactly if it is true in both rows
abbrev pub IsCommon : List Bool → List Bool → List Bool → Type 0
IsCommon row other common = (column : ℕ) → column < places_across PLACE_DIGITS
    → slice_index_or common column false
    ≡ (slice_index_or row column false && slice_index_or other column false)

-- each test is the same in both rows
abbrev pub AreAlike : List Bool → List Bool → Type 0
AreAlike row other = (column : ℕ) → column < places_across PLACE_DIGITS
    → slice_index_or row column false ≡ slice_index_or other column false

-- each test is true exactly if it is true in the first row and not in the second
abbrev pub IsTaken : List Bool → List Bool → List Bool → Type 0
IsTaken row other taken = (column : ℕ) → column < places_across PLACE_DIGITS
    → slice_index_or taken column false
    ≡ (slice_index_or row column false && not (slice_index_or other column false))

-- each test that is true in the second row is true in the first
abbrev pub HasAllOf : List Bool → List Bool → Type 0
HasAllOf row other = (column : ℕ) → column < places_across PLACE_DIGITS
    → slice_index_or other column false ≡ true → slice_index_or row column false ≡ true
