-- The parts that the land in a section is written as: squares, which quarters reach from the
-- section, and halves of squares. `Held` is a test of column and row, which gives the places to be
-- written.
use Rattle.std.specs.Prelude.{◌≡◌, ℕ, zero, suc, ◌+◌, ◌*◌, ◌/◌, ◌%◌, ◌<◌, Bool, true, List, [], ◌∷◌}
use Rattle.std.specs.Prelude.{map}
use Rattle.twp_grid.specs.Places.{IsPlace}
use Rattle.twp_grid.specs.Cuts.{AreWithin}
use Rattle.twp_grid.specs.declared.block.Side.{Side}
use Rattle.twp_grid.specs.declared.block.Side.TheVariants.{N, S, E, W}
use Rattle.twp_grid.specs.declared.block.Corner.{Corner}
use Rattle.twp_grid.specs.declared.block.Corner.TheVariants.{NE, NW, SW, SE}
use Rattle.twp_grammar.specs.declared.item.Step.{Step}
use Rattle.twp_grammar.specs.declared.item.Step.TheVariants.{Half, Quarter}
use Rattle.twp_grammar.specs.ItemPlaces.{cuts_of, in_chain}
use Rattle.twp_grid.specs.Listing.{AreListed}

-- A square, or a half of one. A square's quarters are listed as they are written, smallest first;
-- those after the first reach its parent. The list without quarters is the whole section.
pub data Part : Type 0 where
  square : List Corner → Part
  half_of_square : Side → List Corner → Part

-- the steps of a part in the order in which they are written, smallest first
abbrev pub steps_of_part : Part → List Step
steps_of_part (square quarters) = map (λ corner. Quarter corner) quarters
steps_of_part (half_of_square side quarters) = Half side ∷ map (λ corner. Quarter corner) quarters

-- the part contains the place at this column and row
pub record IsInPart (g : ℕ) (part : Part) (column row : ℕ) : Type 0 where
  pub place : IsPlace g column row
  pub asked : in_chain g (steps_of_part part) column row ≡ true

-- the part is full: it is no smaller than a place, and each of its places is in the land
pub record IsFull (g : ℕ) (held : ℕ → ℕ → Bool) (part : Part) : Type 0 where
  pub within : AreWithin g (cuts_of (steps_of_part part))
  pub each : (column row : ℕ) → IsInPart g part column row → held column row ≡ true

-- of the full halves of a square, the one in the north is chosen first, then south, east, and west
abbrev pub preference : Side → ℕ
preference N = 0
preference S = 1
preference E = 2
preference W = 3

-- the chosen half of a square that is not full: the first of its halves that is full
pub record IsChosenHalf (g : ℕ) (held : ℕ → ℕ → Bool) (quarters : List Corner) (side : Side)
    : Type 0 where
  pub square_is_not : ¬ IsFull g held (square quarters)
  pub full : IsFull g held (half_of_square side quarters)
  pub first : (other : Side) → preference other < preference side
      → ¬ IsFull g held (half_of_square other quarters)

-- a square's quarter at this corner lies in its half toward this side
abbrev pub IsOnSide : Side → Corner → Type 0
IsOnSide N NE = Unit {0}
IsOnSide N NW = Unit {0}
IsOnSide S SW = Unit {0}
IsOnSide S SE = Unit {0}
IsOnSide E NE = Unit {0}
IsOnSide E SE = Unit {0}
IsOnSide W NW = Unit {0}
IsOnSide W SW = Unit {0}
IsOnSide side corner = ⊥

-- The written parts are the chosen halves, the section if it is full, and every other full square
-- whose parent is not full and that does not lie in its parent's chosen half.
abbrev pub IsWritten : ℕ → (ℕ → ℕ → Bool) → Part → Type 0
IsWritten g held (half_of_square side quarters) = IsChosenHalf g held quarters side
IsWritten g held (square []) = IsFull g held (square [])
IsWritten g held (square (corner ∷ parent)) =
    IsFull g held (square (corner ∷ parent))
    × ¬ IsFull g held (square parent)
    × ((side : Side) → IsChosenHalf g held parent side → ¬ IsOnSide side corner)

-- the quarter given by a binary digit of a column and one of a row: 1 is west, and 1 is north
abbrev pub quarter_named : ℕ → ℕ → Corner
quarter_named zero zero = SE
quarter_named zero (suc row) = NE
quarter_named (suc column) zero = SW
quarter_named (suc column) (suc row) = NW

-- quarters are counted counterclockwise from the northeast
abbrev pub turn_of_quarter : Corner → ℕ
turn_of_quarter NE = 0
turn_of_quarter NW = 1
turn_of_quarter SW = 2
turn_of_quarter SE = 3

-- A place's address in base 4: a digit for each quarter that reaches it, that of the largest
-- quarter first.
abbrev pub address : ℕ → ℕ → ℕ → ℕ
address zero column row = 0
address (suc g) column row =
    4 * address g (column / 2) (row / 2) + turn_of_quarter (quarter_named (column % 2) (row % 2))

-- a part comes before another: some place of it has a lower address than each place of the other
pub record ComesBefore (g : ℕ) (part other : Part) : Type 0 where
  pub column : ℕ
  pub row : ℕ
  pub inside : IsInPart g part column row
  pub lower : (column' row' : ℕ) → IsInPart g other column' row'
      → address g column row < address g column' row'

-- the written parts of the land, in the order of their lowest addresses
abbrev pub AreWrittenParts : ℕ → (ℕ → ℕ → Bool) → List Part → Type 0
AreWrittenParts g held parts = AreListed (IsWritten g held) (ComesBefore g) parts
