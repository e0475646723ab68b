-- Land: sets of places in a township. A set is a test of section, column, and row; the part of it
-- in one section is a test of column and row. Also the lots of a plat, land that contains each lot
-- wholly or not at all, and blocks that contain a place of a lot.
use Rattle.std.specs.Prelude.{◌≡◌, ◌==◌, ℕ, ◌≤◌, ◌<◌, ◌&&◌, ◌||◌, not, Bool, true, false, Option, Some}
use Rattle.std.specs.Prelude.{IsSome}
use Rattle.std.specs.Prelude.{is_none}
use Rattle.std.specs.Option.{option_map_or}
use Rattle.twp_grid.specs.Spans.{Rectangle, in_rectangle, total_over, one_where}
use Rattle.twp_grid.specs.Winding.{IsSection}
use Rattle.twp_grid.specs.Lots.{lot_at_position}
use Rattle.twp_grid.specs.Places.{PLACE_DIGITS, IsPlace, is_place, position_along}

-- the empty set
abbrev pub no_places : ℕ → ℕ → ℕ → Bool
no_places section column row = false

-- the places of a section's block
abbrev pub block_places : ℕ → Rectangle → ℕ → ℕ → ℕ → Bool
block_places section block other column row = (section == other) && in_rectangle block column row

-- the places in either of two sets
abbrev pub union : (ℕ → ℕ → ℕ → Bool) → (ℕ → ℕ → ℕ → Bool) → ℕ → ℕ → ℕ → Bool
union places more section column row = places section column row || more section column row

-- the places that are in both sets
abbrev pub intersection : (ℕ → ℕ → ℕ → Bool) → (ℕ → ℕ → ℕ → Bool) → ℕ → ℕ → ℕ → Bool
intersection places more section column row =
    places section column row && more section column row

-- the places in the first set that are not in the second
abbrev pub difference : (ℕ → ℕ → ℕ → Bool) → (ℕ → ℕ → ℕ → Bool) → ℕ → ℕ → ℕ → Bool
difference places less section column row =
    places section column row && not (less section column row)

-- a set in one section contains some place of the block
pub record Meets (held : ℕ → ℕ → Bool) (block : Rectangle) : Type 0 where
  pub column : ℕ
  pub row : ℕ
  pub inside : in_rectangle block column row ≡ true
  pub is_held : held column row ≡ true

-- the set contains every place of the block
abbrev pub HoldsAll : (ℕ → ℕ → Bool) → Rectangle → Type 0
HoldsAll held block =
    (column row : ℕ) → in_rectangle block column row ≡ true → held column row ≡ true

-- how many places of the block the set contains
abbrev pub count_held : (ℕ → ℕ → Bool) → Rectangle → ℕ
count_held held block = total_over block (λ column row. one_where (held column row))

-- a place is in both sets
pub record SharePlace (places more : ℕ → ℕ → ℕ → Bool) : Type 0 where
  pub section : ℕ
  pub column : ℕ
  pub row : ℕ
  pub in_first : places section column row ≡ true
  pub in_second : more section column row ≡ true

-- each place of the second set is in the first
abbrev pub ContainsAll : (ℕ → ℕ → ℕ → Bool) → (ℕ → ℕ → ℕ → Bool) → Type 0
ContainsAll places more = (section column row : ℕ)
    → more section column row ≡ true → places section column row ≡ true

-- the same places are in both sets
abbrev pub SamePlaces : (ℕ → ℕ → ℕ → Bool) → (ℕ → ℕ → ℕ → Bool) → Type 0
SamePlaces places more =
    (section column row : ℕ) → places section column row ≡ more section column row

-- each place is in a section from the first to the last
abbrev pub LieWithin : (ℕ → ℕ → ℕ → Bool) → ℕ → ℕ → Type 0
LieWithin places first last =
    (section column row : ℕ) → places section column row ≡ true → (first ≤ section) × (section ≤ last)

-- the binary digits of a column, the lot of each place, if it is in one, and whether there is land at it
pub record Lotting : Type 0 where
  pub digits : ℕ
  pub lot_of : ℕ → ℕ → ℕ → Option ℕ
  pub has_land : ℕ → ℕ → ℕ → Bool

-- the lotting of a regular township, which has land at each place
abbrev pub STANDARD_LOTS : Lotting
STANDARD_LOTS = record {
  digits = PLACE_DIGITS;
  lot_of = λ section column row.
      lot_at_position section (position_along PLACE_DIGITS column) (position_along PLACE_DIGITS row);
  has_land = λ section column row. true;
}

-- the lot of a section that a place lies in, if it lies in one, in a regular township
abbrev pub lot_of_place : ℕ → ℕ → ℕ → ℕ → Option ℕ
lot_of_place g section column row = lot_at_position section (position_along g column) (position_along g row)

-- the lotting of a regular township, if a column or a row has this many digits
abbrev pub standard_lots : ℕ → Lotting
standard_lots g =
    record { digits = g; lot_of = lot_of_place g; has_land = λ section column row. true }

-- where the lots of a plat lie, and where it has land: a lotting without its digits
pub record Layout : Type 0 where
  pub lot_of : ℕ → ℕ → ℕ → Option ℕ
  pub has_land : ℕ → ℕ → ℕ → Bool

-- the lotting with this layout
abbrev pub lotting : Layout → Lotting
lotting layout = record { digits = PLACE_DIGITS; lot_of = layout.lot_of; has_land = layout.has_land }

-- the layout of a regular township
abbrev pub STANDARD_LAYOUT : Layout
STANDARD_LAYOUT = record { lot_of = STANDARD_LOTS.lot_of; has_land = λ section column row. true }

-- the plat has land at some place of the section
pub record HasLand (lots : Lotting) (section : ℕ) : Type 0 where
  pub column : ℕ
  pub row : ℕ
  pub place : is_place lots.digits column row ≡ true
  pub is_land : lots.has_land section column row ≡ true

-- the places of a section at which the plat has land
abbrev pub section_places : Lotting → ℕ → ℕ → ℕ → ℕ → Bool
section_places lots section other column row = is_place lots.digits column row
    && ((section == other) && lots.has_land other column row)

-- the block contains a place at which the plat has no land
pub record LacksLand (lots : Lotting) (section : ℕ) (block : Rectangle) : Type 0 where
  pub column : ℕ
  pub row : ℕ
  pub inside : in_rectangle block column row ≡ true
  pub none : lots.has_land section column row ≡ false

-- a set in one section contains each of its places at which the plat has land
abbrev pub HoldsEach : Lotting → ℕ → (ℕ → ℕ → Bool) → Type 0
HoldsEach lots section held = (column row : ℕ) → IsPlace lots.digits column row
    → lots.has_land section column row ≡ true → held column row ≡ true

-- the section has a lot with this number
abbrev pub HasLot : Lotting → ℕ → ℕ → Type 0
HasLot lots section lot = (column : ℕ) × (row : ℕ) × (lots.lot_of section column row ≡ Some lot)

-- the section has a lot with each number from first to last
abbrev pub HasLots : Lotting → ℕ → ℕ → ℕ → Type 0
HasLots lots section first last = (lot : ℕ) → first ≤ lot → lot ≤ last → HasLot lots section lot

-- no lot of the section has a greater number
abbrev pub IsLastLot : Lotting → ℕ → ℕ → Type 0
IsLastLot lots section number = (lot : ℕ) → HasLot lots section lot → lot ≤ number

-- of the section's lots with greater numbers, this is the first
pub record IsNextLot (lots : Lotting) (section number lot : ℕ) : Type 0 where
  pub has : HasLot lots section lot
  pub after : number < lot
  pub first : (other : ℕ) → HasLot lots section other → number < other → lot ≤ other

-- a set in one section contains some place of the lot with this number
pub record IsLotHeld (lots : Lotting) (section : ℕ) (held : ℕ → ℕ → Bool) (lot : ℕ) : Type 0 where
  pub column : ℕ
  pub row : ℕ
  pub place : IsPlace lots.digits column row
  pub of_lot : lots.lot_of section column row ≡ Some lot
  pub is_held : held column row ≡ true

-- the places of a section's lot
abbrev pub lot_places : Lotting → ℕ → ℕ → ℕ → ℕ → ℕ → Bool
lot_places lots section lot other column row = is_place lots.digits column row
    && ((section == other) && option_map_or (λ number. lot == number) (lots.lot_of section column row) false)

-- the highest number that a lot may have
abbrev pub LOT_NUMBER_MOST : ℕ
LOT_NUMBER_MOST = 99

-- each lot of a section is land of the section, and has a number from 1 to 99
pub record AreLots (lots : Lotting) : Type 0 where
  pub within : (section lot column row : ℕ) → lots.lot_of section column row ≡ Some lot
      → IsPlace lots.digits column row × (lots.has_land section column row ≡ true)
  pub numbered : (section lot column row : ℕ) → lots.lot_of section column row ≡ Some lot
      → (1 ≤ lot) × (lot ≤ LOT_NUMBER_MOST)

-- the places of a set in one section that lie in no lot
abbrev pub off_lots : Lotting → ℕ → (ℕ → ℕ → Bool) → ℕ → ℕ → Bool
off_lots lots section held column row = held column row && is_none (lots.lot_of section column row)

-- a set in one section contains either both or neither of two places in the same lot
pub record IsWholeOrNot (lots : Lotting) (section lot : ℕ) (held : ℕ → ℕ → Bool) : Type 0 where
  pub alike : (column row column' row' : ℕ) → lots.lot_of section column row ≡ Some lot
      → lots.lot_of section column' row' ≡ Some lot → held column row ≡ held column' row'

-- the land contains each lot wholly or not at all
abbrev pub HasWholeLots : Lotting → (ℕ → ℕ → ℕ → Bool) → Type 0
HasWholeLots lots places = (section lot : ℕ) → IsSection section
    → IsWholeOrNot lots section lot (places section)

-- the block contains a place of one of the section's lots
pub record HoldsLotPlace (lots : Lotting) (section : ℕ) (block : Rectangle) : Type 0 where
  pub column : ℕ
  pub row : ℕ
  pub inside : in_rectangle block column row ≡ true
  pub of_lot : IsSome (lots.lot_of section column row)

-- each place of the block is in one of the section's lots
abbrev pub IsOfLots : Lotting → ℕ → Rectangle → Type 0
IsOfLots lots section block = (column row : ℕ) → in_rectangle block column row ≡ true
    → IsSome (lots.lot_of section column row)
