-- The area of land by the lots of a plat: each lot counts for the acreage returned for it, and all other land
-- for its nominal area. A lotting says where the lots are, and a function of section and number which figure
-- is returned for a lot, or 0 if none is.
use Rattle.std.specs.Prelude.{◌≡◌, ◌==◌, ℕ, ◌+◌, ◌*◌, ◌<◌, ◌≤◌, ◌&&◌, ◌⊎◌, nat_lt, Bool, true}
use Rattle.std.specs.Prelude.{if◌then◌else◌}
use Rattle.twp_measure.specs.Areas.{Fraction, HUNDREDTH_OF_AN_ACRE}
use Rattle.twp_grid.specs.Winding.{IsSection, SECTION_COUNT}
use Rattle.twp_grid.specs.Spans.{total, whole_block}
use Rattle.twp_grid.specs.Lands.{LOT_NUMBER_MOST, Lotting, count_held, intersection, lot_places}
use Rattle.twp_land.specs.LotMaps.{land_off_lots}
use Rattle.twp_plat.specs.PlatAccounts.{IsNominalShare}

-- how many places of a section's lot a set contains
abbrev pub count_of_lot : Lotting → (ℕ → ℕ → ℕ → Bool) → ℕ → ℕ → ℕ
count_of_lot lots places section number =
    count_held (intersection places (lot_places lots section number) section) (whole_block lots.digits)

-- how many places a section's lot has
abbrev pub size_of_lot : Lotting → ℕ → ℕ → ℕ
size_of_lot lots section number =
    count_held (lot_places lots section number section) (whole_block lots.digits)

-- the section has this lot, and the set contains each of its places
abbrev pub contains_lot : Lotting → (ℕ → ℕ → ℕ → Bool) → ℕ → ℕ → Bool
contains_lot lots places section number = nat_lt 0 (size_of_lot lots section number)
    && (count_of_lot lots places section number == size_of_lot lots section number)

-- a lot's units, if the set contains it: 100,000 for each hundredth of an acre that is returned for it
abbrev pub returned_units : Lotting → (ℕ → ℕ → ℕ) → (ℕ → ℕ → ℕ → Bool) → ℕ → ℕ → ℕ
returned_units lots figure places section number =
    if contains_lot lots places section number then HUNDREDTH_OF_AN_ACRE * figure section number else 0

-- the sum over the numbers that a lot of the section may have
abbrev pub units_of_lots : Lotting → (ℕ → ℕ → ℕ) → (ℕ → ℕ → ℕ → Bool) → ℕ → ℕ
units_of_lots lots figure places section =
    total LOT_NUMBER_MOST (λ less. returned_units lots figure places section (less + 1))

-- how many places of the section that the set contains are land in no lot
abbrev pub count_off_lots : Lotting → (ℕ → ℕ → ℕ → Bool) → ℕ → ℕ
count_off_lots lots places section =
    count_held (land_off_lots lots section (places section)) (whole_block lots.digits)

-- The area of a set of places that contains each lot wholly or not at all: the returned units of each lot in
-- it, and the nominal share of each place in it that is land in no lot.
pub record IsLotArea (lots : Lotting) (figure : ℕ → ℕ → ℕ) (places : ℕ → ℕ → ℕ → Bool)
    (area : Fraction) : Type 0 where
  pub share : ℕ
  pub share_is : IsNominalShare lots.digits share
  pub over_is : area.over ≡ 1
  pub sum_is : area.units
      ≡ total SECTION_COUNT (λ before. units_of_lots lots figure places (before + 1))
      + share * total SECTION_COUNT (λ before. count_off_lots lots places (before + 1))

-- the set contains this lot, and no figure is returned for it
pub record Lacks (lots : Lotting) (figure : ℕ → ℕ → ℕ) (places : ℕ → ℕ → ℕ → Bool)
    (section number : ℕ) : Type 0 where
  pub section_is : IsSection section
  pub is_held : contains_lot lots places section number ≡ true
  pub none : figure section number ≡ 0

-- a figure is returned for each lot in the set
abbrev pub HasFigures : Lotting → (ℕ → ℕ → ℕ) → (ℕ → ℕ → ℕ → Bool) → Type 0
HasFigures lots figure places = (section number : ℕ) → ¬ Lacks lots figure places section number

-- this is the first lot, by section and number, that the set contains and for which no figure is returned
pub record IsFirstLacking (lots : Lotting) (figure : ℕ → ℕ → ℕ) (places : ℕ → ℕ → ℕ → Bool)
    (section number : ℕ) : Type 0 where
  pub lacks : Lacks lots figure places section number
  pub first : (other number' : ℕ) → Lacks lots figure places other number'
      → (section < other) ⊎ ((section ≡ other) × (number ≤ number'))
