-- The area by a lot table of land, and of the land that a description names; or the first lot of the land
-- that the table lacks. A table is given by its township and its lots.
use Rattle.std.specs.Prelude.{◌≡◌, ◌⊎◌, ℕ, List, Bool}
use Rattle.twp_measure.specs.Areas.{Fraction, IsRounded}
use Rattle.twp_grid.specs.declared.refusal.Refusal.{Refusal}
use Rattle.twp_plat.specs.LotAreas.{HasFigures, IsFirstLacking, IsLotArea}
use Rattle.twp_plat.specs.LotTables.{figure_of, lots_of}
use Rattle.twp_plat.specs.declared.lots.returned.ReturnedLots.{ReturnedLots}
use Rattle.twp_grid.specs.Townships.{Designation}
use Rattle.twp_plat.specs.LotsFaults.{lacking_refusal}
use Rattle.twp_answers.specs.Answers.{IsNoDescription}
use Rattle.twp_answers.specs.OnLands.{IsLandOf}

-- the set contains a lot that the table lacks, and this is the refusal of the first one
pub record IsLackingLot (lots : ReturnedLots) (places : ℕ → ℕ → ℕ → Bool) (refusal : Refusal)
    : Type 0 where
  pub section : ℕ
  pub number : ℕ
  pub first : IsFirstLacking (lots_of lots) (figure_of lots) places section number
  pub refusal_is : refusal ≡ lacking_refusal section number

-- the table has a figure for each lot in the set, and this is the set's area by the table
pub record HasLotArea (lots : ReturnedLots) (places : ℕ → ℕ → ℕ → Bool) (area : Fraction)
    : Type 0 where
  pub figures : HasFigures (lots_of lots) (figure_of lots) places
  pub area_is : IsLotArea (lots_of lots) (figure_of lots) places area

-- these are the set's hundredths of an acre by the table: its area, rounded once, half up
pub record HasLotAcres (lots : ReturnedLots) (places : ℕ → ℕ → ℕ → Bool) (hundredths : ℕ) : Type 0 where
  pub area : Fraction
  pub area_is : HasLotArea lots places area
  pub rounded : IsRounded area hundredths

-- the bytes describe land in the township of the table, and this holds of it
pub record OfLandDescribed (township : Designation) (lots : ReturnedLots) (description : List ℕ)
    (Holds : (ℕ → ℕ → ℕ → Bool) → Type 0) : Type 0 where
  pub places : ℕ → ℕ → ℕ → Bool
  pub described : IsLandOf (lots_of lots) township description places
  pub holds : Holds places

-- the land described has this area by the table
abbrev pub HasLotAreaOf : Designation → ReturnedLots → List ℕ → Fraction → Type 0
HasLotAreaOf township lots description area =
    OfLandDescribed township lots description (λ places. HasLotArea lots places area)

-- these are the hundredths of an acre of the land described by the table: its area, rounded once, half up
pub record HasLotAcresOf (township : Designation) (lots : ReturnedLots) (description : List ℕ)
    (hundredths : ℕ) : Type 0 where
  pub area : Fraction
  pub area_is : HasLotAreaOf township lots description area
  pub rounded : IsRounded area hundredths

-- the table lacks a lot of the land described, and this is the refusal of the first one
abbrev pub LacksLotOf : Designation → ReturnedLots → List ℕ → Refusal → Type 0
LacksLotOf township lots description refusal =
    OfLandDescribed township lots description (λ places. IsLackingLot lots places refusal)

-- why there is no such area: the bytes are no description of land in the township, or the table
-- lacks a lot of the land
abbrev pub HasNoLotAreaOf : Designation → ReturnedLots → List ℕ → Refusal → Type 0
HasNoLotAreaOf township lots description refusal =
    IsNoDescription (lots_of lots) township description refusal ⊎ LacksLotOf township lots description refusal
