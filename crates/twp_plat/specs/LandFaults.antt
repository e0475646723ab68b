-- What can be wrong with the records of a lot table with land, with each fault as a statement about all
-- records.
use Rattle.std.specs.Prelude.{◌≡◌, ◌≢◌, ◌⊎◌, ℕ, ◌≤◌, ◌<◌, List, length}
use Rattle.twp_grid.specs.Winding.{IsSection}
use Rattle.twp_grid.specs.Places.{PLACE_DIGITS, IsPlace, position_along}
use Rattle.twp_grid.specs.Cuts.{AreWithin}
use Rattle.twp_grammar.specs.declared.item.Step.{Step}
use Rattle.twp_grammar.specs.ItemPlaces.{cuts_of}
use Rattle.twp_land.specs.LotMaps.{NO_LAND}
use Rattle.twp_land.specs.LotMarks.{mark_at, marks_of, DIVIDED_MOST, divided_count}
use Rattle.twp_notes.specs.Records.{Fields, field, record_numbered}
use Rattle.twp_plat.specs.LotRecords.{HasNoAcres, IsRowNumber}
use Rattle.twp_plat.specs.LandTexts.{AreAliquotParts, IsOneOf, parts_at}
use Rattle.twp_plat.specs.LandRecords.{LAND_FIELDS, IsForLot, HasNoLot, IsForNoLand, HoldsPlace, IsLotAt}
use Rattle.twp_plat.specs.LandRecords.{IsNoLandAt, IsCount}
use Rattle.twp_plat.specs.declared.lots.fault.LotsFault.{LotsFault}
use Rattle.twp_plat.specs.declared.lots.fault.LotsFault.TheVariants as fault

-- the most lots of a section
abbrev pub SECTION_LOTS_MOST : ℕ
SECTION_LOTS_MOST = 64

-- the most lots of a township
abbrev pub TOWNSHIP_LOTS_MOST : ℕ
TOWNSHIP_LOTS_MOST = 1024

-- the record is neither for a lot nor for land that is not there
abbrev pub IsForNothing : Fields → Type 0
IsForNothing fields = ((section lot : ℕ) → ¬ IsForLot fields section lot)
    × ((section : ℕ) → ¬ IsForNoLand fields section)

-- the record has a lot or acres, but no valid acreage
abbrev pub LacksAcres : Fields → Type 0
LacksAcres fields = ¬ HasNoLot fields × HasNoAcres fields

-- an earlier record is for the same lot
pub record IsSameLotAgain (records : List Fields) (number : ℕ) : Type 0 where
  pub earlier : ℕ
  pub section : ℕ
  pub lot : ℕ
  pub is_earlier : earlier < number
  pub earlier_is_row : IsRowNumber records earlier
  pub earlier_is_for : IsForLot (record_numbered records earlier) section lot
  pub is_for : IsForLot (record_numbered records number) section lot

-- the record's land is not a sequence of aliquot parts
abbrev pub HasNoParts : Fields → Type 0
HasNoParts fields = (parts : List (List Step)) → ¬ AreAliquotParts (field fields 3) parts

-- one of the record's parts is too small: it halves a side of one place
pub record HasTooFinePart (fields : Fields) : Type 0 where
  pub parts : List (List Step)
  pub are : AreAliquotParts (field fields 3) parts
  pub part : List Step
  pub is_one : IsOneOf part parts
  pub too_fine : ¬ AreWithin PLACE_DIGITS (cuts_of part)

-- two of the record's parts contain the same place
pub record HasPlaceTwice (fields : Fields) : Type 0 where
  pub parts : List (List Step)
  pub are : AreAliquotParts (field fields 3) parts
  pub column : ℕ
  pub row : ℕ
  pub place : IsPlace PLACE_DIGITS column row
  pub twice : 2 ≤ parts_at parts column row

-- the record's parts contain a place that the parts of an earlier one contain
pub record HasPlaceOfEarlier (records : List Fields) (number : ℕ) : Type 0 where
  pub earlier : ℕ
  pub is_earlier : earlier < number
  pub earlier_is_row : IsRowNumber records earlier
  pub section : ℕ
  pub column : ℕ
  pub row : ℕ
  pub earlier_holds : HoldsPlace (record_numbered records earlier) section column row
  pub holds : HoldsPlace (record_numbered records number) section column row

-- the record's parts contain a place that is also in another part, of the record or of an earlier one
abbrev pub SharesPlace : List Fields → ℕ → Type 0
SharesPlace records number = HasPlaceTwice (record_numbered records number) ⊎ HasPlaceOfEarlier records number

-- the numbered record is for a lot of this section
abbrev pub IsRowOfSection : List Fields → ℕ → ℕ → Type 0
IsRowOfSection records section number =
    (3 ≤ number) × ((lot : ℕ) × IsForLot (record_numbered records number) section lot)

-- the numbered record is for a lot
abbrev pub IsRowOfLot : List Fields → ℕ → Type 0
IsRowOfLot records number = (3 ≤ number)
    × ((section : ℕ) × (lot : ℕ) × IsForLot (record_numbered records number) section lot)

-- the record is for a lot, and as many earlier ones are for lots of its section, or of the township, as there
-- can be
pub record IsOneTooMany (records : List Fields) (number : ℕ) : Type 0 where
  pub section : ℕ
  pub lot : ℕ
  pub is_for : IsForLot (record_numbered records number) section lot
  pub count : ℕ
  pub full : (IsCount (IsRowOfSection records section) number count × (SECTION_LOTS_MOST ≤ count))
      ⊎ (IsCount (IsRowOfLot records) number count × (TOWNSHIP_LOTS_MOST ≤ count))

-- the place is in no part of a record
abbrev pub IsInNoPart : List Fields → ℕ → ℕ → ℕ → Type 0
IsInNoPart records section column row = ((lot : ℕ) → ¬ IsLotAt records section lot column row)
    × ¬ IsNoLandAt records section column row

-- The record is for a lot that lies in a quarter-quarter with a place that is in no part of a record: land in
-- no lot.
pub record IsUnfilled (records : List Fields) (number : ℕ) : Type 0 where
  pub section : ℕ
  pub lot : ℕ
  pub is_for : IsForLot (record_numbered records number) section lot
  pub column : ℕ
  pub row : ℕ
  pub holds : HoldsPlace (record_numbered records number) section column row
  pub column' : ℕ
  pub row' : ℕ
  pub place' : IsPlace PLACE_DIGITS column' row'
  pub same_column : position_along PLACE_DIGITS column' ≡ position_along PLACE_DIGITS column
  pub same_row : position_along PLACE_DIGITS row' ≡ position_along PLACE_DIGITS row
  pub free : IsInNoPart records section column' row'

-- the mark of a place: its lot's number, 100 if the plat has no land there, and otherwise 0
abbrev pub IsMark : List Fields → ℕ → ℕ → ℕ → ℕ → Type 0
IsMark records section column row mark = IsLotAt records section mark column row
    ⊎ (IsNoLandAt records section column row × (mark ≡ NO_LAND))
    ⊎ (IsInNoPart records section column row × (mark ≡ 0))

-- these are the marks of all places
abbrev pub AreMarks : List Fields → List (List ℕ) → Type 0
AreMarks records sections = (section column row : ℕ) → IsSection section → IsPlace PLACE_DIGITS column row
    → IsMark records section column row (mark_at (marks_of sections section) column row)

-- more quarter-quarters than can be are divided: they have places with different marks
pub record AreTooDivided (records : List Fields) : Type 0 where
  pub marks : List (List ℕ)
  pub are : AreMarks records marks
  pub many : DIVIDED_MOST < divided_count marks

-- the fault is present in a record after the township's, or in all of these together
abbrev pub HasLandFault : List Fields → LotsFault → Type 0
HasLandFault records (fault.Columns number) = IsRowNumber records number
    × (length (record_numbered records number) ≢ LAND_FIELDS)
HasLandFault records (fault.NoLot number) = IsRowNumber records number
    × IsForNothing (record_numbered records number)
HasLandFault records (fault.Acres number) = IsRowNumber records number
    × LacksAcres (record_numbered records number)
HasLandFault records (fault.Repeated number) = IsRowNumber records number × IsSameLotAgain records number
HasLandFault records (fault.Land number) = IsRowNumber records number
    × HasNoParts (record_numbered records number)
HasLandFault records (fault.TooFine number) = IsRowNumber records number
    × HasTooFinePart (record_numbered records number)
HasLandFault records (fault.Shared number) = IsRowNumber records number × SharesPlace records number
HasLandFault records (fault.TooMany number) = IsRowNumber records number × IsOneTooMany records number
HasLandFault records (fault.Unfilled number) = IsRowNumber records number × IsUnfilled records number
HasLandFault records (fault.Divided number) = (number ≡ length records) × AreTooDivided records
HasLandFault records other = ⊥
