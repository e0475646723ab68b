-- What the records with land that were entered so far say, and why the next one is refused, in the order in
-- which its fields are read. Rows are the records after the township's, by an index from 0. No public
-- contract cites this module.
use Rattle.std.specs.Prelude.{◌≡◌, ◌≢◌, ◌⊎◌, ℕ, ◌+◌, ◌-◌, ◌≤◌, ◌<◌, List, [], length, get_or, ⊤}
use Rattle.twp_grid.specs.Winding.{IsSection}
use Rattle.twp_grid.specs.Places.{PLACE_DIGITS, IsPlace}
use Rattle.twp_grammar.specs.declared.item.Step.{Step}
use Rattle.twp_land.specs.LotMaps.{NO_LAND}
use Rattle.twp_land.specs.LotMarks.{mark_at, marks_of}
use Rattle.twp_notes.specs.Records.{Fields, field, record_at}
use Rattle.twp_plat.specs.LotTables.{entered_count, entered_for}
use Rattle.twp_plat.specs.LotRecords.{HasNoAcres, IsAcresText}
use Rattle.twp_plat.specs.LandTexts.{AreAliquotParts, parts_at}
use Rattle.twp_plat.specs.LandRecords.{LAND_FIELDS, IsForLot, HasNoLot, IsForNoLand, HoldsPlace, IsCount}
use Rattle.twp_plat.specs.LandFaults.{SECTION_LOTS_MOST, TOWNSHIP_LOTS_MOST, IsForNothing, HasNoParts}
use Rattle.twp_plat.specs.steps.LandPaints.{AreFine, IsTooFine, IsPlaceShared, IsLandPainted}
use Rattle.twp_plat.specs.declared.lots.fault.LotsFault.{LotsFault}
use Rattle.twp_plat.specs.declared.lots.fault.LotsFault.TheVariants as fault
use Rattle.twp_plat.specs.declared.lots.land_entries.LotEntries.{LotEntries}

-- all other entries are as they were
abbrev pub OthersStay : ℕ → ℕ → List (List ℕ) → List (List ℕ) → Type 0
OthersStay section lot old new = (section' lot' : ℕ) → 1 ≤ section' → 1 ≤ lot'
    → (section' ≢ section) ⊎ (lot' ≢ lot) → entered_for new section' lot' ≡ entered_for old section' lot'

-- how many lots of a section were added
abbrev pub lots_in : LotEntries → ℕ → ℕ
lots_in entries section = get_or entries.counts (section - 1) 0

-- no lot was added
pub record AreNoEntries (entries : LotEntries) : Type 0 where
  pub figures : (section lot : ℕ) → entered_for entries.figures section lot ≡ 0
  pub counts : (section : ℕ) → lots_in entries section ≡ 0
  pub count : entries.count ≡ 0

-- a lot was added, with the hundredths of an acre and the number of its record
pub record AddsLot (section lot hundredths number : ℕ) (old new : LotEntries) : Type 0 where
  pub figure : entered_for new.figures section lot ≡ hundredths
  pub figures : OthersStay section lot old.figures new.figures
  pub number_is : entered_for new.records section lot ≡ number
  pub records : OthersStay section lot old.records new.records
  pub room : lots_in old section < SECTION_LOTS_MOST
  pub count_of : lots_in new section ≡ lots_in old section + 1
  pub counts : (other : ℕ) → 1 ≤ other → other ≢ section → lots_in new other ≡ lots_in old other
  pub room_in_all : old.count < TOWNSHIP_LOTS_MOST
  pub count : new.count ≡ old.count + 1

-- the section or the township has as many lots as it can have
abbrev pub IsFullOfLots : ℕ → LotEntries → Type 0
IsFullOfLots section entries =
    (SECTION_LOTS_MOST ≤ lots_in entries section) ⊎ (TOWNSHIP_LOTS_MOST ≤ entries.count)

-- what a record is for, as a mark
abbrev pub IsForMark : Fields → ℕ → ℕ → Type 0
IsForMark fields section mark =
    IsForLot fields section mark ⊎ (IsForNoLand fields section × (mark ≡ NO_LAND))

-- the record is for a lot, which was added, or for land that is not there
abbrev pub IsAdded : Fields → ℕ → ℕ → ℕ → LotEntries → LotEntries → Type 0
IsAdded fields section mark number old new =
    (IsForLot fields section mark × (entered_for old.figures section mark ≡ 0)
    × ((hundredths : ℕ) × IsAcresText (field fields 2) hundredths
    × AddsLot section mark hundredths number old new))
    ⊎ (IsForNoLand fields section × (mark ≡ NO_LAND) × (new ≡ old))

-- the record was entered: its parts were painted, and its lot, if it is for one, was added
pub record EntersLand (fields : Fields) (number : ℕ) (was now : List (List ℕ)) (old new : LotEntries)
    : Type 0 where
  pub columns : length fields ≡ LAND_FIELDS
  pub section : ℕ
  pub mark : ℕ
  pub painted : IsLandPainted section (field fields 3) mark was now
  pub added : IsAdded fields section mark number old new

-- the record has no fault with a number less than 96, if its lot is not that of an earlier one
abbrev pub IsForLand : Fields → ℕ → ℕ → LotEntries → Type 0
IsForLand fields section mark entries =
    (IsForLot fields section mark × (entered_for entries.figures section mark ≡ 0)
    × ((hundredths : ℕ) × IsAcresText (field fields 2) hundredths))
    ⊎ (IsForNoLand fields section × (mark ≡ NO_LAND))

-- the numbered record is not entered: this is why, and no earlier reason applies
abbrev pub IsLandNotEntered : Fields → ℕ → List (List ℕ) → LotEntries → LotsFault → Type 0
IsLandNotEntered fields number marks entries (fault.Columns at) =
    (at ≡ number) × (length fields ≢ LAND_FIELDS)
IsLandNotEntered fields number marks entries (fault.NoLot at) =
    (at ≡ number) × (length fields ≡ LAND_FIELDS) × IsForNothing fields
IsLandNotEntered fields number marks entries (fault.Acres at) =
    (at ≡ number) × (length fields ≡ LAND_FIELDS)
    × ((section : ℕ) × (lot : ℕ) × IsForLot fields section lot × HasNoAcres fields)
IsLandNotEntered fields number marks entries (fault.Repeated at) =
    (at ≡ number) × (length fields ≡ LAND_FIELDS)
    × ((section : ℕ) × (lot : ℕ) × IsForLot fields section lot × ¬ HasNoAcres fields
    × (0 < entered_for entries.figures section lot))
IsLandNotEntered fields number marks entries (fault.Land at) =
    (at ≡ number) × (length fields ≡ LAND_FIELDS)
    × ((section : ℕ) × (mark : ℕ) × IsForLand fields section mark entries × HasNoParts fields)
IsLandNotEntered fields number marks entries (fault.TooFine at) =
    (at ≡ number) × (length fields ≡ LAND_FIELDS)
    × ((section : ℕ) × (mark : ℕ) × IsForLand fields section mark entries
    × ((parts : List (List Step)) × AreAliquotParts (field fields 3) parts × IsTooFine parts))
IsLandNotEntered fields number marks entries (fault.Shared at) =
    (at ≡ number) × (length fields ≡ LAND_FIELDS)
    × ((section : ℕ) × (mark : ℕ) × IsForLand fields section mark entries
    × ((parts : List (List Step)) × AreAliquotParts (field fields 3) parts × AreFine parts
    × IsPlaceShared section parts marks))
IsLandNotEntered fields number marks entries (fault.TooMany at) =
    (at ≡ number) × (length fields ≡ LAND_FIELDS)
    × ((section : ℕ) × (lot : ℕ) × (now : List (List ℕ)) × IsForLot fields section lot
    × IsForLand fields section lot entries × IsLandPainted section (field fields 3) lot marks now
    × IsFullOfLots section entries)
IsLandNotEntered fields number marks entries fault.Memory = ⊤
IsLandNotEntered fields number marks entries other = ⊥

-- the text is no sequence of parts, or these can't be painted, in the numbered record
abbrev pub IsPartsFault : List ℕ → ℕ → ℕ → List (List ℕ) → LotsFault → Type 0
IsPartsFault text section number marks (fault.Land at) =
    (at ≡ number) × ((parts : List (List Step)) → ¬ AreAliquotParts text parts)
IsPartsFault text section number marks (fault.TooFine at) =
    (at ≡ number) × ((parts : List (List Step)) × AreAliquotParts text parts × IsTooFine parts)
IsPartsFault text section number marks (fault.Shared at) =
    (at ≡ number) × ((parts : List (List Step)) × AreAliquotParts text parts × AreFine parts
    × IsPlaceShared section parts marks)
IsPartsFault text section number marks fault.Memory = ⊤
IsPartsFault text section number marks other = ⊥

-- the record is valid on its own
pub record IsLandRow (fields : Fields) : Type 0 where
  pub columns : length fields ≡ LAND_FIELDS
  pub section : ℕ
  pub mark : ℕ
  pub is_for : IsForMark fields section mark
  pub acres : HasNoLot fields ⊎ ((hundredths : ℕ) × IsAcresText (field fields 2) hundredths)
  pub parts : List (List Step)
  pub are : AreAliquotParts (field fields 3) parts
  pub fine : AreFine parts
  pub apart : (column row : ℕ) → IsPlace PLACE_DIGITS column row → parts_at parts column row ≤ 1

-- the row is for a lot of this section
abbrev pub IsForSection : List Fields → ℕ → ℕ → Type 0
IsForSection rows section index = (lot : ℕ) × IsForLot (record_at rows index) section lot

-- the row is for a lot
abbrev pub IsForSome : List Fields → ℕ → Type 0
IsForSome rows index = (section : ℕ) × (lot : ℕ) × IsForLot (record_at rows index) section lot

-- one of the first rows, up to this number, has this mark, and its parts contain the place
pub record IsMarkedBy (rows : List Fields) (count section column row mark : ℕ) : Type 0 where
  pub index : ℕ
  pub within : index < count
  pub is_for : IsForMark (record_at rows index) section mark
  pub holds : HoldsPlace (record_at rows index) section column row

-- the mark of a place by the first rows, up to this number
abbrev pub IsMarkOf : List Fields → ℕ → ℕ → ℕ → ℕ → ℕ → Type 0
IsMarkOf rows count section column row mark = IsMarkedBy rows count section column row mark
    ⊎ ((mark ≡ 0) × ((index : ℕ) → index < count → ¬ HoldsPlace (record_at rows index) section column row))

-- the marks and the lots are exactly those of the first rows, up to this number
pub record AreLandEntered (rows : List Fields) (count : ℕ) (marks : List (List ℕ)) (entries : LotEntries)
    : Type 0 where
  pub each : (index : ℕ) → index < count → IsLandRow (record_at rows index)
  pub once : (index later section lot : ℕ) → index < later → later < count
      → IsForLot (record_at rows index) section lot → ¬ IsForLot (record_at rows later) section lot
  pub apart : (index later section column row : ℕ) → index < later → later < count
      → HoldsPlace (record_at rows index) section column row
      → ¬ HoldsPlace (record_at rows later) section column row
  pub marked : (section column row : ℕ) → 1 ≤ section → IsPlace PLACE_DIGITS column row
      → IsMarkOf rows count section column row (mark_at (marks_of marks section) column row)
  pub returned : (index section lot : ℕ) → index < count → IsForLot (record_at rows index) section lot
      → IsAcresText (field (record_at rows index) 2) (entered_for entries.figures section lot)
  pub numbered : (index section lot : ℕ) → index < count → IsForLot (record_at rows index) section lot
      → entered_for entries.records section lot ≡ index + 3
  pub named : (section lot : ℕ) → 1 ≤ section → 1 ≤ lot → 0 < entered_for entries.figures section lot
      → (index : ℕ) × (index < count) × IsForLot (record_at rows index) section lot
  pub counts : (section : ℕ) → 1 ≤ section
      → IsCount (IsForSection rows section) count (lots_in entries section)
  pub count_is : IsCount (IsForSome rows) count entries.count
  pub few : (section : ℕ) → 1 ≤ section → lots_in entries section ≤ SECTION_LOTS_MOST
  pub few_in_all : entries.count ≤ TOWNSHIP_LOTS_MOST
  pub all_counted : entered_count entries.figures ≡ entries.count

-- no place has a mark
abbrev pub AreUnmarked : List (List ℕ) → Type 0
AreUnmarked marks = (section column row : ℕ) → mark_at (marks_of marks section) column row ≡ 0

-- this many of the rows were entered, and the next one is refused
pub record IsLandRefusedNext (rows : List Fields) (fault : LotsFault) : Type 0 where
  pub count : ℕ
  pub marks : List (List ℕ)
  pub entries : LotEntries
  pub within : count < length rows
  pub entered : AreLandEntered rows count marks entries
  pub not_entered : IsLandNotEntered (record_at rows count) (count + 3) marks entries fault

-- the same, unless memory ran out
abbrev pub IsLandRefusedAfter : List Fields → LotsFault → Type 0
IsLandRefusedAfter rows fault.Memory = ⊤
IsLandRefusedAfter rows other = IsLandRefusedNext rows other
