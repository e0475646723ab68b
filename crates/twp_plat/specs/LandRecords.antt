-- Records of a lot table with land, which say where the lots of a plat lie, in aliquot parts of their
-- sections, and where the plat has no land. The layout is this project's.
use Rattle.std.specs.Prelude.{◌≡◌, ◌↔◌, ◌⊎◌, ℕ, zero, suc, ◌+◌, ◌-◌, ◌≤◌, ◌<◌, false, List, [], ◌∷◌, length}
use Rattle.std.specs.Prelude.{codes, Some}
use Rattle.twp_measure.specs.LengthTexts.{IsShortNumber}
use Rattle.twp_grid.specs.Winding.{IsSection}
use Rattle.twp_grid.specs.Places.{PLACE_DIGITS, IsPlace}
use Rattle.twp_grid.specs.Lands.{Layout, LOT_NUMBER_MOST}
use Rattle.twp_grammar.specs.declared.item.Step.{Step}
use Rattle.twp_notes.specs.Records.{Fields, field, record_numbered}
use Rattle.twp_notes.specs.FieldNotes.{IsSectionNumber}
use Rattle.twp_plat.specs.LotRecords.{IsAcresText, IsRowNumber}
use Rattle.twp_plat.specs.LandTexts.{AreAliquotParts, parts_at}

-- the number of fields in a record with land
abbrev pub LAND_FIELDS : ℕ
LAND_FIELDS = 4

-- the first record of a table with land
abbrev pub land_heading : Fields
land_heading = codes "section" ∷ codes "lot" ∷ codes "acres" ∷ codes "land" ∷ []

-- the record is for a lot of a section, which has a number from 1 to 99 there
pub record IsForLot (fields : Fields) (section lot : ℕ) : Type 0 where
  pub section_is : IsSectionNumber (field fields 0) section
  pub number_is : IsShortNumber (field fields 1) lot
  pub least : 1 ≤ lot
  pub most : lot ≤ LOT_NUMBER_MOST

-- the record has neither a lot nor acres: it is for land that is not there
abbrev pub HasNoLot : Fields → Type 0
HasNoLot fields = (field fields 1 ≡ []) × (field fields 2 ≡ [])

-- the record says that a section has no land in these parts
abbrev pub IsForNoLand : Fields → ℕ → Type 0
IsForNoLand fields section = HasNoLot fields × IsSectionNumber (field fields 0) section

-- the record's parts of a section contain the place
pub record HoldsPlace (fields : Fields) (section column row : ℕ) : Type 0 where
  pub section_is : IsSectionNumber (field fields 0) section
  pub place : IsPlace PLACE_DIGITS column row
  pub parts : List (List Step)
  pub are : AreAliquotParts (field fields 3) parts
  pub some : 0 < parts_at parts column row

-- one of the records is for this lot, and its parts contain the place
pub record IsLotAt (records : List Fields) (section lot column row : ℕ) : Type 0 where
  pub number : ℕ
  pub is_row : IsRowNumber records number
  pub is_for : IsForLot (record_numbered records number) section lot
  pub holds : HoldsPlace (record_numbered records number) section column row

-- one of the records is for land that is not there, and its parts contain the place
pub record IsNoLandAt (records : List Fields) (section column row : ℕ) : Type 0 where
  pub number : ℕ
  pub is_row : IsRowNumber records number
  pub is_for : IsForNoLand (record_numbered records number) section
  pub holds : HoldsPlace (record_numbered records number) section column row

-- one of the records is for this lot, and returns this acreage for it
pub record IsReturnedFor (records : List Fields) (section lot hundredths : ℕ) : Type 0 where
  pub number : ℕ
  pub is_row : IsRowNumber records number
  pub is_for : IsForLot (record_numbered records number) section lot
  pub returns : IsAcresText (field (record_numbered records number) 2) hundredths

-- The records lay out these lots: a place is in a lot exactly if it is in a part of the lot's record, and
-- the plat has no land at a place exactly if it is in a part of a record without a lot. A lot's figure is
-- that of its record, and 0 if there is none.
pub record LayOutLots (records : List Fields) (layout : Layout) (figure : ℕ → ℕ → ℕ) : Type 0 where
  pub lots : (section lot column row : ℕ) → IsSection section
      → ((layout.lot_of section column row ≡ Some lot) ↔ IsLotAt records section lot column row)
  pub no_land : (section column row : ℕ) → IsSection section
      → ((layout.has_land section column row ≡ false) ↔ IsNoLandAt records section column row)
  pub returned : (section lot hundredths : ℕ) → IsReturnedFor records section lot hundredths
      → figure section lot ≡ hundredths
  pub others : (section lot : ℕ) → IsSection section → 1 ≤ lot → 0 < figure section lot
      → (hundredths : ℕ) × IsReturnedFor records section lot hundredths

-- of the numbers below this one, so many have the property
abbrev pub IsCount : (ℕ → Type 0) → ℕ → ℕ → Type 0
IsCount Has zero count = count ≡ 0
IsCount Has (suc n) count =
    (Has n × ((before : ℕ) × (count ≡ suc before) × IsCount Has n before))
    ⊎ ((¬ Has n) × IsCount Has n count)
