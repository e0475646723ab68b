-- The records of a lot table: a heading, the township's designation and the date of its plat, and a record
-- for each lot. The layout is this project's.
use Rattle.std.specs.Prelude.{◌≡◌, ◌⊎◌, ℕ, ◌+◌, ◌*◌, ◌≤◌, ◌<◌, List, [], ◌∷◌, ◌++◌, length, codes, take}
use Rattle.std.specs.Str.Parse.{IsNumeral, digits_value}
use Rattle.twp_measure.specs.LengthTexts.{IsShortNumber, point}
use Rattle.twp_grid.specs.Winding.{IsSection}
use Rattle.twp_notes.specs.Records.{Fields, field, record_numbered}
use Rattle.twp_notes.specs.FieldNotes.{FIELDS, IsTownshipRecord, IsSectionNumber}
use Rattle.twp_grid.specs.Lands.{STANDARD_LAYOUT, lotting}
use Rattle.twp_grid.specs.Townships.{Designation}
use Rattle.twp_plat.specs.LotDates.{IsDateText}
use Rattle.twp_plat.specs.LotTables.{IsLotNumber, figure_of, lots_of}
use Rattle.twp_plat.specs.declared.lots.table.LotTable.{LotTable}

-- the most bytes of a lot table
abbrev pub LOTS_TEXT_MOST : ℕ
LOTS_TEXT_MOST = 65536

-- the number of fields in the record of a lot
abbrev pub LOT_FIELDS : ℕ
LOT_FIELDS = 3

-- the first record
abbrev pub lots_heading : Fields
lots_heading = codes "section" ∷ codes "lot" ∷ codes "acres" ∷ []

-- The text is this many hundredths of an acre, 1 to the greatest figure: one to three digits, a
-- point, and two digits.
pub record IsAcresText (text : List ℕ) (hundredths : ℕ) : Type 0 where
  pub whole : List ℕ
  pub decimals : List ℕ
  pub before : IsNumeral 10 whole
  pub few : length whole ≤ 3
  pub after : IsNumeral 10 decimals
  pub two : length decimals ≡ 2
  pub text_is : text ≡ whole ++ point ∷ decimals
  pub value : hundredths ≡ 100 * digits_value 10 whole + digits_value 10 decimals
  pub some : 0 < hundredths

-- a record whose acreage is not valid
abbrev pub HasNoAcres : Fields → Type 0
HasNoAcres fields = (hundredths : ℕ) → ¬ IsAcresText (field fields 2) hundredths

-- the record's first two fields name a lot: its section and its number there
pub record NamesLot (fields : Fields) (section number : ℕ) : Type 0 where
  pub columns : length fields ≡ LOT_FIELDS
  pub section_is : IsSectionNumber (field fields 0) section
  pub number_is : IsShortNumber (field fields 1) number
  pub has : IsLotNumber section number

-- the record names a lot, and returns its acreage
pub record IsLotRecord (fields : Fields) (section number hundredths : ℕ) : Type 0 where
  pub names : NamesLot fields section number
  pub returns : IsAcresText (field fields 2) hundredths

-- the records of lots: all after the heading and the township's record
abbrev pub IsRowNumber : List Fields → ℕ → Type 0
IsRowNumber records number = (3 ≤ number) × (number ≤ length records)

-- the date in a township's record: that of its sixth field, or 0 if it has five
abbrev pub IsDateIn : Fields → ℕ → Type 0
IsDateIn fields date = ((length fields ≡ FIELDS) × (date ≡ 0))
    ⊎ ((length fields ≡ FIELDS + 1) × IsDateText (field fields FIELDS) date)

-- the record is that of a plat: its township's five fields, and the date of its approval, if there is one
pub record IsPlatRecord (fields : Fields) (township : Designation) (date : ℕ) : Type 0 where
  pub township_is : IsTownshipRecord (take FIELDS fields) township
  pub date_is : IsDateIn fields date

-- one of the records of lots names the lot
abbrev pub IsLotNamed : List Fields → ℕ → ℕ → Type 0
IsLotNamed records section lot = (number : ℕ) × IsRowNumber records number
    × NamesLot (record_numbered records number) section lot

-- The records are this table: the heading, the township, and at most one record for each of the standard
-- lots; the other lots are lacking.
pub record AreLotRecords (records : List Fields) (table : LotTable) : Type 0 where
  pub heading_is : record_numbered records 1 ≡ lots_heading
  pub plat_is : IsPlatRecord (record_numbered records 2) table.township table.date
  pub each : (number : ℕ) → IsRowNumber records number
      → (section : ℕ) × (lot : ℕ)
      × IsLotRecord (record_numbered records number) section lot (figure_of table.lots section lot)
  pub once : (number other section lot : ℕ) → IsRowNumber records number
      → IsRowNumber records other → NamesLot (record_numbered records number) section lot
      → NamesLot (record_numbered records other) section lot → number ≡ other
  pub others : (section lot : ℕ) → IsSection section → 1 ≤ lot
      → ¬ IsLotNamed records section lot → figure_of table.lots section lot ≡ 0
  pub lots_are : lots_of table.lots ≡ lotting STANDARD_LAYOUT
