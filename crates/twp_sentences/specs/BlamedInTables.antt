-- Which fields of a refused record of a lot table are to blame, and where that is shown.
use Rattle.std.specs.Prelude.{◌≡◌, ◌≢◌, ⊤, ℕ, zero, suc, ◌-◌, ◌<◌, ◌≤◌, ◌==◌, if◌then◌else◌, List, length}
use Rattle.std.specs.Prelude.{codes}
use Rattle.twp_notes.specs.Records.{Fields, field, records_of, record_numbered}
use Rattle.twp_notes.specs.FieldNotes.{FIELDS, IsSectionNumber, IsTownshipRecord}
use Rattle.twp_notes.specs.NotesFaults.{HasNone}
use Rattle.twp_plat.specs.LotRecords.{LOT_FIELDS, lots_heading}
use Rattle.twp_plat.specs.LandRecords.{LAND_FIELDS}
use Rattle.twp_plat.specs.declared.lots.fault.LotsFault.{LotsFault}
use Rattle.twp_plat.specs.declared.lots.fault.LotsFault.TheVariants as fault
use Rattle.twp_diagnose.specs.RecordFields.{fields_in, fields_span, IsRecordAt}
use Rattle.twp_diagnose.specs.declared.location.Location.{Location}
use Rattle.twp_diagnose.specs.declared.location.Location.TheVariants.{Whole, Field}
use Rattle.twp_diagnose.specs.declared.records.Record.{Record}
use Rattle.twp_sentences.specs.Blamed.{AreAllFields, IsNotOfTownship, IsOneField}
use Rattle.twp_sentences.specs.declared.field_notes.blamed.FieldRange.{FieldRange}

-- the fields after the first so many
pub record AreSurplus (columns : ℕ) (fields : Fields) (range : FieldRange) : Type 0 where
  pub first_is : range.first ≡ columns
  pub last_is : range.last ≡ length fields - 1

-- the first three fields are those of the heading
pub record BeginsAsHeading (fields : Fields) : Type 0 where
  pub section : field fields 0 ≡ codes "section"
  pub lot : field fields 1 ≡ codes "lot"
  pub acres : field fields 2 ≡ codes "acres"

-- how many fields the heading has whose first three these fields have: `land` may be the fourth
pub data IsColumnCount (fields : Fields) (columns : ℕ) : Type 0 where
  of_standard_lots : field fields LOT_FIELDS ≢ codes "land" → columns ≡ LOT_FIELDS
      → IsColumnCount fields columns
  with_land : field fields LOT_FIELDS ≡ codes "land" → columns ≡ LAND_FIELDS → IsColumnCount fields columns

-- Of a record that is not the heading: a field that differs from the heading's, or all fields after those of
-- the heading.
pub data AreUnlikeHeading (fields : Fields) (range : FieldRange) : Type 0 where
  a_field : IsOneField (λ place. field fields place ≢ field lots_heading place) range
      → AreUnlikeHeading fields range
  more_fields : (columns : ℕ) → BeginsAsHeading fields → IsColumnCount fields columns
      → AreSurplus columns fields range → AreUnlikeHeading fields range

-- the most fields of the township's record
abbrev pub TOWNSHIP_FIELDS : ℕ
TOWNSHIP_FIELDS = 6

-- the most fields of the record of a number: the township's, or that of a lot, which has so many
abbrev pub columns_of : ℕ → ℕ → ℕ
columns_of number lot_fields = if number == 2 then TOWNSHIP_FIELDS else lot_fields

-- Of a record with too many fields, those after the first so many; of one with too few, its end.
pub data AreMiscounted (columns : ℕ) (fields : Fields) (range : FieldRange) : Type 0 where
  too_many : columns < length fields → AreSurplus columns fields range → AreMiscounted columns fields range
  too_few : length fields ≤ columns → IsOneField (λ place. place ≡ length fields) range
      → AreMiscounted columns fields range

-- the field at this index should be a section, or a lot of the section that the first one is, and is not
abbrev pub IsNotOfLot : Fields → ℕ → Type 0
IsNotOfLot fields zero = HasNone (IsSectionNumber (field fields 0))
IsNotOfLot fields (suc zero) = (section : ℕ) × IsSectionNumber (field fields 0) section
IsNotOfLot fields (suc (suc more)) = ⊥

-- of a record with this fault, the fields to blame: one that fails; those that are too many, or the end; the
-- section and the lot that an earlier record is for; or all
abbrev pub AreBlamedInTable : LotsFault → ℕ → Fields → FieldRange → Type 0
AreBlamedInTable fault.TooLarge lot_fields fields range = AreAllFields fields range
AreBlamedInTable fault.Empty lot_fields fields range = AreAllFields fields range
AreBlamedInTable fault.Heading lot_fields fields range = fields ≢ lots_heading → AreUnlikeHeading fields range
AreBlamedInTable (fault.Columns number) lot_fields fields range =
    AreMiscounted (columns_of number lot_fields) fields range
AreBlamedInTable fault.Township lot_fields fields range =
    length fields ≡ FIELDS → HasNone (IsTownshipRecord fields)
    → IsOneField (IsNotOfTownship fields) range
AreBlamedInTable (fault.NoLot number) lot_fields fields range = IsOneField (IsNotOfLot fields) range
AreBlamedInTable (fault.Acres number) lot_fields fields range = IsOneField (λ place. place ≡ 2) range
AreBlamedInTable (fault.Repeated number) lot_fields fields range = (range.first ≡ 0) × (range.last ≡ 1)
AreBlamedInTable fault.Date lot_fields fields range = IsOneField (λ place. place ≡ 5) range
AreBlamedInTable (fault.Land number) lot_fields fields range = IsOneField (λ place. place ≡ 3) range
AreBlamedInTable (fault.TooFine number) lot_fields fields range = IsOneField (λ place. place ≡ 3) range
AreBlamedInTable (fault.Shared number) lot_fields fields range = IsOneField (λ place. place ≡ 3) range
AreBlamedInTable (fault.TooMany number) lot_fields fields range = (range.first ≡ 0) × (range.last ≡ 1)
AreBlamedInTable (fault.Unfilled number) lot_fields fields range = IsOneField (λ place. place ≡ 3) range
AreBlamedInTable (fault.Divided number) lot_fields fields range = AreAllFields fields range
AreBlamedInTable fault.Read lot_fields fields range = AreAllFields fields range
AreBlamedInTable fault.Memory lot_fields fields range = AreAllFields fields range

-- the fault is one of a record: not of the table as a whole, and not of the reader
abbrev pub IsOfTableRecord : LotsFault → Type 0
IsOfTableRecord fault.TooLarge = ⊥
IsOfTableRecord fault.Empty = ⊥
IsOfTableRecord fault.Heading = ⊤
IsOfTableRecord (fault.Columns number) = ⊤
IsOfTableRecord fault.Township = ⊤
IsOfTableRecord (fault.NoLot number) = ⊤
IsOfTableRecord (fault.Acres number) = ⊤
IsOfTableRecord (fault.Repeated number) = ⊤
IsOfTableRecord fault.Date = ⊤
IsOfTableRecord (fault.Land number) = ⊤
IsOfTableRecord (fault.TooFine number) = ⊤
IsOfTableRecord (fault.Shared number) = ⊤
IsOfTableRecord (fault.TooMany number) = ⊤
IsOfTableRecord (fault.Unfilled number) = ⊤
IsOfTableRecord (fault.Divided number) = ⊤
IsOfTableRecord fault.Read = ⊥
IsOfTableRecord fault.Memory = ⊥

-- the record is the one of this number, and a fault of this kind is one of a record
pub record IsTableRecordOf (table : List ℕ) (is : LotsFault) (number : ℕ) (found : Record) : Type 0 where
  pub of_record : IsOfTableRecord is
  pub numbered : IsRecordAt table number found

-- A fault of a lot table is shown at the fields to blame of the record of this number; the table is shown as
-- a whole where there is no such record.
pub data ShowsBlamedInTable (table : List ℕ) (is : LotsFault) (number : ℕ) (place : Location) : Type 0 where
  as_a_whole : (IsOfTableRecord is → length (records_of table) < number) → place ≡ Whole
      → ShowsBlamedInTable table is number place
  in_its_record : (found : Record) (range : FieldRange) → IsTableRecordOf table is number found
      → AreBlamedInTable is (length (record_numbered (records_of table) 1)) (fields_in found) range
      → place ≡ Field (fields_span found range.first range.last) → ShowsBlamedInTable table is number place
