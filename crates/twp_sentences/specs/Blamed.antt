-- Which fields of a refused record of field notes are to blame, and where that is shown.
use Rattle.std.specs.Prelude.{◌≡◌, ◌≢◌, ⊤, ℕ, zero, suc, ◌-◌, ◌<◌, min, List, length, codes}
use Rattle.twp_measure.specs.LengthTexts.{IsShortNumber, IsLengthText}
use Rattle.twp_grid.specs.Townships.{north_south_letter, east_west_letter}
use Rattle.twp_grid.specs.Townships.{IsTownshipNumber}
use Rattle.twp_grid.specs.declared.township.NorthSouth.{NorthSouth}
use Rattle.twp_grid.specs.declared.township.EastWest.{EastWest}
use Rattle.twp_notes.specs.Records.{Fields, field, records_of}
use Rattle.twp_notes.specs.FieldNotes.{FIELDS, heading, IsTownshipRecord, IsSectionNumber, IsNeighborText}
use Rattle.twp_notes.specs.NotesFaults.{HasNone, HasNoSection, HasNoLength}
use Rattle.twp_notes.specs.declared.fault.NotesFault.{NotesFault}
use Rattle.twp_notes.specs.declared.fault.NotesFault.TheVariants as fault
use Rattle.twp_diagnose.specs.RecordFields.{fields_in, fields_span, IsRecordAt}
use Rattle.twp_diagnose.specs.declared.location.Location.{Location}
use Rattle.twp_diagnose.specs.declared.location.Location.TheVariants.{Whole, Field}
use Rattle.twp_diagnose.specs.declared.records.Record.{Record}
use Rattle.twp_sentences.specs.declared.field_notes.blamed.FieldRange.{FieldRange}

-- one field
abbrev pub one_field : ℕ → FieldRange
one_field place = record { first = place; last = place }

-- one field, of which this holds
pub record IsOneField (Fails : ℕ → Type 0) (range : FieldRange) : Type 0 where
  pub fails : Fails range.first
  pub one : range.last ≡ range.first

-- all fields of a record
pub record AreAllFields (fields : Fields) (range : FieldRange) : Type 0 where
  pub first_is : range.first ≡ 0
  pub last_is : range.last ≡ length fields - 1

-- the number of a township or of a range, as it is written
abbrev pub IsTownshipText : List ℕ → Type 0
IsTownshipText text = (number : ℕ) × IsShortNumber text number × IsTownshipNumber number

-- the field at this index is not one of a township's record
abbrev pub IsNotOfTownship : Fields → ℕ → Type 0
IsNotOfTownship fields zero = field fields 0 ≢ codes "T"
IsNotOfTownship fields (suc zero) = ¬ IsTownshipText (field fields 1)
IsNotOfTownship fields (suc (suc zero)) =
    HasNone (λ (side : NorthSouth). field fields 2 ≡ north_south_letter side)
IsNotOfTownship fields (suc (suc (suc zero))) = ¬ IsTownshipText (field fields 3)
IsNotOfTownship fields (suc (suc (suc (suc zero)))) =
    HasNone (λ (side : EastWest). field fields 4 ≡ east_west_letter side)
IsNotOfTownship fields (suc (suc (suc (suc (suc more))))) = ⊥

-- the field at this index should be a section, or a neighbor, and is not
abbrev pub IsNoSection : Fields → ℕ → Type 0
IsNoSection fields zero = ⊥
IsNoSection fields (suc zero) = HasNone (IsSectionNumber (field fields 1))
IsNoSection fields (suc (suc zero)) = HasNone (IsNeighborText (field fields 2))
IsNoSection fields (suc (suc (suc more))) = ⊥

-- the field at this index should be a distance, and is not
abbrev pub IsNoDistance : Fields → ℕ → Type 0
IsNoDistance fields zero = ⊥
IsNoDistance fields (suc zero) = ⊥
IsNoDistance fields (suc (suc zero)) = ⊥
IsNoDistance fields (suc (suc (suc zero))) = HasNone (IsLengthText (field fields 3))
IsNoDistance fields (suc (suc (suc (suc zero)))) = HasNone (IsLengthText (field fields 4))
IsNoDistance fields (suc (suc (suc (suc (suc more))))) = ⊥

-- a field that differs from the heading's; all fields, if there are not as many
pub record AreUnlikeHeading (fields : Fields) (range : FieldRange) : Type 0 where
  pub as_many : length fields ≡ FIELDS → fields ≢ heading
      → IsOneField (λ place. field fields place ≢ field heading place) range
  pub others : length fields ≢ FIELDS → AreAllFields fields range

-- of a record with this fault, the fields to blame: one that fails; the first after the fifth, or the end;
-- the two sections between which there is no line; or all
abbrev pub AreBlamed : NotesFault → Fields → FieldRange → Type 0
AreBlamed fault.Heading fields range = AreUnlikeHeading fields range
AreBlamed (fault.Columns number) fields range =
    IsOneField (λ place. place ≡ min (length fields) FIELDS) range
AreBlamed fault.Township fields range = length fields ≡ FIELDS → HasNone (IsTownshipRecord fields)
    → IsOneField (IsNotOfTownship fields) range
AreBlamed (fault.Run number) fields range = IsOneField (λ place. place ≡ 0) range
AreBlamed (fault.Section number) fields range = HasNoSection fields
    → IsOneField (IsNoSection fields) range
AreBlamed (fault.NoLine number) fields range = (range.first ≡ 1) × (range.last ≡ 2)
AreBlamed (fault.Length number) fields range = HasNoLength fields
    → IsOneField (IsNoDistance fields) range
AreBlamed (fault.Repeated number) fields range = AreAllFields fields range
AreBlamed fault.TooLarge fields range = AreAllFields fields range
AreBlamed fault.Empty fields range = AreAllFields fields range
AreBlamed (fault.Missing line) fields range = AreAllFields fields range
AreBlamed fault.Read fields range = AreAllFields fields range
AreBlamed fault.Memory fields range = AreAllFields fields range

-- the fault is one of a record: not of the notes as a whole, not a missing line, and not of the reader
abbrev pub IsOfRecord : NotesFault → Type 0
IsOfRecord fault.TooLarge = ⊥
IsOfRecord fault.Empty = ⊥
IsOfRecord fault.Heading = ⊤
IsOfRecord (fault.Columns number) = ⊤
IsOfRecord fault.Township = ⊤
IsOfRecord (fault.Run number) = ⊤
IsOfRecord (fault.Section number) = ⊤
IsOfRecord (fault.NoLine number) = ⊤
IsOfRecord (fault.Length number) = ⊤
IsOfRecord (fault.Repeated number) = ⊤
IsOfRecord (fault.Missing line) = ⊥
IsOfRecord fault.Read = ⊥
IsOfRecord fault.Memory = ⊥

-- the record is the one of this number, and a fault of this kind is one of a record
pub record IsRecordOf (notes : List ℕ) (is : NotesFault) (number : ℕ) (found : Record) : Type 0 where
  pub of_record : IsOfRecord is
  pub numbered : IsRecordAt notes number found

-- A fault of field notes is shown at the fields to blame of the record of this number; the notes are shown as
-- a whole where there is no such record.
pub data ShowsBlamed (notes : List ℕ) (is : NotesFault) (number : ℕ) (place : Location) : Type 0 where
  as_a_whole : (IsOfRecord is → length (records_of notes) < number) → place ≡ Whole
      → ShowsBlamed notes is number place
  in_its_record : (found : Record) (range : FieldRange) → IsRecordOf notes is number found
      → AreBlamed is (fields_in found) range → place ≡ Field (fields_span found range.first range.last)
      → ShowsBlamed notes is number place
