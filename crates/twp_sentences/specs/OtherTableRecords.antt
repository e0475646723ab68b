-- The other place that the explanation of a repeated lot names: the first record for that lot.
use Rattle.std.specs.Prelude.{◌≡◌, ◌≤◌, ◌<◌, ℕ, List, Option, None, IfSome}
use Rattle.twp_measure.specs.LengthTexts.{IsShortNumber}
use Rattle.twp_notes.specs.FieldNotes.{IsSectionNumber}
use Rattle.twp_notes.specs.Records.{Fields, field, records_of, record_numbered}
use Rattle.twp_plat.specs.declared.lots.fault.LotsFault.{LotsFault}
use Rattle.twp_plat.specs.declared.lots.fault.LotsFault.TheVariants as fault
use Rattle.twp_diagnose.specs.RecordFields.{fields_in, fields_span, IsRecordAt}
use Rattle.twp_diagnose.specs.declared.explanation.OtherPlace.{OtherPlace}
use Rattle.twp_diagnose.specs.declared.records.Record.{Record}
use Rattle.twp_sentences.specs.BlamedInTables.{IsTableRecordOf}

-- the first two fields are a section's number and this number
pub record NamesNumbers (fields : Fields) (section lot : ℕ) : Type 0 where
  pub section_is : IsSectionNumber (field fields 0) section
  pub lot_is : IsShortNumber (field fields 1) lot

-- the record of this number has these, and no record before it has
pub record IsFirstForLot (table : List ℕ) (section lot number : ℕ) : Type 0 where
  pub from_one : 1 ≤ number
  pub names : NamesNumbers (record_numbered (records_of table) number) section lot
  pub none_before : (other : ℕ) → 1 ≤ other → other < number
      → ¬ NamesNumbers (record_numbered (records_of table) other) section lot

-- the other place is where the first record names the lot that these fields name; it precedes this number
pub record IsFirstRecordFor (table : List ℕ) (fields : Fields) (number : ℕ) (other : OtherPlace)
    : Type 0 where
  pub section : ℕ
  pub lot : ℕ
  pub names : NamesNumbers fields section lot
  pub is_first : IsFirstForLot table section lot other.number
  pub precedes : other.number < number
  pub found : Record
  pub found_is : IsRecordAt table other.number found
  pub span_is : other.span ≡ fields_span found 0 1

-- and these are the fields of the record of this number, which has the fault
pub record IsBeforeInTable (table : List ℕ) (is : LotsFault) (number : ℕ) (other : OtherPlace)
    : Type 0 where
  pub again : Record
  pub again_is : IsTableRecordOf table is number again
  pub first : IsFirstRecordFor table (fields_in again) number other

-- the other place of a fault of a lot table: if a record is for a lot again, it is that of the first record
-- for this lot; no other fault has one
abbrev pub IsOtherTableRecord : List ℕ → LotsFault → ℕ → Option OtherPlace → Type 0
IsOtherTableRecord table (fault.Repeated at_) number other =
    IfSome other (IsBeforeInTable table (fault.Repeated at_) number)
IsOtherTableRecord table is number other = other ≡ None
