-- Which earlier record names the line, or the lot, of a repeated one. No public contract cites this module.
use Rattle.std.specs.Prelude.{◌≡◌, ◌≤◌, ℕ, length, Option, None, IfSome}
use Rattle.twp_notes.specs.Records.{Fields}
use Rattle.twp_notes.specs.declared.fault.NotesFault.{NotesFault}
use Rattle.twp_notes.specs.declared.fault.NotesFault.TheVariants as fault
use Rattle.twp_plat.specs.declared.lots.fault.LotsFault.{LotsFault}
use Rattle.twp_plat.specs.declared.lots.fault.LotsFault.TheVariants as lots
use Rattle.twp_diagnose.specs.Spots.{MOST_BYTES, IsLineIn}
use Rattle.twp_diagnose.specs.declared.explanation.OtherPlace.{OtherPlace}
use Rattle.twp_diagnose.specs.declared.location.Given.{Given}
use Rattle.twp_sentences.specs.OtherRecords.{IsFirstRecordOf}
use Rattle.twp_sentences.specs.OtherTableRecords.{IsFirstRecordFor, NamesNumbers}
use Rattle.twp_sentences.specs.declared.field_notes.notes.EarlierRecord.{EarlierRecord}
use Rattle.twp_sentences.specs.declared.lot_tables.earlier.LotNumbers.{LotNumbers}

-- the place of an earlier record
abbrev pub place_of_record : EarlierRecord → OtherPlace
place_of_record earlier = record { number = earlier.number; span = earlier.span }

-- the record is the first that names the line that these fields name, and this is the line of the file on
-- which it begins
pub record IsEarlierRecord (notes : Given) (fields : Fields) (earlier : EarlierRecord) : Type 0 where
  pub is_first : IsFirstRecordOf notes.bytes.now fields (place_of_record earlier)
  pub line_is : length notes.bytes.now ≤ MOST_BYTES → IsLineIn notes is_first.found.start earlier.line

-- it is looked for if the fault is that the record returns its line again
abbrev pub IsEarlierOf : Given → NotesFault → Fields → Option EarlierRecord → Type 0
IsEarlierOf notes (fault.Repeated number) fields earlier = IfSome earlier (IsEarlierRecord notes fields)
IsEarlierOf notes is fields earlier = earlier ≡ None

-- these are the numbers of the lot that the first two fields name
abbrev pub AreNumbers : Fields → LotNumbers → Type 0
AreNumbers fields numbers = NamesNumbers fields numbers.section numbers.lot

-- the first two fields name none
abbrev pub AreNoNumbers : Fields → Type 0
AreNoNumbers fields = (section lot : ℕ) → ¬ NamesNumbers fields section lot

-- the record is the first for the lot that these fields name, and it precedes the record of this number
abbrev pub IsEarlierForLot : Given → Fields → ℕ → EarlierRecord → Type 0
IsEarlierForLot table fields number earlier =
    IsFirstRecordFor table.bytes.now fields number (place_of_record earlier)

-- it is looked for if the fault is that the record is for a lot again
abbrev pub IsEarlierInTable : Given → LotsFault → Fields → ℕ → Option EarlierRecord → Type 0
IsEarlierInTable table (lots.Repeated at_) fields number earlier =
    IfSome earlier (IsEarlierForLot table fields number)
IsEarlierInTable table is fields number earlier = earlier ≡ None
