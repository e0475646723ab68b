-- The field notes of a township: a heading, the township's designation, and a record for each of
-- its section lines. The layout is this project's.
use Rattle.std.specs.Prelude.{◌≡◌, ℕ, ◌≤◌, List, [], ◌∷◌, length, codes, slice_index_or}
use Rattle.std.specs.Prelude.{Option, Some, None}
use Rattle.twp_measure.specs.LengthTexts.{IsShortNumber, IsLengthText}
use Rattle.twp_grid.specs.Winding.{IsSection}
use Rattle.twp_grid.specs.Lines.{LINE_COUNT, IsLine, IsLineOf}
use Rattle.twp_grid.specs.Townships.{Designation, IsTownshipNumber}
use Rattle.twp_grid.specs.Townships.{north_south_letter, east_west_letter}
use Rattle.twp_grid.specs.declared.line.Run.{Run}
use Rattle.twp_grid.specs.declared.line.Run.TheVariants as run
use Rattle.twp_notes.specs.Records.{Fields, field, records_of, record_numbered}
use Rattle.twp_notes.specs.declared.parsing.Returned.{Returned}

-- the most bytes of field notes
abbrev pub NOTES_MOST : ℕ
NOTES_MOST = 65536

-- the number of fields in each record
abbrev pub FIELDS : ℕ
FIELDS = 5

-- a township, and the distances returned for its lines, by index
pub record FieldNotes : Type 0 where
  pub township : Designation
  pub lines : List Returned

-- the value for an index after that of the last line
abbrev pub nothing_returned : Returned
nothing_returned = record { quarter = 0; corner = 0 }

-- the distances returned for a line
abbrev pub returned_of : FieldNotes → ℕ → Returned
returned_of notes line = slice_index_or notes.lines line nothing_returned

-- the first record
abbrev pub heading : Fields
heading = codes "line" ∷ codes "between" ∷ codes "and" ∷ codes "quarter" ∷ codes "corner" ∷ []

-- T, the township's number and direction, the range's number and direction
pub record IsTownshipRecord (fields : Fields) (township : Designation) : Type 0 where
  pub columns : length fields ≡ FIELDS
  pub mark : field fields 0 ≡ codes "T"
  pub number : IsShortNumber (field fields 1) township.number × IsTownshipNumber township.number
  pub north_south : field fields 2 ≡ north_south_letter township.north_south
  pub range : IsShortNumber (field fields 3) township.range × IsTownshipNumber township.range
  pub east_west : field fields 4 ≡ east_west_letter township.east_west

-- the letter of a run
abbrev pub run_text : Run → List ℕ
run_text run.North = codes "N"
run_text run.West = codes "W"

-- a section's number
abbrev pub IsSectionNumber : List ℕ → ℕ → Type 0
IsSectionNumber text section = IsShortNumber text section × IsSection section

-- a second section's number, or nothing if the line is on the township's boundary
abbrev pub IsNeighborText : List ℕ → Option ℕ → Type 0
IsNeighborText text None = text ≡ []
IsNeighborText text (Some section) = IsSectionNumber text section

-- the record's first three fields name a line: its run and the sections beside it
pub record NamesLine (fields : Fields) (line : ℕ) : Type 0 where
  pub run : Run
  pub section : ℕ
  pub other : Option ℕ
  pub columns : length fields ≡ FIELDS
  pub run_is : field fields 0 ≡ run_text run
  pub section_is : IsSectionNumber (field fields 1) section
  pub other_is : IsNeighborText (field fields 2) other
  pub line_is : IsLineOf run section other line

-- the record's last two fields are distances
pub record Returns (fields : Fields) (returned : Returned) : Type 0 where
  pub quarter : IsLengthText (field fields 3) returned.quarter
  pub corner : IsLengthText (field fields 4) returned.corner

-- the record names a line, and returns its distances
pub record IsLineRecord (fields : Fields) (line : ℕ) (returned : Returned) : Type 0 where
  pub names : NamesLine fields line
  pub returns : Returns fields returned

-- the records of lines: all after the heading and the township's record
abbrev pub IsLineNumber : List Fields → ℕ → Type 0
IsLineNumber records number = (3 ≤ number) × (number ≤ length records)

-- one of the records of lines names the line
abbrev pub IsLineNamed : List Fields → ℕ → Type 0
IsLineNamed records line = (number : ℕ) × IsLineNumber records number
    × NamesLine (record_numbered records number) line

-- The records are these notes: the heading, the township, and exactly one record for each line.
pub record AreNoteRecords (records : List Fields) (notes : FieldNotes) : Type 0 where
  pub heading_is : record_numbered records 1 ≡ heading
  pub township_is : IsTownshipRecord (record_numbered records 2) notes.township
  pub each : (number : ℕ) → IsLineNumber records number
      → (line : ℕ) × IsLineRecord (record_numbered records number) line (returned_of notes line)
  pub once : (number other line : ℕ) → IsLineNumber records number → IsLineNumber records other
      → NamesLine (record_numbered records number) line
      → NamesLine (record_numbered records other) line → number ≡ other
  pub all : (line : ℕ) → IsLine line → IsLineNamed records line
  pub lines : length notes.lines ≡ LINE_COUNT

-- the bytes are these notes
pub record AreNotes (bytes : List ℕ) (notes : FieldNotes) : Type 0 where
  pub size : length bytes ≤ NOTES_MOST
  pub records_are : AreNoteRecords (records_of bytes) notes
