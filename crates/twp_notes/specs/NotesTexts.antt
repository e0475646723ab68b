-- The text that is written for field notes: the heading, the township, and the lines by ascending
-- index.
use Rattle.std.specs.Prelude.{◌≡◌, ℕ, ◌+◌, ◌<◌, List, [], ◌∷◌, ◌++◌, length, Option, Some}
use Rattle.std.specs.Prelude.{None, codes, decimal, ⊤}
use Rattle.std.specs.List.{flat_map}
use Rattle.twp_measure.specs.LengthTexts.{IsLength, length_text}
use Rattle.twp_grid.specs.Winding.{LiesAt}
use Rattle.twp_grid.specs.Lines.{LINE_COUNT, IsLine, IsLineOf, north_run, west_run}
use Rattle.twp_grid.specs.Townships.{Designation, IsTownshipNumber}
use Rattle.twp_grid.specs.Townships.{north_south_letter, east_west_letter, line_feed}
use Rattle.twp_grid.specs.declared.line.Run.{Run}
use Rattle.twp_grid.specs.declared.line.Run.TheVariants as run
use Rattle.twp_notes.specs.Records.{Fields, record_at}
use Rattle.twp_notes.specs.FieldNotes.{FieldNotes, heading, run_text, returned_of}
use Rattle.twp_notes.specs.declared.parsing.Returned.{Returned}

-- the byte between two fields
abbrev pub comma : ℕ
comma = 44

-- the fields after the first, each after a comma, and a line feed
abbrev pub rest_text : Fields → List ℕ
rest_text [] = line_feed ∷ []
rest_text (field ∷ rest) = comma ∷ (field ++ rest_text rest)

-- a record's text: its fields, separated by commas, and a line feed
abbrev pub record_text : Fields → List ℕ
record_text [] = line_feed ∷ []
record_text (field ∷ rest) = field ++ rest_text rest

-- the record of a township
abbrev pub township_fields : Designation → Fields
township_fields township =
    codes "T" ∷ decimal township.number ∷ north_south_letter township.north_south
    ∷ decimal township.range ∷ east_west_letter township.east_west ∷ []

-- the side of the section at this row and column that faces the line's other section: its west side
-- for lines that are run north, its south side for lines that are run west
abbrev pub far_side : Run → ℕ → ℕ → ℕ
far_side run.North row column = north_run row (column + 1)
far_side run.West row column = west_run (row + 1) column

-- the section is east of a line that is run north, or north of a line that is run west
pub record IsListedBefore (run : Run) (section line : ℕ) : Type 0 where
  pub row : ℕ
  pub column : ℕ
  pub stands : LiesAt section row column
  pub side : line ≡ far_side run row column

-- of two sections beside a line, the one on its east or its north is named first
abbrev pub IsNamedFirst : Run → ℕ → Option ℕ → ℕ → Type 0
IsNamedFirst run section (Some other) line = IsListedBefore run section line
IsNamedFirst run section None line = ⊤

-- the run and the sections that name a line in writing
pub record AreNames (line : ℕ) (run : Run) (section : ℕ) (other : Option ℕ) : Type 0 where
  pub is_line : IsLineOf run section other line
  pub first : IsNamedFirst run section other line

-- a neighbor's number, or nothing at the township's boundary
abbrev pub neighbor_text : Option ℕ → List ℕ
neighbor_text (Some section) = decimal section
neighbor_text None = []

-- the fields are those of a line's record: its names and its distances
pub record AreLineFields (line : ℕ) (returned : Returned) (fields : Fields) : Type 0 where
  pub run : Run
  pub section : ℕ
  pub other : Option ℕ
  pub names : AreNames line run section other
  pub fields_are : fields ≡ run_text run ∷ decimal section ∷ neighbor_text other
      ∷ length_text returned.quarter ∷ length_text returned.corner ∷ []

-- the lines below an index have these records
pub record AreLineRecords (notes : FieldNotes) (count : ℕ) (rows : List Fields) : Type 0 where
  pub count_is : length rows ≡ count
  pub each : (line : ℕ) → line < count
      → AreLineFields line (returned_of notes line) (record_at rows line)

-- the text of the records of the heading, of the township, and of these lines
abbrev pub text_before : FieldNotes → List Fields → List ℕ
text_before notes rows = flat_map record_text (heading ∷ township_fields notes.township ∷ rows)

-- the text is that of these notes
pub record IsNotesText (notes : FieldNotes) (text : List ℕ) : Type 0 where
  pub rows : List Fields
  pub rows_are : AreLineRecords notes LINE_COUNT rows
  pub text_is : text ≡ text_before notes rows

-- the text of the notes was appended
abbrev pub AppendsNotes : FieldNotes → List ℕ → List ℕ → Type 0
AppendsNotes notes old new = (text : List ℕ) × IsNotesText notes text × (new ≡ old ++ text)

-- the numbers that notes can have if they are to be written: a township's designation, and 84 lines
-- with lengths
pub record AreWithinLimits (notes : FieldNotes) : Type 0 where
  pub township : IsTownshipNumber notes.township.number × IsTownshipNumber notes.township.range
  pub count : length notes.lines ≡ LINE_COUNT
  pub lengths : (line : ℕ) → IsLine line
      → IsLength (returned_of notes line).quarter × IsLength (returned_of notes line).corner
