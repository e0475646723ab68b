-- The distances returned for lines so far, by index. No public contract cites this module;
-- proofs/Taking and proofs/FirstFaults show that it leads to the notes and to their first fault.
use Rattle.std.specs.Prelude.{slice_set, ◌≡◌, ℕ, ◌<◌, List, length, Option, Some, None, IsSome}
use Rattle.std.specs.Prelude.{slice_index_or}
use Rattle.twp_grid.specs.Lines.{LINE_COUNT, IsLine}
use Rattle.twp_notes.specs.Records.{Fields, record_at}
use Rattle.twp_notes.specs.FieldNotes.{nothing_returned, NamesLine, IsLineRecord}
use Rattle.twp_notes.specs.declared.parsing.Returned.{Returned}

-- the entry of a line, if it has one
abbrev pub entry_of : List (Option Returned) → ℕ → Option Returned
entry_of table line = slice_index_or table line None

-- these are the entries of all lines
pub record AreEntries (table : List (Option Returned)) (lines : List Returned) : Type 0 where
  pub count : length lines ≡ LINE_COUNT
  pub each : (line : ℕ) → IsLine line
      → entry_of table line ≡ Some (slice_index_or lines line nothing_returned)

-- this line has no entry, and each line before it has one
pub record IsLeastMissing (table : List (Option Returned)) (line : ℕ) : Type 0 where
  pub is_line : IsLine line
  pub missing : entry_of table line ≡ None
  pub before : (other : ℕ) → other < line → IsSome (entry_of table other)

-- a record of a line was entered
pub record TakesDown (fields : Fields) (old new : List (Option Returned)) : Type 0 where
  pub line : ℕ
  pub returned : Returned
  pub is : IsLineRecord fields line returned
  pub first : entry_of old line ≡ None
  pub new_is : new ≡ slice_set old line (Some returned)
  pub is_line : IsLine line

-- the record is that of a line, and the table has its distances as the line's entry
pub record IsLineTaken (fields : Fields) (table : List (Option Returned)) : Type 0 where
  pub line : ℕ
  pub returned : Returned
  pub is : IsLineRecord fields line returned
  pub taken : entry_of table line ≡ Some returned

-- one of the first records, up to this number, names the line
pub record IsLineNamedBy (records : List Fields) (count line : ℕ) : Type 0 where
  pub place : ℕ
  pub within : place < count
  pub names : NamesLine (record_at records place) line

-- the table has exactly the entries of the first records up to this number, each for another line
pub record AreTaken (records : List Fields) (count : ℕ) (table : List (Option Returned))
    : Type 0 where
  pub each : (place : ℕ) → place < count → IsLineTaken (record_at records place) table
  pub once : (place other line : ℕ) → place < count → other < count
      → NamesLine (record_at records place) line → NamesLine (record_at records other) line
      → place ≡ other
  pub named : (line : ℕ) → IsSome (entry_of table line) → IsLineNamedBy records count line
  pub size : length table ≡ LINE_COUNT
