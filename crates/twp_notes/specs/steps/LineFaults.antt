-- Why the record of a line is refused, in the order in which its fields are read. No public
-- contract cites this module; proofs/FirstFaults shows that the reason is the notes' first fault.
use Rattle.std.specs.Prelude.{◌≡◌, ◌≢◌, ℕ, ◌+◌, ◌<◌, List, length, Option, IsSome, ⊤}
use Rattle.twp_notes.specs.Records.{Fields, record_at}
use Rattle.twp_notes.specs.FieldNotes.{FIELDS, NamesLine}
use Rattle.twp_notes.specs.NotesFaults.{HasNoRun, HasNoSection, NamesNoLine, HasNoLength}
use Rattle.twp_notes.specs.steps.Tables.{entry_of, AreTaken}
use Rattle.twp_notes.specs.declared.fault.NotesFault.{NotesFault}
use Rattle.twp_notes.specs.declared.fault.NotesFault.TheVariants as fault
use Rattle.twp_notes.specs.declared.parsing.Returned.{Returned}

-- the numbered record names no line: this is why, and no earlier reason applies
abbrev pub IsUnnamed : Fields → ℕ → NotesFault → Type 0
IsUnnamed fields number (fault.Run at) = (at ≡ number) × HasNoRun fields
IsUnnamed fields number (fault.Section at) = (at ≡ number) × HasNoSection fields × ¬ HasNoRun fields
IsUnnamed fields number (fault.NoLine at) = (at ≡ number) × NamesNoLine fields
    × ¬ HasNoRun fields × ¬ HasNoSection fields
IsUnnamed fields number other = ⊥

-- the record names a line that already has an entry
pub record IsOfReturnedLine (fields : Fields) (table : List (Option Returned)) : Type 0 where
  pub line : ℕ
  pub names : NamesLine fields line
  pub before : IsSome (entry_of table line)

-- the numbered record is not entered: this is why, and no earlier reason applies
abbrev pub IsNotTaken : Fields → List (Option Returned) → ℕ → NotesFault → Type 0
IsNotTaken fields table number (fault.Columns at) = (at ≡ number) × (length fields ≢ FIELDS)
IsNotTaken fields table number (fault.Run at) = (length fields ≡ FIELDS)
    × IsUnnamed fields number (fault.Run at)
IsNotTaken fields table number (fault.Section at) = (length fields ≡ FIELDS)
    × IsUnnamed fields number (fault.Section at)
IsNotTaken fields table number (fault.NoLine at) = (length fields ≡ FIELDS)
    × IsUnnamed fields number (fault.NoLine at)
IsNotTaken fields table number (fault.Length at) = (at ≡ number) × HasNoLength fields
    × ¬ NamesNoLine fields
IsNotTaken fields table number (fault.Repeated at) = (at ≡ number)
    × IsOfReturnedLine fields table × ¬ HasNoLength fields
IsNotTaken fields table number other = ⊥

-- this many of the records were entered, and the next one is refused
pub record IsLineRefusedNext (records : List Fields) (fault : NotesFault) : Type 0 where
  pub count : ℕ
  pub table : List (Option Returned)
  pub within : count < length records
  pub taken : AreTaken records count table
  pub not_taken : IsNotTaken (record_at records count) table (count + 3) fault

-- the same, unless memory ran out
abbrev pub IsLineRefusedAfter : List Fields → NotesFault → Type 0
IsLineRefusedAfter records fault.Memory = ⊤
IsLineRefusedAfter records other = IsLineRefusedNext records other
