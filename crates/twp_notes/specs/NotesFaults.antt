-- What can be wrong with field notes, with each fault as a statement about all their records, and
-- which fault is reported.
use Rattle.std.specs.Prelude.{◌≡◌, ◌≢◌, ◌⊎◌, ℕ, ◌≤◌, ◌<◌, List, [], length, Option, Some, None}
use Rattle.std.specs.Prelude.{IfSome, Result, Ok, Err}
use Rattle.std.specs.Option.{option_map_or}
use Rattle.twp_measure.specs.LengthTexts.{IsLengthText}
use Rattle.twp_grid.specs.Lines.{IsLine}
use Rattle.twp_grid.specs.declared.line.Run.{Run}
use Rattle.twp_grid.specs.declared.refusal.Refusal.{Refusal}
use Rattle.twp_notes.specs.Records.{Fields, field, records_of, record_numbered}
use Rattle.twp_notes.specs.FieldNotes.{FieldNotes, NOTES_MOST, FIELDS, heading, run_text}
use Rattle.twp_notes.specs.FieldNotes.{IsTownshipRecord, IsSectionNumber, IsNeighborText, NamesLine}
use Rattle.twp_notes.specs.FieldNotes.{IsLineNumber, IsLineNamed, AreNotes}
use Rattle.twp_notes.specs.declared.fault.NotesFault.{NotesFault}
use Rattle.twp_notes.specs.declared.fault.NotesFault.TheVariants as fault

-- the number and the place of each fault: a length in bytes, a record's number, or a line's index
abbrev pub refusal_of : NotesFault → Option Refusal
refusal_of fault.TooLarge = Some (record { number = 1; at = NOTES_MOST })
refusal_of fault.Empty = Some (record { number = 2; at = 1 })
refusal_of fault.Heading = Some (record { number = 3; at = 1 })
refusal_of (fault.Columns record_number) = Some (record { number = 4; at = record_number })
refusal_of fault.Township = Some (record { number = 5; at = 2 })
refusal_of (fault.Run record_number) = Some (record { number = 6; at = record_number })
refusal_of (fault.Section record_number) = Some (record { number = 7; at = record_number })
refusal_of (fault.NoLine record_number) = Some (record { number = 8; at = record_number })
refusal_of (fault.Length record_number) = Some (record { number = 9; at = record_number })
refusal_of (fault.Repeated record_number) = Some (record { number = 10; at = record_number })
refusal_of (fault.Missing line) = Some (record { number = 11; at = line })
refusal_of fault.Read = None
refusal_of fault.Memory = None

-- there is no such value
abbrev pub HasNone : {A : Type 0} → (A → Type 0) → Type 0
HasNone {A} Is = (value : A) → Is value → ⊥

-- a record whose first field is not the letter of a run
abbrev pub HasNoRun : Fields → Type 0
HasNoRun fields = HasNone (λ (run : Run). field fields 0 ≡ run_text run)

-- a record without a section, or whose neighbor is neither a section nor empty
abbrev pub HasNoSection : Fields → Type 0
HasNoSection fields = HasNone (IsSectionNumber (field fields 1))
    ⊎ HasNone (IsNeighborText (field fields 2))

-- a record that names no line of the township
abbrev pub NamesNoLine : Fields → Type 0
NamesNoLine fields = HasNone (NamesLine fields)

-- a record with a distance that is not a length
abbrev pub HasNoLength : Fields → Type 0
HasNoLength fields = HasNone (IsLengthText (field fields 3))
    ⊎ HasNone (IsLengthText (field fields 4))

-- the numbered record is that of a line, and has this fault
abbrev pub HasOnLine : List ℕ → ℕ → (Fields → Type 0) → Type 0
HasOnLine bytes number IsBad = IsLineNumber (records_of bytes) number
    × IsBad (record_numbered (records_of bytes) number)

-- an earlier record is for the same line
pub record IsLineRepeated (records : List Fields) (number : ℕ) : Type 0 where
  pub earlier : ℕ
  pub line : ℕ
  pub is_earlier : earlier < number
  pub earlier_is_of_a_line : IsLineNumber records earlier
  pub earlier_names : NamesLine (record_numbered records earlier) line
  pub names : NamesLine (record_numbered records number) line

-- the fault is present
abbrev pub HasFault : List ℕ → NotesFault → Type 0
HasFault bytes fault.TooLarge = NOTES_MOST < length bytes
HasFault bytes fault.Empty = records_of bytes ≡ []
HasFault bytes fault.Heading = record_numbered (records_of bytes) 1 ≢ heading
HasFault bytes (fault.Columns number) =
    (2 ≤ number) × (number ≤ length (records_of bytes))
    × (length (record_numbered (records_of bytes) number) ≢ FIELDS)
HasFault bytes fault.Township = HasNone (IsTownshipRecord (record_numbered (records_of bytes) 2))
HasFault bytes (fault.Run number) = HasOnLine bytes number HasNoRun
HasFault bytes (fault.Section number) = HasOnLine bytes number HasNoSection
HasFault bytes (fault.NoLine number) = HasOnLine bytes number NamesNoLine
HasFault bytes (fault.Length number) = HasOnLine bytes number HasNoLength
HasFault bytes (fault.Repeated number) = IsLineNumber (records_of bytes) number
    × IsLineRepeated (records_of bytes) number
HasFault bytes (fault.Missing line) = IsLine line × ¬ IsLineNamed (records_of bytes) line
HasFault bytes fault.Read = ⊥
HasFault bytes fault.Memory = ⊥

-- The size of the notes comes first, then their records one after another, and last any missing line.
abbrev pub stage_of : NotesFault → ℕ
stage_of fault.TooLarge = 0
stage_of (fault.Missing line) = 2
stage_of other = 1

-- the number of a fault's refusal
abbrev pub number_of : NotesFault → ℕ
number_of fault = option_map_or (λ (refusal : Refusal). refusal.number) (refusal_of fault) 0

-- the place of a fault's refusal
abbrev pub place_of : NotesFault → ℕ
place_of fault = option_map_or (λ (refusal : Refusal). refusal.at) (refusal_of fault) 0

-- the fault is at this stage, place, and number, or after them
abbrev pub IsFrom : ℕ → ℕ → ℕ → NotesFault → Type 0
IsFrom stage place number fault =
    (stage < stage_of fault)
    ⊎ ((stage ≡ stage_of fault) × (place < place_of fault))
    ⊎ ((stage ≡ stage_of fault) × (place ≡ place_of fault) × (number ≤ number_of fault))

-- no fault among these comes before this one
abbrev pub ComesFirst : (NotesFault → Type 0) → NotesFault → Type 0
ComesFirst Has fault = (other : NotesFault) → Has other
    → IsFrom (stage_of fault) (place_of fault) (number_of fault) other

-- the fault is present, and no fault that precedes it is
pub record IsFirstNotesFault (bytes : List ℕ) (fault : NotesFault) : Type 0 where
  pub is : HasFault bytes fault
  pub first : ComesFirst (HasFault bytes) fault

-- the notes in the bytes, or their first fault
abbrev pub AnswersNotes : List ℕ → Result FieldNotes NotesFault → Type 0
AnswersNotes bytes (Ok notes) = AreNotes bytes notes
AnswersNotes bytes (Err fault) = IfSome (refusal_of fault) (λ _. IsFirstNotesFault bytes fault)
