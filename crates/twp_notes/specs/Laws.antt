-- Laws over the definitions.
use Rattle.std.specs.Prelude.{◌≡◌, ℕ, List, ⊤, IsSome, Result, Ok, Err}
use Rattle.twp_notes.specs.FieldNotes.{FieldNotes, AreNotes}
use Rattle.twp_notes.specs.NotesFaults.{AnswersNotes, refusal_of}
use Rattle.twp_notes.specs.NotesTexts.{IsNotesText, AreWithinLimits}
use Rattle.twp_notes.specs.declared.fault.NotesFault.{NotesFault}

-- notes, or a numbered refusal: not a failure to read
abbrev pub IsNotesAnswer : Result FieldNotes NotesFault → Type 0
IsNotesAnswer (Ok notes) = ⊤
IsNotesAnswer (Err fault) = IsSome (refusal_of fault)

-- the same bytes are always the same notes, or have the same first fault
abbrev pub OneAnswer : Type 0
OneAnswer = (bytes : List ℕ) (answer answer' : Result FieldNotes NotesFault)
    → AnswersNotes bytes answer → AnswersNotes bytes answer' → IsNotesAnswer answer
    → IsNotesAnswer answer' → answer ≡ answer'

-- the text of notes is those notes, so they can be read back from it
abbrev pub WrittenIsRead : Type 0
WrittenIsRead = (notes : FieldNotes) (text : List ℕ)
    → AreWithinLimits notes → IsNotesText notes text → AreNotes text notes
