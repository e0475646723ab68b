-- How faults are converted.
use Rattle.std.specs.Prelude.{◌≡◌}
use Rattle.twp_notes.specs.declared.reading.ReadFault.{ReadFault}
use Rattle.twp_notes.specs.declared.reading.ReadFault.TheVariants as reading
use Rattle.twp_notes.specs.declared.fault.NotesFault.{NotesFault}
use Rattle.twp_notes.specs.declared.fault.NotesFault.TheVariants as fault

-- the fault of notes that could not be read
abbrev pub notes_fault_of : ReadFault → NotesFault
notes_fault_of reading.Read = fault.Read
notes_fault_of reading.Memory = fault.Memory

-- the fault of the result is that of the reading
abbrev pub IsNotesFaultOf : ReadFault → NotesFault → Type 0
IsNotesFaultOf reading answered = answered ≡ notes_fault_of reading
