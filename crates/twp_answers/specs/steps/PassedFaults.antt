-- How faults are converted.
use Rattle.std.specs.Prelude.{◌≡◌, Some}
use Rattle.twp_notes.specs.NotesFaults as notes_faults
use Rattle.twp_notes.specs.declared.fault.NotesFault.{NotesFault}
use Rattle.twp_notes.specs.declared.fault.NotesFault.TheVariants as notes_fault
use Rattle.twp_notes.specs.declared.reading.ReadFault.{ReadFault}
use Rattle.twp_notes.specs.declared.reading.ReadFault.TheVariants as reading
use Rattle.twp_plat.specs.PlatFaults as plat_faults
use Rattle.twp_plat.specs.declared.fault.PlatFault.{PlatFault}
use Rattle.twp_read.specs.TextFaults as text_faults
use Rattle.twp_read.specs.declared.fault.TextFault.{TextFault}
use Rattle.twp_read.specs.declared.fault.TextFault.TheVariants as text_fault
use Rattle.twp_resolve.specs.PlaceFaults as place_faults
use Rattle.twp_resolve.specs.declared.place_fault.PlaceFault.{PlaceFault}
use Rattle.twp_answers.specs.declared.stop.RunFault.{RunFault}
use Rattle.twp_answers.specs.declared.stop.RunFault.TheVariants as run
use Rattle.twp_answers.specs.declared.stop.Stop.{Stop}
use Rattle.twp_answers.specs.declared.stop.Stop.TheVariants as stop

-- the fault of a run that could not read
abbrev pub run_fault_of : ReadFault → RunFault
run_fault_of reading.Read = run.Read
run_fault_of reading.Memory = run.Memory

abbrev pub IsRunFaultOf : ReadFault → RunFault → Type 0
IsRunFaultOf fault answered = answered ≡ run_fault_of fault

abbrev pub IsStopOfReading : ReadFault → Stop → Type 0
IsStopOfReading fault answered = answered ≡ stop.Failed (run_fault_of fault)

-- notes stop a run with their refusal, or with the fault of reading them
abbrev pub IsStopOfNotes : NotesFault → Stop → Type 0
IsStopOfNotes fault (stop.Refused refusal) = notes_faults.refusal_of fault ≡ Some refusal
IsStopOfNotes fault (stop.Failed run.Read) = fault ≡ notes_fault.Read
IsStopOfNotes fault (stop.Failed run.Memory) = fault ≡ notes_fault.Memory
IsStopOfNotes fault (stop.Failed run.Write) = ⊥

-- notes that make no plat stop a run with their refusal
abbrev pub IsStopOfPlat : PlatFault → Stop → Type 0
IsStopOfPlat fault (stop.Refused refusal) = plat_faults.refusal_of fault ≡ Some refusal
IsStopOfPlat fault (stop.Failed answered) = ⊥

-- a text stops a run with its refusal, or because memory ran out
abbrev pub IsStopOfText : TextFault → Stop → Type 0
IsStopOfText fault (stop.Refused refusal) = text_faults.refusal_of fault ≡ Some refusal
IsStopOfText fault (stop.Failed run.Memory) = fault ≡ text_fault.Memory
IsStopOfText fault (stop.Failed run.Read) = ⊥
IsStopOfText fault (stop.Failed run.Write) = ⊥

-- items that do not lie on the plat stop a run with their refusal
abbrev pub IsStopOfPlaces : PlaceFault → Stop → Type 0
IsStopOfPlaces fault (stop.Refused refusal) = place_faults.refusal_of fault ≡ Some refusal
IsStopOfPlaces fault (stop.Failed answered) = ⊥
