-- How faults are converted.
use Rattle.std.specs.Prelude.{◌≡◌}
use Rattle.twp_notes.specs.declared.reading.ReadFault.{ReadFault}
use Rattle.twp_notes.specs.declared.reading.ReadFault.TheVariants as reading
use Rattle.twp_plat.specs.declared.lots.fault.LotsFault.{LotsFault}
use Rattle.twp_plat.specs.declared.lots.fault.LotsFault.TheVariants as fault

-- the fault of a lot table that could not be read
abbrev pub lots_fault_of : ReadFault → LotsFault
lots_fault_of reading.Read = fault.Read
lots_fault_of reading.Memory = fault.Memory

-- the fault of the result is that of the reading
abbrev pub IsLotsFaultOf : ReadFault → LotsFault → Type 0
IsLotsFaultOf reading answered = answered ≡ lots_fault_of reading
