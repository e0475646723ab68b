-- What an explanation was found to be of.
use Rattle.std.specs.Prelude.{◌≡◌, ⊤, Result, Ok, Err}
use Rattle.twp_grid.specs.declared.refusal.Refusal.{Refusal}
use Rattle.twp_diagnose.specs.declared.finding.Finding.{Finding}
use Rattle.twp_diagnose.specs.declared.finding.SearchStop.{SearchStop}
use Rattle.twp_diagnose.specs.declared.finding.SearchStop.TheVariants.{Found, Memory}

-- nothing was found, or this holds of the refusal of what was
abbrev pub IfFound : SearchStop → (Refusal → Type 0) → Type 0
IfFound (Found finding) Holds = Holds finding.refusal
IfFound Memory Holds = ⊤

-- nothing was found, or this holds of what was
abbrev pub IfFinds : SearchStop → (Finding → Type 0) → Type 0
IfFinds (Found finding) Holds = Holds finding
IfFinds Memory Holds = ⊤

-- something was found, and it is of this refusal
abbrev pub IsOf : SearchStop → Refusal → Type 0
IsOf (Found finding) refusal = finding.refusal ≡ refusal
IsOf Memory refusal = ⊥

-- the stop of what was found, or of want of memory
abbrev pub IsStopOf : {Error : Type 0} → Result Finding Error → SearchStop → Type 0
IsStopOf (Ok finding) stop = stop ≡ Found finding
IsStopOf (Err error) stop = stop ≡ Memory
