-- The answer for one line: its closing quarter, or its first fault. No public contract cites this
-- module; proofs/FaultFacts shows that the first such fault is the first fault of the notes.
use Rattle.std.specs.Prelude.{◌≡◌, ℕ, ◌≤◌, Result, Ok, Err}
use Rattle.twp_notes.specs.declared.parsing.Returned.{Returned}
use Rattle.twp_plat.specs.Closing.{IsInLimits, IsClosingQuarter}
use Rattle.twp_plat.specs.PlatFaults.{place_of, half_of, HasLineFault}
use Rattle.twp_plat.specs.declared.fault.PlatFault.{PlatFault}

-- the fault is on the line, and the line's earlier half has none
pub record IsFirstLineFault (line : ℕ) (returned : Returned) (fault : PlatFault) : Type 0 where
  pub place : place_of fault ≡ line
  pub is : HasLineFault line returned fault
  pub first : (other : PlatFault) → HasLineFault line returned other → half_of fault ≤ half_of other

-- the closing quarter of a line within its limits, or the line's first fault
abbrev pub AnswersLine : ℕ → Returned → Result ℕ PlatFault → Type 0
AnswersLine line returned (Ok quarter) = IsInLimits line returned
    × IsClosingQuarter line returned quarter
AnswersLine line returned (Err fault) = IsFirstLineFault line returned fault
