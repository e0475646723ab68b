-- Why notes make no plat, with each fault as a statement about a line, and which fault is reported.
use Rattle.std.specs.Prelude.{◌≡◌, ◌⊎◌, ℕ, ◌≤◌, ◌<◌, pos, ◌<ℤ◌, Option, Some, Result, Ok, Err}
use Rattle.twp_grid.specs.Lines.{IsLine, IsClosing}
use Rattle.twp_grid.specs.declared.refusal.Refusal.{Refusal}
use Rattle.twp_notes.specs.FieldNotes.{FieldNotes, returned_of}
use Rattle.twp_notes.specs.declared.parsing.Returned.{Returned}
use Rattle.twp_plat.specs.Closing.{first_half, second_half, last_quarter}
use Rattle.twp_plat.specs.Closing.{IsRegular, CLOSING_LEAST, CLOSING_MOST}
use Rattle.twp_plat.specs.Plats.{SurveyPlat, IsPlatOf}
use Rattle.twp_plat.specs.declared.fault.HalfMile.TheVariants as half
use Rattle.twp_plat.specs.declared.fault.PlatFault.{PlatFault}
use Rattle.twp_plat.specs.declared.fault.PlatFault.TheVariants as fault

-- the index of the line with the fault
abbrev pub place_of : PlatFault → ℕ
place_of (fault.Irregular line which) = line
place_of (fault.ClosingShort line) = line
place_of (fault.ClosingLong line) = line

-- the number and the place of each fault
abbrev pub refusal_of : PlatFault → Option Refusal
refusal_of (fault.Irregular line which) = Some (record { number = 21; at = line })
refusal_of (fault.ClosingShort line) = Some (record { number = 22; at = line })
refusal_of (fault.ClosingLong line) = Some (record { number = 23; at = line })

-- the line's returned distances have the fault
abbrev pub HasLineFault : ℕ → Returned → PlatFault → Type 0
HasLineFault line returned (fault.Irregular at half.First) = ¬ IsRegular (first_half returned)
HasLineFault line returned (fault.Irregular at half.Second) =
    ¬ IsClosing line × ¬ IsRegular (second_half returned)
HasLineFault line returned (fault.ClosingShort at) =
    IsClosing line × (last_quarter returned <ℤ pos CLOSING_LEAST)
HasLineFault line returned (fault.ClosingLong at) =
    IsClosing line × (pos CLOSING_MOST <ℤ last_quarter returned)

-- the fault is present at its line
abbrev pub HasFault : FieldNotes → PlatFault → Type 0
HasFault notes fault =
    IsLine (place_of fault)
    × HasLineFault (place_of fault) (returned_of notes (place_of fault)) fault

-- Lines are checked by ascending index, and the first half of each before the second.
abbrev pub half_of : PlatFault → ℕ
half_of (fault.Irregular line half.First) = 1
half_of other = 2

-- the fault is at this line and half, or after it
abbrev pub IsFrom : ℕ → ℕ → PlatFault → Type 0
IsFrom place half fault =
    (place < place_of fault) ⊎ ((place ≡ place_of fault) × (half ≤ half_of fault))

-- no fault among these comes before this one
abbrev pub ComesFirst : (PlatFault → Type 0) → PlatFault → Type 0
ComesFirst Has fault = (other : PlatFault) → Has other
    → IsFrom (place_of fault) (half_of fault) other

-- the fault is present, and no fault that precedes it is
pub record IsFirstPlatFault (notes : FieldNotes) (fault : PlatFault) : Type 0 where
  pub is : HasFault notes fault
  pub first : ComesFirst (HasFault notes) fault

-- the plat that the notes make, or their first fault
abbrev pub AnswersPlat : FieldNotes → Result SurveyPlat PlatFault → Type 0
AnswersPlat notes (Ok plat) = IsPlatOf notes plat
AnswersPlat notes (Err fault) = IsFirstPlatFault notes fault
