-- What can be wrong with a list of tracts, with each fault as a statement about the whole list, and
-- which fault is reported.
use Rattle.std.specs.Prelude.{◌≡◌, ◌≢◌, ◌⊎◌, ℕ, ◌+◌, ◌≤◌, ◌<◌, List, length, Option, Some, None}
use Rattle.std.specs.Prelude.{option_map, IfSome}
use Rattle.twp_grid.specs.Townships.{Designation}
use Rattle.twp_grid.specs.declared.refusal.Refusal.{Refusal}
use Rattle.twp_notes.specs.Records.{Fields, record_at, record_numbered, records_of}
use Rattle.twp_answers.specs.Answers.{IsNoDescription}
use Rattle.twp_answers.specs.Tracts.{TRACTS_LIMIT, TRACTS_MOST, tracts_heading, tract_records}
use Rattle.twp_answers.specs.Tracts.{name_in, description_in, IsTractRecord, Overlap}
use Rattle.twp_answers.specs.declared.stop.Verdict.{Verdict}
use Rattle.twp_answers.specs.declared.stop.Verdict.TheVariants.{Refused, TractRefused}
use Rattle.twp_answers.specs.declared.tract_fault.TractFault.{TractFault}
use Rattle.twp_answers.specs.declared.tract_fault.TractFault.TheVariants as fault
use Rattle.twp_grid.specs.Lands.{Lotting}

-- the number of the fault and its place; none if memory ran out
abbrev pub refusal_of : TractFault → Option Refusal
refusal_of fault.TractsTooLarge = Some (record { number = 80; at = TRACTS_LIMIT })
refusal_of (fault.TractRow number_) = Some (record { number = 81; at = number_ })
refusal_of (fault.NameRepeated number_) = Some (record { number = 82; at = number_ })
refusal_of (fault.TractRefused number_ inner) = Some (record { number = 83; at = number_ })
refusal_of (fault.TractsOverlap number_) = Some (record { number = 84; at = number_ })
refusal_of fault.TooManyTracts = Some (record { number = 85; at = TRACTS_MOST + 2 })
refusal_of fault.Memory = None

-- the verdict on a list that has the fault: its refusal, with that of a tract's description beside
-- it
abbrev pub verdict_of : TractFault → Option Verdict
verdict_of (fault.TractRefused number inner) = Some (TractRefused number inner)
verdict_of other = option_map Refused (refusal_of other)

-- the tract has the name of an earlier one
pub record IsNameRepeated (rows : List Fields) (index : ℕ) : Type 0 where
  pub earlier : ℕ
  pub is_earlier : earlier < index
  pub same : name_in (record_at rows earlier) ≡ name_in (record_at rows index)

-- a place of the tract is in an earlier tract
pub record OverlapsEarlier (lots : Lotting) (township : Designation) (rows : List Fields) (index : ℕ)
    : Type 0 where
  pub earlier : ℕ
  pub is_earlier : earlier < index
  pub overlap : Overlap lots township (record_at rows earlier) (record_at rows index)

-- the tract at the index has the fault, which is reported at its record
abbrev pub HasAt : Lotting → Designation → List Fields → ℕ → TractFault → Type 0
HasAt lots township rows index (fault.TractRow number) =
    (number ≡ index + 2) × ¬ IsTractRecord (record_at rows index)
HasAt lots township rows index (fault.NameRepeated number) =
    (number ≡ index + 2) × IsNameRepeated rows index
HasAt lots township rows index (fault.TractRefused number inner) = (number ≡ index + 2)
    × IsNoDescription lots township (description_in (record_at rows index)) inner
HasAt lots township rows index (fault.TractsOverlap number) =
    (number ≡ index + 2) × OverlapsEarlier lots township rows index
HasAt lots township rows index other = ⊥

-- some tract has the fault
pub record HasAtTract (lots : Lotting) (township : Designation) (rows : List Fields)
    (tract_fault : TractFault)
    : Type 0 where
  pub index : ℕ
  pub within : index < length rows
  pub has : HasAt lots township rows index tract_fault

-- the first record is not the heading, or is missing
abbrev pub HasNoHeading : List ℕ → TractFault → Type 0
HasNoHeading bytes (fault.TractRow number) =
    (number ≡ 1) × (record_numbered (records_of bytes) 1 ≢ tracts_heading)
HasNoHeading bytes other = ⊥

-- the fault is present
abbrev pub HasTractFault : Lotting → Designation → List ℕ → TractFault → Type 0
HasTractFault lots township bytes fault.TractsTooLarge = TRACTS_LIMIT < length bytes
HasTractFault lots township bytes fault.TooManyTracts = TRACTS_MOST < length (tract_records bytes)
HasTractFault lots township bytes other =
    HasNoHeading bytes other ⊎ HasAtTract lots township (tract_records bytes) other

-- The size of the list comes first, then its records one after another.
abbrev pub record_of : TractFault → ℕ
record_of fault.TractsTooLarge = 0
record_of (fault.TractRow number) = number
record_of (fault.NameRepeated number) = number
record_of (fault.TractRefused number inner) = number
record_of (fault.TractsOverlap number) = number
record_of fault.TooManyTracts = TRACTS_MOST + 2
record_of fault.Memory = 0

-- If there is one tract too many, nothing else is checked at that record. Otherwise the faults of a
-- record are checked in the order of their numbers.
abbrev pub turn_of : TractFault → ℕ
turn_of fault.TooManyTracts = 0
turn_of (fault.TractRow number) = 1
turn_of (fault.NameRepeated number) = 2
turn_of (fault.TractRefused number inner) = 3
turn_of (fault.TractsOverlap number) = 4
turn_of other = 0

-- the fault is at this record and turn, or after them
abbrev pub IsFrom : ℕ → ℕ → TractFault → Type 0
IsFrom number turn tract_fault = (number < record_of tract_fault)
    ⊎ ((number ≡ record_of tract_fault) × (turn ≤ turn_of tract_fault))

-- the fault is present, and no fault that precedes it is
pub record IsFirstTractFault (lots : Lotting) (township : Designation) (bytes : List ℕ)
    (tract_fault : TractFault)
    : Type 0 where
  pub is : HasTractFault lots township bytes tract_fault
  pub first : (other : TractFault) → HasTractFault lots township bytes other
      → IsFrom (record_of tract_fault) (turn_of tract_fault) other

-- the fault is the first one of the list, or is not a fault of a list
abbrev pub AnswersFault : Lotting → Designation → List ℕ → TractFault → Type 0
AnswersFault lots township bytes tract_fault =
    IfSome (verdict_of tract_fault) (λ _. IsFirstTractFault lots township bytes tract_fault)
