-- What can be wrong with a list of tracts by a lot table: what is wrong with it in the table's township, or
-- that the table lacks a lot of a tract, which is reported as the refusal of the tract's description.
use Rattle.std.specs.Prelude.{◌≡◌, ◌⊎◌, ℕ, ◌+◌, ◌<◌, List, length, IfSome}
use Rattle.twp_plat.specs.LotTables.{lots_of}
use Rattle.twp_plat.specs.declared.lots.returned.ReturnedLots.{ReturnedLots}
use Rattle.twp_grid.specs.Townships.{Designation}
use Rattle.twp_notes.specs.Records.{Fields, record_at}
use Rattle.twp_answers.specs.Tracts.{description_in, tract_records}
use Rattle.twp_answers.specs.TractFaults.{HasTractFault, IsFrom, record_of, turn_of, verdict_of}
use Rattle.twp_answers.specs.declared.tract_fault.TractFault.{TractFault}
use Rattle.twp_answers.specs.declared.tract_fault.TractFault.TheVariants as fault
use Rattle.twp_answers.specs.LotLands.{LacksLotOf}

-- the table lacks a lot of the tract at the index, which is reported at its record
abbrev pub LacksLotAt : Designation → ReturnedLots → List Fields → ℕ → TractFault → Type 0
LacksLotAt township lots rows index (fault.TractRefused number inner) = (number ≡ index + 2)
    × LacksLotOf township lots (description_in (record_at rows index)) inner
LacksLotAt township lots rows index other = ⊥

-- it lacks a lot of some tract
pub record LacksLotInTracts (township : Designation) (lots : ReturnedLots) (rows : List Fields)
    (tract_fault : TractFault)
    : Type 0 where
  pub index : ℕ
  pub within : index < length rows
  pub lacks : LacksLotAt township lots rows index tract_fault

-- the fault is present
abbrev pub HasFaultByLots : Designation → ReturnedLots → List ℕ → TractFault → Type 0
HasFaultByLots township lots bytes tract_fault =
    HasTractFault (lots_of lots) township bytes tract_fault
    ⊎ LacksLotInTracts township lots (tract_records bytes) tract_fault

-- the fault is present, and no fault that precedes it is
pub record IsFirstFaultByLots (township : Designation) (lots : ReturnedLots) (bytes : List ℕ)
    (tract_fault : TractFault)
    : Type 0 where
  pub is : HasFaultByLots township lots bytes tract_fault
  pub first : (other : TractFault) → HasFaultByLots township lots bytes other
      → IsFrom (record_of tract_fault) (turn_of tract_fault) other

-- the fault is the first one of the list, or is not a fault of a list
abbrev pub AnswersFaultByLots : Designation → ReturnedLots → List ℕ → TractFault → Type 0
AnswersFaultByLots township lots bytes tract_fault =
    IfSome (verdict_of tract_fault) (λ _. IsFirstFaultByLots township lots bytes tract_fault)
