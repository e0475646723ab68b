-- How an account by a lot table grows by one tract, and why the next record is refused. No public contract
-- cites this module.
use Rattle.std.specs.Prelude.{◌≡◌, ◌⊎◌, ℕ, ◌<◌, ◌≤◌, Bool, List, length, ⊤}
use Rattle.twp_measure.specs.Areas.{Fraction}
use Rattle.twp_grid.specs.Lands.{SharePlace}
use Rattle.twp_plat.specs.LotAreas.{HasFigures}
use Rattle.twp_plat.specs.LotTables.{figure_of, lots_of}
use Rattle.twp_plat.specs.declared.lots.returned.ReturnedLots.{ReturnedLots}
use Rattle.twp_grid.specs.Townships.{Designation}
use Rattle.twp_notes.specs.Records.{Fields}
use Rattle.twp_answers.specs.Answers.{Describe}
use Rattle.twp_answers.specs.EarlierTracts.{TractsSoFar, IsNamedAnew, IsUnread, TakesLand}
use Rattle.twp_answers.specs.TractFaults.{HasAt, turn_of}
use Rattle.twp_answers.specs.Tracts.{TRACTS_MOST, AreTracts, description_in}
use Rattle.twp_answers.specs.declared.tract_fault.TractFault.{TractFault}
use Rattle.twp_answers.specs.declared.tract_fault.TractFault.TheVariants as fault
use Rattle.twp_answers.specs.LotLands.{HasLotArea, HasNoLotAreaOf}
use Rattle.twp_answers.specs.LotTractFaults.{LacksLotAt}

-- the tracts so far grew by the tract of the record, which has this area by the table
pub record TakesByLots (township : Designation) (lots : ReturnedLots) (fields : Fields)
    (old new : TractsSoFar) (area : Fraction)
    : Type 0 where
  pub more : ℕ → ℕ → ℕ → Bool
  pub takes : TakesLand (lots_of lots) township fields old new more
  pub area_is : HasLotArea lots more area

-- the record's land, for whose lots the table has figures, contains a place of the tracts so far
pub record OverlapsByLots (township : Designation) (lots : ReturnedLots) (fields : Fields)
    (earlier : TractsSoFar) : Type 0 where
  pub more : ℕ → ℕ → ℕ → Bool
  pub land : Describe (lots_of lots) township (description_in fields) more
  pub figures : HasFigures (lots_of lots) (figure_of lots) more
  pub shared : SharePlace earlier.places more

-- the numbered record is refused by the table: this is why, and no earlier reason applies
abbrev pub IsRefusedByLots : Designation → ReturnedLots → Fields → TractsSoFar → ℕ → TractFault → Type 0
IsRefusedByLots township lots fields earlier number (fault.TractRefused at_ inner) =
    (at_ ≡ number) × IsNamedAnew fields earlier × HasNoLotAreaOf township lots (description_in fields) inner
IsRefusedByLots township lots fields earlier number (fault.TractsOverlap at_) =
    (at_ ≡ number) × IsNamedAnew fields earlier × OverlapsByLots township lots fields earlier
IsRefusedByLots township lots fields earlier number other =
    IsUnread (lots_of lots) township fields earlier number other

-- the tract at the index has the fault
abbrev pub HasAtByLots : Designation → ReturnedLots → List Fields → ℕ → TractFault → Type 0
HasAtByLots township lots rows index tract_fault =
    HasAt (lots_of lots) township rows index tract_fault ⊎ LacksLotAt township lots rows index tract_fault

-- the table lacks no lot of the first tracts, up to this number
abbrev pub LackNoLots : Designation → ReturnedLots → List Fields → ℕ → Type 0
LackNoLots township lots rows count = (index : ℕ) (other : TractFault) → index < count
    → ¬ LacksLotAt township lots rows index other

-- this many of the records are tracts for whose lots the table has figures, and the next one is refused for
-- its first fault
pub record IsNextRefusedByLots (township : Designation) (lots : ReturnedLots) (rows : List Fields)
    (tract_fault : TractFault)
    : Type 0 where
  pub index : ℕ
  pub within : index < length rows
  pub below : index < TRACTS_MOST
  pub tracts : AreTracts (lots_of lots) township rows index
  pub figures : LackNoLots township lots rows index
  pub has : HasAtByLots township lots rows index tract_fault
  pub first : (other : TractFault) → HasAtByLots township lots rows index other
      → turn_of tract_fault ≤ turn_of other

-- there is one tract too many after such tracts
pub record AreTooManyByLots (township : Designation) (lots : ReturnedLots) (rows : List Fields) : Type 0 where
  pub many : TRACTS_MOST < length rows
  pub tracts : AreTracts (lots_of lots) township rows TRACTS_MOST
  pub figures : LackNoLots township lots rows TRACTS_MOST

-- there is one tract too many, or one of the records is refused, or memory ran out
abbrev pub AreRefusedByLots : Designation → ReturnedLots → List Fields → TractFault → Type 0
AreRefusedByLots township lots rows fault.TooManyTracts = AreTooManyByLots township lots rows
AreRefusedByLots township lots rows fault.Memory = ⊤
AreRefusedByLots township lots rows other = IsNextRefusedByLots township lots rows other
