-- Which tracts of a list overlap, and in how many acres, whatever else is wrong with the list.
use Rattle.std.specs.Prelude.{◌≡◌, ◌⊎◌, ℕ, ◌+◌, ◌<◌, Bool, List, length, slice_index_or, Result, Ok, Err}
use Rattle.std.specs.List.{All}
use Rattle.twp_grid.specs.Townships.{Designation}
use Rattle.twp_grid.specs.Lands.{Lotting, STANDARD_LOTS, intersection}
use Rattle.twp_grid.specs.declared.refusal.Refusal.{Refusal}
use Rattle.twp_notes.specs.Records.{Fields, record_at}
use Rattle.twp_plat.specs.LotTables.{lots_of}
use Rattle.twp_plat.specs.Plats.{SurveyPlat}
use Rattle.twp_plat.specs.declared.lots.returned.ReturnedLots.{ReturnedLots}
use Rattle.twp_answers.specs.Answers.{AreHundredthsOf}
use Rattle.twp_answers.specs.LotLands.{HasLotAcres, IsLackingLot}
use Rattle.twp_answers.specs.Tracts.{IsTractRecord, Overlap}
use Rattle.twp_answers.specs.declared.overlaps.TractOverlap.{TractOverlap}

-- What land is measured by: the township that it is in, the lots of its plat, and how many acres a set of
-- places is.
pub record Measure (Acres : Type 0) : Type 1 where
  pub township : Designation
  pub lots : Lotting
  pub are_acres : (ℕ → ℕ → ℕ → Bool) → Acres → Type 0

-- a plat: the exact area is rounded once, half up, to hundredths of an acre
abbrev pub measure_of_plat : SurveyPlat → Measure ℕ
measure_of_plat plat =
    record { township = plat.township; lots = STANDARD_LOTS; are_acres = AreHundredthsOf plat }

-- these are the hundredths of an acre of the places by a lot table, or the refusal of the first lot of theirs
-- that it lacks
abbrev pub AreAcresByTable : ReturnedLots → (ℕ → ℕ → ℕ → Bool) → Result ℕ Refusal → Type 0
AreAcresByTable lots places (Ok hundredths) = HasLotAcres lots places hundredths
AreAcresByTable lots places (Err refusal) = IsLackingLot lots places refusal

-- a lot table in a township
abbrev pub measure_of_table : Designation → ReturnedLots → Measure (Result ℕ Refusal)
measure_of_table township lots =
    record { township = township; lots = lots_of lots; are_acres = AreAcresByTable lots }

-- both records are tracts, and their land shares a place
pub record AreOverlapping (lots : Lotting) (township : Designation) (fields other : Fields) : Type 0 where
  pub is_first : IsTractRecord fields
  pub is_second : IsTractRecord other
  pub overlap : Overlap lots township fields other

-- the tracts of both records overlap, and these are the acres of the places in both
pub record IsSharedAcres {Acres : Type 0} (by : Measure Acres) (fields other : Fields) (acres : Acres)
    : Type 0 where
  pub are : AreOverlapping by.lots by.township fields other
  pub acres_are : by.are_acres (intersection are.overlap.places are.overlap.more) acres

-- the overlap is of these two tracts, by their records
pub record IsBetween {Acres : Type 0} (first second : ℕ) (given : TractOverlap Acres) : Type 0 where
  pub first_is : given.first ≡ first + 2
  pub second_is : given.second ≡ second + 2

-- the overlap is that of two tracts of the list
pub record IsOverlapIn {Acres : Type 0} (by : Measure Acres) (rows : List Fields)
    (given : TractOverlap Acres) : Type 0 where
  pub first : ℕ
  pub second : ℕ
  pub earlier : first < second
  pub within : second < length rows
  pub between : IsBetween first second given
  pub shared : IsSharedAcres by (record_at rows first) (record_at rows second) given.acres

-- one of the overlaps is that of these two tracts
pub record IsListed {Acres : Type 0} (first second : ℕ) (overlaps : List (TractOverlap Acres))
    : Type 0 where
  pub index : ℕ
  pub within : index < length overlaps
  pub between : (default : TractOverlap Acres)
      → IsBetween first second (slice_index_or overlaps index default)

-- overlaps are in the order of their later tracts, and then of their earlier ones
abbrev pub IsOverlapBefore : {Acres : Type 0} → TractOverlap Acres → TractOverlap Acres → Type 0
IsOverlapBefore one other =
    (one.second < other.second) ⊎ ((one.second ≡ other.second) × (one.first < other.first))

-- The overlaps are those of any two tracts of the list that overlap, once each, in their order.
pub record AreOverlaps {Acres : Type 0} (by : Measure Acres) (rows : List Fields)
    (overlaps : List (TractOverlap Acres)) : Type 0 where
  pub each : All (IsOverlapIn by rows) overlaps
  pub all : (first second : ℕ) → first < second → second < length rows
      → AreOverlapping by.lots by.township (record_at rows first) (record_at rows second)
      → IsListed first second overlaps
  pub order : (index later : ℕ) (default : TractOverlap Acres) → index < later → later < length overlaps
      → IsOverlapBefore (slice_index_or overlaps index default) (slice_index_or overlaps later default)
