-- How the overlaps of a list are found, pair by pair. No public contract cites this module.
use Rattle.std.specs.Prelude.{◌≡◌, ◌⊎◌, ℕ, ◌+◌, ◌<◌, List, length, slice_index_or, Option, Some, None, Bool}
use Rattle.std.specs.Prelude.{⊤, [], ◌∷◌, ◌++◌}
use Rattle.std.specs.List.{All}
use Rattle.twp_grid.specs.Townships.{Designation}
use Rattle.twp_grid.specs.Lands.{HasWholeLots, Lotting, SharePlace, intersection}
use Rattle.twp_notes.specs.Records.{Fields, record_at}
use Rattle.twp_answers.specs.Answers.{Describe}
use Rattle.twp_answers.specs.Overlaps.{AreOverlapping, IsOverlapBefore, IsBetween, IsListed, IsSharedAcres}
use Rattle.twp_answers.specs.Overlaps.{Measure}
use Rattle.twp_answers.specs.Tracts.{IsTract, IsTractRecord, description_in}
use Rattle.twp_answers.specs.declared.overlaps.TractOverlap.{TractOverlap}

-- the record is a tract, whose land is this
pub record IsTractLand (lots : Lotting) (township : Designation) (fields : Fields)
    (places : ℕ → ℕ → ℕ → Bool) : Type 0 where
  pub is_record : IsTractRecord fields
  pub land : Describe lots township (description_in fields) places
  pub whole : HasWholeLots lots places

-- the record is a tract with this land, or no tract
abbrev pub IsLandOfRecord : {L : Type 0} → (L → ℕ → ℕ → ℕ → Bool) → Lotting → Designation → Fields → Option L
    → Type 0
IsLandOfRecord places lots township fields (Some land) = IsTractLand lots township fields (places land)
IsLandOfRecord places lots township fields None = ¬ IsTract lots township fields

-- these are the lands of the first records, up to this number
pub record AreLandsTo {L : Type 0} (places : L → ℕ → ℕ → ℕ → Bool) (lots : Lotting) (township : Designation)
    (rows : List Fields)
    (count : ℕ) (lands : List (Option L)) : Type 0 where
  pub count_is : length lands ≡ count
  pub each : (index : ℕ) (default : Option L) → index < count
      → IsLandOfRecord places lots township (record_at rows index) (slice_index_or lands index default)

-- the land, if there is one, has whole lots
abbrev pub HasWholeLand : {L : Type 0} → Lotting → (L → ℕ → ℕ → ℕ → Bool) → Option L → Type 0
HasWholeLand lots places (Some land) = HasWholeLots lots (places land)
HasWholeLand lots places None = ⊤

-- two sets share a place, and these are the acres of the places in both
pub record HasSharedPlaces {Acres : Type 0} (by : Measure Acres) (places more : ℕ → ℕ → ℕ → Bool)
    (acres : Acres) : Type 0 where
  pub shared : SharePlace places more
  pub acres_are : by.are_acres (intersection places more) acres

-- the overlap of the tracts at these indexes
abbrev pub overlap_of : {Acres : Type 0} → ℕ → ℕ → Acres → TractOverlap Acres
overlap_of first second acres = record { first = first + 2; second = second + 2; acres = acres }

-- the overlap of these two tracts was added, if they overlap
abbrev pub NotesOverlap : {Acres : Type 0} → ℕ → ℕ → Option Acres → List (TractOverlap Acres)
    → List (TractOverlap Acres) → Type 0
NotesOverlap first second (Some acres) old new = new ≡ old ++ overlap_of first second acres ∷ []
NotesOverlap first second None old new = new ≡ old

-- the pair is compared before that of these two tracts
abbrev pub IsEarlier : ℕ → ℕ → ℕ → ℕ → Type 0
IsEarlier first second until_first until_second =
    (second < until_second) ⊎ ((second ≡ until_second) × (first < until_first))

-- the overlap is that of two tracts that were compared before these two
pub record IsFoundBefore {Acres : Type 0} (by : Measure Acres) (rows : List Fields)
    (until_first until_second : ℕ) (given : TractOverlap Acres) : Type 0 where
  pub first : ℕ
  pub second : ℕ
  pub order : first < second
  pub earlier : IsEarlier first second until_first until_second
  pub between : IsBetween first second given
  pub shared : IsSharedAcres by (record_at rows first) (record_at rows second) given.acres

-- the overlaps are those of all pairs before that of these two tracts
pub record AreFoundTo {Acres : Type 0} (by : Measure Acres) (rows : List Fields)
    (until_first until_second : ℕ) (overlaps : List (TractOverlap Acres)) : Type 0 where
  pub each : All (IsFoundBefore by rows until_first until_second) overlaps
  pub all : (first second : ℕ) → first < second → IsEarlier first second until_first until_second
      → AreOverlapping by.lots by.township (record_at rows first) (record_at rows second)
      → IsListed first second overlaps
  pub order : (index later : ℕ) (default : TractOverlap Acres) → index < later → later < length overlaps
      → IsOverlapBefore (slice_index_or overlaps index default) (slice_index_or overlaps later default)
