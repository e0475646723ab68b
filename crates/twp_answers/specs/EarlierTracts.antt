-- The tracts of a list so far, and how the next one is checked against them, for callers that measure the
-- land of each tract.
use Rattle.std.specs.Prelude.{◌≡◌, ℕ, ◌<◌, ◌||◌, Bool, true, false, List, ⊤}
use Rattle.std.specs.Str.{bytes_eq}
use Rattle.twp_grid.specs.Townships.{Designation}
use Rattle.twp_grid.specs.Lands.{union, HasWholeLots, SharePlace}
use Rattle.twp_grid.specs.Lands.{Lotting}
use Rattle.twp_notes.specs.Records.{Fields, record_at}
use Rattle.twp_answers.specs.Answers.{Describe, IsNoDescription}
use Rattle.twp_answers.specs.Names.{has_name}
use Rattle.twp_answers.specs.Tracts.{name_in, description_in, IsTractRecord, AreTracts, IsLandOfTracts}
use Rattle.twp_answers.specs.declared.earlier_tracts.EarlierTracts.{EarlierTracts}
use Rattle.twp_answers.specs.declared.names.NamesSoFar.{NamesSoFar}
use Rattle.twp_answers.specs.declared.tract_fault.TractFault.{TractFault}
use Rattle.twp_answers.specs.declared.tract_fault.TractFault.TheVariants as fault

-- the tracts so far: their names, and all their places
pub record TractsSoFar : Type 0 where
  pub names : NamesSoFar
  pub places : ℕ → ℕ → ℕ → Bool

-- these parts of the tracts so far, given the places of their land
abbrev pub earlier_of : {L : Type 0} → (L → ℕ → ℕ → ℕ → Bool) → EarlierTracts L → TractsSoFar
earlier_of places tracts = record { names = tracts.names; places = places tracts.land }

-- these are the names and the places of the first records, up to this number, which are tracts
pub record AreEarlier (lots : Lotting) (township : Designation) (rows : List Fields) (count : ℕ)
    (earlier : TractsSoFar)
    : Type 0 where
  pub tracts : AreTracts lots township rows count
  pub named : (index : ℕ) → index < count
      → has_name earlier.names (name_in (record_at rows index)) ≡ true
  pub names : (name : List ℕ) → has_name earlier.names name ≡ true
      → (index : ℕ) × (index < count) × (name_in (record_at rows index) ≡ name)
  pub land : IsLandOfTracts lots township rows count earlier.places
  pub whole : HasWholeLots lots earlier.places

-- The record is a tract's with a new name, which was added, and its description names this land.
pub record ReadsTract (lots : Lotting) (township : Designation) (fields : Fields) (old new : TractsSoFar)
    (more : ℕ → ℕ → ℕ → Bool) : Type 0 where
  pub is_record : IsTractRecord fields
  pub is_new : has_name old.names (name_in fields) ≡ false
  pub names_are : (other : List ℕ)
      → has_name new.names other ≡ (bytes_eq (name_in fields) other || has_name old.names other)
  pub places_are : new.places ≡ old.places
  pub land : Describe lots township (description_in fields) more
  pub whole : HasWholeLots lots more

-- this land, which shares no place with the tracts so far, was added
pub record AddsTract (old new : TractsSoFar) (more : ℕ → ℕ → ℕ → Bool) : Type 0 where
  pub names_are : new.names ≡ old.names
  pub apart : ¬ SharePlace old.places more
  pub places_are : new.places ≡ union old.places more

-- the tracts so far grew by the tract of the record, which has this land
pub record TakesLand (lots : Lotting) (township : Designation) (fields : Fields) (old new : TractsSoFar)
    (more : ℕ → ℕ → ℕ → Bool) : Type 0 where
  pub read : TractsSoFar
  pub reads : ReadsTract lots township fields old read more
  pub adds : AddsTract read new more

-- the record's land contains a place of the tracts so far
pub record OverlapsEarlierLand (lots : Lotting) (township : Designation) (fields : Fields)
    (earlier : TractsSoFar)
    : Type 0 where
  pub more : ℕ → ℕ → ℕ → Bool
  pub land : Describe lots township (description_in fields) more
  pub shared : SharePlace earlier.places more

-- the record is a tract's, with a name that no tract so far has
abbrev pub IsNamedAnew : Fields → TractsSoFar → Type 0
IsNamedAnew fields earlier =
    IsTractRecord fields × (has_name earlier.names (name_in fields) ≡ false)

-- the numbered record is no tract: this is why, and no earlier reason applies
abbrev pub IsUnread : Lotting → Designation → Fields → TractsSoFar → ℕ → TractFault → Type 0
IsUnread lots township fields earlier number (fault.TractRow at_) =
    (at_ ≡ number) × ¬ IsTractRecord fields
IsUnread lots township fields earlier number (fault.NameRepeated at_) =
    (at_ ≡ number) × IsTractRecord fields × (has_name earlier.names (name_in fields) ≡ true)
IsUnread lots township fields earlier number (fault.TractRefused at_ inner) =
    (at_ ≡ number) × IsNamedAnew fields earlier
    × IsNoDescription lots township (description_in fields) inner
IsUnread lots township fields earlier number fault.Memory = ⊤
IsUnread lots township fields earlier number other = ⊥

-- it is no tract, or one that overlaps a tract so far
abbrev pub IsTractRefused : Lotting → Designation → Fields → TractsSoFar → ℕ → TractFault → Type 0
IsTractRefused lots township fields earlier number (fault.TractsOverlap at_) =
    (at_ ≡ number) × IsNamedAnew fields earlier × OverlapsEarlierLand lots township fields earlier
IsTractRefused lots township fields earlier number other = IsUnread lots township fields earlier number other
