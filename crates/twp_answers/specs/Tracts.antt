-- A list of tracts: the heading, and then a record for each tract, with its name and the
-- description of its land. The layout is this project's.
use Rattle.std.specs.Prelude.{◌≡◌, ◌≢◌, ◌↔◌, ℕ, ◌≤◌, ◌<◌, Bool, true}
use Rattle.std.specs.Prelude.{List, [], ◌∷◌, length, drop, codes}
use Rattle.std.specs.List.{All}
use Rattle.twp_grid.specs.Townships.{Designation}
use Rattle.twp_notes.specs.Records.{Fields, field, record_at, record_numbered, records_of}
use Rattle.twp_grid.specs.Lands.{SharePlace}
use Rattle.twp_answers.specs.Answers.{Describe}
use Rattle.twp_grid.specs.Lands.{Lotting}

-- the most bytes of a list of tracts
abbrev pub TRACTS_LIMIT : ℕ
TRACTS_LIMIT = 1048576

-- the most tracts in a list
abbrev pub TRACTS_MOST : ℕ
TRACTS_MOST = 1000

-- the most bytes of a tract's name
abbrev pub NAME_MOST : ℕ
NAME_MOST = 64

-- the first record
abbrev pub tracts_heading : Fields
tracts_heading = codes "name" ∷ codes "description" ∷ []

-- the records of tracts: all after the heading
abbrev pub tract_records : List ℕ → List Fields
tract_records bytes = drop 1 (records_of bytes)

-- a tract's name, and the description of its land
abbrev pub name_in : Fields → List ℕ
name_in fields = field fields 0

abbrev pub description_in : Fields → List ℕ
description_in fields = field fields 1

-- a byte of printable ASCII, from the space to the tilde
abbrev pub IsPrinted : ℕ → Type 0
IsPrinted byte = (0x20 ≤ byte) × (byte ≤ 0x7E)

-- a name has at least one byte and no more than the limit, and each of them is printable
pub record IsTractName (name : List ℕ) : Type 0 where
  pub some : 1 ≤ length name
  pub most : length name ≤ NAME_MOST
  pub printed : All IsPrinted name

-- the record is a name and a description
pub record IsTractRecord (fields : Fields) : Type 0 where
  pub columns : length fields ≡ 2
  pub name_is : IsTractName (name_in fields)

-- the record is a tract: its description names this land on the plat of the township
pub record IsTract (lots : Lotting) (township : Designation) (fields : Fields) : Type 0 where
  pub is_record : IsTractRecord fields
  pub places : ℕ → ℕ → ℕ → Bool
  pub land : Describe lots township (description_in fields) places

-- the land of two tracts shares a place
pub record Overlap (lots : Lotting) (township : Designation) (fields other : Fields) : Type 0 where
  pub places : ℕ → ℕ → ℕ → Bool
  pub more : ℕ → ℕ → ℕ → Bool
  pub land : Describe lots township (description_in fields) places
  pub other_land : Describe lots township (description_in other) more
  pub shared : SharePlace places more

-- The first of these records, up to this number, are tracts with different names, and no place is
-- in two of them.
pub record AreTracts (lots : Lotting) (township : Designation) (rows : List Fields) (count : ℕ) : Type 0 where
  pub each : (index : ℕ) → index < count → IsTract lots township (record_at rows index)
  pub once : (earlier index : ℕ) → earlier < index → index < count
      → name_in (record_at rows earlier) ≢ name_in (record_at rows index)
  pub apart : (earlier index : ℕ) → earlier < index → index < count
      → ¬ Overlap lots township (record_at rows earlier) (record_at rows index)

-- the bytes are a list of tracts on the plat of the township
pub record IsTractList (lots : Lotting) (township : Designation) (bytes : List ℕ) : Type 0 where
  pub size : length bytes ≤ TRACTS_LIMIT
  pub heading_is : record_numbered (records_of bytes) 1 ≡ tracts_heading
  pub few : length (tract_records bytes) ≤ TRACTS_MOST
  pub tracts : AreTracts lots township (tract_records bytes) (length (tract_records bytes))

-- the place is in one of the first tracts, up to this number
pub record IsInTract (lots : Lotting) (township : Designation) (rows : List Fields)
    (count section column row : ℕ)
    : Type 0 where
  pub index : ℕ
  pub within : index < count
  pub places : ℕ → ℕ → ℕ → Bool
  pub land : Describe lots township (description_in (record_at rows index)) places
  pub held : places section column row ≡ true

-- the set of all places in the first tracts, up to this number
abbrev pub IsLandOfTracts : Lotting → Designation → List Fields → ℕ → (ℕ → ℕ → ℕ → Bool) → Type 0
IsLandOfTracts lots township rows count places = (section column row : ℕ)
    → (places section column row ≡ true) ↔ IsInTract lots township rows count section column row
