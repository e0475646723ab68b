-- The marks of a divided position, up to a place, or of half of it.
use Rattle.std.specs.Prelude.{◌≡◌, ℕ, ◌+◌, ◌-◌, ◌%◌, ◌≤◌, ◌<◌, ◌&&◌, Bool, true, List, get_or, map, min}
use Rattle.std.specs.Prelude.{nat_le, nat_lt}
use Rattle.twp_land.specs.declared.lot_map.bytes.Columns.{Columns}
use Rattle.twp_land.specs.declared.lot_map.bytes.Columns.TheVariants.{All, East, West}
use Rattle.twp_land.specs.LotMaps.{NO_LAND, mark_of}

-- the mark of a place, by the index of its byte
abbrev pub mark_at : List ℕ → ℕ → ℕ
mark_at divided index = min (get_or divided index NO_LAND) NO_LAND

-- each mark is from a least to a greatest
abbrev pub AreAll : List ℕ → ℕ → ℕ → ℕ → ℕ → Type 0
AreAll divided first count least most = (within : ℕ) → within < count
    → (least ≤ mark_at divided (first + within)) × (mark_at divided (first + within) ≤ most)

-- no mark is from a least to a greatest
abbrev pub AreNone : List ℕ → ℕ → ℕ → ℕ → ℕ → Type 0
AreNone divided first count least most = (within : ℕ) → within < count
    → least ≤ mark_at divided (first + within) → ¬ (mark_at divided (first + within) ≤ most)

-- this is the lowest mark that is greater than a number, or that of places without land if none is lower
pub record IsLowest (divided : List ℕ) (first count after lowest : ℕ) : Type 0 where
  pub more : after < lowest
  pub most : lowest ≤ NO_LAND
  pub is : lowest < NO_LAND → (within : ℕ) × (within < count) × (mark_at divided (first + within) ≡ lowest)
  pub least : (within : ℕ) → within < count → after < mark_at divided (first + within)
      → lowest ≤ mark_at divided (first + within)

-- the same for the places of a section that are numbered below an end
pub record IsLowestBelow (positions divided : List ℕ) (section after end lowest : ℕ) : Type 0 where
  pub more : after < lowest
  pub most : lowest ≤ NO_LAND
  pub is : lowest < NO_LAND
      → (number : ℕ) × (number < end) × (mark_of positions divided section number ≡ lowest)
  pub least : (number : ℕ) → number < end → after < mark_of positions divided section number
      → lowest ≤ mark_of positions divided section number

-- bytes less a number, as a byte is that wraps around
abbrev pub bytes_less : ℕ → List ℕ → List ℕ
bytes_less least bytes = map (λ byte. (byte + (256 - least)) % 256) bytes

-- the columns of half a position include that of a place, which is numbered within the half
abbrev pub in_columns : Columns → ℕ → Bool
in_columns All within = true
in_columns East within = nat_lt (within % 8) 4
in_columns West within = nat_le 4 (within % 8)

-- the first of them, in the east, and how many there are
abbrev pub first_column : Columns → ℕ
first_column All = 0
first_column East = 0
first_column West = 4

abbrev pub column_count : Columns → ℕ
column_count All = 8
column_count East = 4
column_count West = 4

-- of half a divided position, the marks in these columns are from a least to a greatest, and no others
abbrev pub AreColumns : List ℕ → ℕ → ℕ → ℕ → Columns → Type 0
AreColumns divided first least most columns = (within : ℕ) → within < 32
    → (nat_le least (mark_at divided (first + within)) && nat_le (mark_at divided (first + within)) most)
    ≡ in_columns columns within
