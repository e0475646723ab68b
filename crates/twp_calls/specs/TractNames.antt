-- The names of tracts, which cross to C in an array of bytes.
use Rattle.std.specs.Prelude.{◌≡◌, ℕ, ◌<◌, ◌≤◌, List, slice_index_or}

-- how many bytes there are for a name
abbrev pub NAME_ROOM : ℕ
NAME_ROOM = 68

-- after the first bytes, this many, there is at least one more, and all others are zero
pub record IsEnded (count : ℕ) (bytes : List ℕ) : Type 0 where
  pub room : count < NAME_ROOM
  pub zeros : (place : ℕ) → count ≤ place → slice_index_or bytes place 0 ≡ 0
