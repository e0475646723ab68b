-- The result of a search.
use Rattle.std.specs.Prelude.{◌≡◌, Option, Some, None}

-- the only value for which the fact holds, or None exactly if there is no such value
abbrev pub Finds : {T : Type 0} → Option T → (T → Type 0) → Type 0
Finds None holds = (value : _) → holds value → ⊥
Finds (Some found) holds = holds found × ((value : _) → holds value → value ≡ found)
