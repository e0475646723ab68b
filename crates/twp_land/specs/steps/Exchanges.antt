-- A set of places, one of whose parts is exchanged.
use Rattle.std.specs.Prelude.{◌==◌, ℕ, Bool, if◌then◌else◌}

-- the set with the part in one section replaced
abbrev pub exchanged : (ℕ → ℕ → ℕ → Bool) → ℕ → (ℕ → ℕ → Bool) → ℕ → ℕ → ℕ → Bool
exchanged places section held other column row =
    if section == other then held column row else places other column row
