-- The copy of the bytes that a source has given.
use Rattle.std.specs.Prelude.{◌≡◌, ℕ, List, ◌++◌, Option, Some, None, option_map, ⊤}
use Rattle.twp_program.specs.declared.files.Kept.{Kept}

-- the source whose bytes are kept
abbrev pub inner_source : {S : Type 0} → Kept S → S
inner_source kept = kept.source

-- the copy, unless memory for it ran out
abbrev pub copy_of : {S : Type 0} → Kept S → Option (List ℕ)
copy_of kept = option_map (λ copy. copy.items) kept.copy

-- a copy grows by exactly these bytes, or is dropped and stays so
abbrev pub GrowsOrIsLost : Option (List ℕ) → Option (List ℕ) → List ℕ → Type 0
GrowsOrIsLost old None bytes = ⊤
GrowsOrIsLost None (Some new) bytes = ⊥
GrowsOrIsLost (Some old) (Some new) bytes = new ≡ old ++ bytes
