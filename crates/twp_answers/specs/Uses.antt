-- How a call uses its devices, and what it reads.
use Rattle.std.specs.Prelude.{ℕ, List, Option, Bool}
use Rattle.twp_grid.specs.Devices.{Tells}

-- These are the bytes that a source had to give: the known ones, if they are known.
pub record Reads (told : Option (List ℕ)) (Holds : List ℕ → Type 0) : Type 0 where
  pub bytes : List ℕ
  pub tells : Tells told bytes
  pub holds : Holds bytes

-- How a call used a device: the known bytes before the call and after it, which are those left in a
-- source and those taken by a sink, and whether it has failed.
pub record Use : Type 0 where
  pub old : Option (List ℕ)
  pub new : Option (List ℕ)
  pub has_failed : Bool

-- a device that was used like this
abbrev pub used : Option (List ℕ) → Option (List ℕ) → Bool → Use
used old new has_failed = record { old = old; new = new; has_failed = has_failed }
