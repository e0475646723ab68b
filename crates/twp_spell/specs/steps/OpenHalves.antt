-- The halves of a square that may have land. No public contract cites this module.
use Rattle.std.specs.Prelude.{◌≡◌, ◌&&◌, ℕ, Bool, true, false, List}
use Rattle.twp_grid.specs.declared.block.Side.{Side}
use Rattle.twp_grid.specs.declared.block.Side.TheVariants.{N, S, E, W}
use Rattle.twp_grid.specs.declared.block.Corner.{Corner}
use Rattle.twp_grid.specs.declared.block.Corner.TheVariants.{NE, NW, SW, SE}
use Rattle.twp_spell.specs.declared.open_halves.OpenHalves.{OpenHalves}
use Rattle.twp_spell.specs.WrittenParts.{IsInPart}
use Rattle.twp_spell.specs.WrittenParts.Part.{half_of_square}

-- whether the half toward this side may have land
abbrev pub open_toward : OpenHalves → Side → Bool
open_toward halves N = halves.north
open_toward halves S = halves.south
open_toward halves E = halves.east
open_toward halves W = halves.west

-- whether both halves that contain the quarter at this corner may have land
abbrev pub open_at : OpenHalves → Corner → Bool
open_at halves NE = halves.north && halves.east
open_at halves NW = halves.north && halves.west
open_at halves SW = halves.south && halves.west
open_at halves SE = halves.south && halves.east

-- the half of the square toward this side has no land
abbrev pub IsHalfEmpty : ℕ → (ℕ → ℕ → Bool) → List Corner → Side → Type 0
IsHalfEmpty g held quarters side = (column row : ℕ) → IsInPart g (half_of_square side quarters) column row
    → ¬ (held column row ≡ true)

-- each half that is not marked as open has no land
abbrev pub AreOpen : ℕ → (ℕ → ℕ → Bool) → List Corner → OpenHalves → Type 0
AreOpen g held quarters halves =
    (side : Side) → open_toward halves side ≡ false → IsHalfEmpty g held quarters side
