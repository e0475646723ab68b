-- How the written parts of land are listed. No public contract cites this module.
use Rattle.std.specs.Prelude.{◌≡◌, ℕ, ◌++◌, Bool, List, map}
use Rattle.std.specs.List.{AllZip}
use Rattle.twp_grid.specs.Spans.{Rectangle}
use Rattle.twp_calls.specs.LandParts.{AreSectionParts, IsLotPart, part_with}
use Rattle.twp_calls.specs.declared.land_parts.TownshipPart.{TownshipPart}

-- the parts of a section were appended to a list
pub record AddsSection (section : ℕ) (held : ℕ → ℕ → Bool) (old new : List TownshipPart) : Type 0 where
  pub parts : List TownshipPart
  pub are : AreSectionParts section held parts
  pub parts_are : new ≡ old ++ parts

-- lots of a section were appended
pub record AddsLots (section : ℕ) (lots : List ℕ) (old new : List TownshipPart) : Type 0 where
  pub parts : List TownshipPart
  pub are : AllZip (IsLotPart section) lots parts
  pub parts_are : new ≡ old ++ parts

-- blocks of a section were appended
abbrev pub AddsBlocks : ℕ → List Rectangle → List TownshipPart → List TownshipPart → Type 0
AddsBlocks section blocks old new = new ≡ old ++ map (part_with section 0) blocks
