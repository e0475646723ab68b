-- How the blocks of written parts are gathered. No public contract cites this module.
use Rattle.std.specs.Prelude.{◌≡◌, ℕ, List, ◌++◌, map}
use Rattle.twp_grid.specs.Spans.{Rectangle}
use Rattle.twp_spell.specs.PartBlocks.{block_of_part}
use Rattle.twp_spell.specs.WrittenParts.{Part}

-- the blocks of the parts with this property were appended to a list
pub record AreGathered (g : ℕ) (these : List Part → Type 0) (old new : List Rectangle) : Type 0 where
  pub parts : List Part
  pub are : these parts
  pub blocks_are : new ≡ old ++ map (block_of_part g) parts
