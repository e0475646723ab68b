-- The written parts of the land in a section as blocks.
use Rattle.std.specs.Prelude.{◌≡◌, ℕ, Bool, List, map}
use Rattle.twp_grid.specs.Cuts.{reached}
use Rattle.twp_grid.specs.Spans.{Rectangle}
use Rattle.twp_grammar.specs.ItemPlaces.{cuts_of}
use Rattle.twp_spell.specs.WrittenParts.{Part, steps_of_part, AreWrittenParts}

-- the block that a part's steps reach
abbrev pub block_of_part : ℕ → Part → Rectangle
block_of_part g part = reached g (cuts_of (steps_of_part part))

-- the blocks of the written parts, in their order
pub record AreWrittenBlocks (g : ℕ) (held : ℕ → ℕ → Bool) (blocks : List Rectangle) : Type 0 where
  pub parts : List Part
  pub are : AreWrittenParts g held parts
  pub blocks_are : blocks ≡ map (block_of_part g) parts
