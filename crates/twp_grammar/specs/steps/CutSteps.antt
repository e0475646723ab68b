-- How the steps of an aliquot part are taken, one after another, from the last to the first. No public
-- contract cites this module.
use Rattle.std.specs.Prelude.{◌≡◌, ℕ, List, drop}
use Rattle.twp_grid.specs.Blocks.{CanHalve, CanQuarter}
use Rattle.twp_grid.specs.Cuts.{Cut, AreWithin, reached}
use Rattle.twp_grid.specs.Cuts.Cut.{half, quarter}
use Rattle.twp_grid.specs.Spans.{Rectangle}
use Rattle.twp_grammar.specs.declared.item.Step.{Step}
use Rattle.twp_grammar.specs.ItemPlaces.{cuts_of}

-- the block is large enough for the cut
abbrev pub CanCut : Rectangle → Cut → Type 0
CanCut block (half side) = CanHalve block side
CanCut block (quarter corner) = CanQuarter block

-- the block that steps reach, from the last to the one at an index
pub record IsCutTo (g : ℕ) (steps : List Step) (index : ℕ) (block : Rectangle) : Type 0 where
  pub within : AreWithin g (cuts_of (drop index steps))
  pub block_is : block ≡ reached g (cuts_of (drop index steps))
