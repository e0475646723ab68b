use Rattle.std.proofs.Common.{ℕ}
use Rattle.twp_grid.specs.Lands.{STANDARD_LOTS}
use Rattle.twp_land.specs.Storage.{held_by_section, all_if}
use Rattle.twp_resolve.proofs.ResolvingFacts.{AreTaken}
use Rattle.twp_resolve.proofs.whole.resolve_whole.Given as goal

-- the items so far were added, after which some section is the last one
abbrev pub invariant-loop-item : goal.invariant-loop-item
invariant-loop-item l = record {
  section : ℕ;
  taken : AreTaken STANDARD_LOTS l.township l.items l.item-index section
      (held_by_section all_if l.land.held);
}
