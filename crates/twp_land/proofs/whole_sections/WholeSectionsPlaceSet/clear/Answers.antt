use Rattle.std.proofs.Common.{false, refl, arith}
use Rattle.twp_grid.specs.Winding.{SECTION_COUNT}
use Rattle.twp_land.specs.Storage.{all_if}
use Rattle.twp_land.proofs.LandFacts.{held_nowhere}
use Rattle.twp_land.proofs.LandRanges.{nothing_within}
use Rattle.twp_land.proofs.whole_sections.WholeSectionsPlaceSet.clear.Goals as goal

pub invariant_of-self : goal.invariant_of-self
invariant_of-self c = record {
  few = omega arith;
  within = nothing_within _ _ _ (held_nowhere all_if false SECTION_COUNT refl);
}

pub returns : goal.returns
returns c = held_nowhere all_if false SECTION_COUNT refl
