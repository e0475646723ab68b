use Rattle.std.proofs.Common.{◌≡◌, length}
use Rattle.twp_grid.specs.Winding.{SECTION_COUNT}
use Rattle.twp_land.specs.Storage.{held_by_section}
use Rattle.twp_land.proofs.CommonLands.{common_to}
use Rattle.twp_land.proofs.sections.SectionsLand.keep_common.Given as goal

abbrev pub invariant-loop-index : goal.invariant-loop-index
invariant-loop-index g l = record {
  all : length l.self.plots ≡ SECTION_COUNT;
  reach : l.self.reach ≡ l.initial.self.reach;
  common : held_by_section g.P.Plot.held l.self.plots
      ≡ common_to l.index (held_by_section g.P.Plot.held l.initial.self.plots)
      (held_by_section g.P.Plot.held l.other.plots);
}
