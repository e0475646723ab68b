use Rattle.std.proofs.Common.{◌≡◌, length}
use Rattle.twp_grid.specs.Winding.{SECTION_COUNT}
use Rattle.twp_land.specs.Storage.{held_by_section}
use Rattle.twp_land.proofs.TakenLands.{taken_to}
use Rattle.twp_land.proofs.sections.SectionsLand.take_away.Given as goal

abbrev pub invariant-loop-index : goal.invariant-loop-index
invariant-loop-index g l = record {
  all : length l.self.plots ≡ SECTION_COUNT;
  reach : l.self.reach ≡ l.initial.self.reach;
  taken : held_by_section g.P.Plot.held l.self.plots
      ≡ taken_to l.index (held_by_section g.P.Plot.held l.initial.self.plots)
      (held_by_section g.P.Plot.held l.other.plots);
}
