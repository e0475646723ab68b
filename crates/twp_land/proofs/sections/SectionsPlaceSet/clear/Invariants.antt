use Rattle.std.proofs.Common.{◌≡◌, ◌+◌, length}
use Rattle.twp_grid.specs.Winding.{SECTION_COUNT}
use Rattle.twp_grid.specs.Lands.{LieWithin}
use Rattle.twp_land.specs.Storage.{held_by_section}
use Rattle.twp_land.proofs.sections.SectionsPlaceSet.clear.Given as goal

-- the remaining places lie in the sections from here on
abbrev pub invariant-loop-index : goal.invariant-loop-index
invariant-loop-index g l = record {
  all : length l.self.plots ≡ SECTION_COUNT;
  reach : l.self.reach ≡ l.initial.self.reach;
  left : LieWithin (held_by_section g.P.Plot.held l.self.plots) (l.index + 1) l.initial.self.reach.end;
}
