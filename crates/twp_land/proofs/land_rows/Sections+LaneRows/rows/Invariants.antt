use Rattle.std.proofs.Common.{◌≡◌, ◌-◌, ◌≤◌, length}
use Rattle.twp_grid.specs.Winding.{SECTION_COUNT}
use Rattle.twp_land.specs.Storage.{held_by_section, held_by_lane, land_of_rows}
use Rattle.twp_land.proofs.RowLands.{places_to}
use Rattle.twp_land.proofs.land_rows.Sections+LaneRows.rows.Given as goal

-- the rows of the sections so far
abbrev pub invariant-loop-number : goal.invariant-loop-number
invariant-loop-number l = record {
  all : length l.rows ≡ SECTION_COUNT;
  alike : places_to (l.number - 1) (land_of_rows l.rows)
      ≡ places_to (l.number - 1) (held_by_section (λ plot. held_by_lane plot.lanes) l.self.plots);
  first : 1 ≤ l.number;
}
