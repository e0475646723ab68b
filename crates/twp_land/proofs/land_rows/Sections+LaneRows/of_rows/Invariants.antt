use Rattle.std.proofs.Common.{◌≡◌, ◌-◌, ◌≤◌}
use Rattle.twp_land.specs.Storage.{held_by_section, held_by_lane, land_of_rows}
use Rattle.twp_land.proofs.RowLands.{places_to}
use Rattle.twp_land.proofs.land_rows.Sections+LaneRows.of_rows.Given as goal

-- the places of the sections so far
abbrev pub invariant-loop-number : goal.invariant-loop-number
invariant-loop-number l = record {
  stored : held_by_section (λ plot. held_by_lane plot.lanes) l.land.plots
      ≡ places_to (l.number - 1) (land_of_rows l.rows);
  first : 1 ≤ l.number;
}
