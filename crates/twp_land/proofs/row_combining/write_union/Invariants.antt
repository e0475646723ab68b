use Rattle.std.proofs.Common.{◌≡◌, length}
use Rattle.twp_grid.specs.Winding.{SECTION_COUNT}
use Rattle.twp_grid.specs.Lands.{union}
use Rattle.twp_land.specs.Storage.{land_of_rows}
use Rattle.twp_land.proofs.RowLands.{places_to}
use Rattle.twp_land.proofs.row_combining.write_union.Given as goal

-- the places of the sections so far
abbrev pub invariant-loop-index : goal.invariant-loop-index
invariant-loop-index l = record {
  all : length l.made ≡ SECTION_COUNT;
  made_so_far : places_to l.index (land_of_rows l.made)
      ≡ places_to l.index (union (land_of_rows l.rows) (land_of_rows l.other));
}
