use Rattle.std.proofs.Common.{ℕ, ◌≤◌, ◌+◌, ◌*◌}
use Rattle.twp_grid.specs.Lands.{IsWholeOrNot}
use Rattle.twp_grid.specs.Lands.{STANDARD_LOTS}
use Rattle.twp_land.specs.Storage.{land_of_rows}
use Rattle.twp_land.proofs.RelationFacts.{RelatesTo}
use Rattle.twp_land.proofs.row_comparing.compare_rows.Given as goal

-- how the sets relate in the tiers so far, which contain each lot wholly or not at all
abbrev pub invariant-loop-tier : goal.invariant-loop-tier
invariant-loop-tier l = record {
  relates : RelatesTo (6 * l.tier) l.relation (land_of_rows l.rows) (land_of_rows l.other);
  whole : (section lot : ℕ) → 1 ≤ section → section ≤ 6 * l.tier
      → IsWholeOrNot STANDARD_LOTS section lot (land_of_rows l.rows section);
  whole_other : (section lot : ℕ) → 1 ≤ section → section ≤ 6 * l.tier
      → IsWholeOrNot STANDARD_LOTS section lot (land_of_rows l.other section);
}

-- the same, with the sections of this tier so far
abbrev pub invariant-loop-place : goal.invariant-loop-place
invariant-loop-place l = record {
  relates : RelatesTo (6 * l.tier + l.place) l.relation (land_of_rows l.rows) (land_of_rows l.other);
  whole : (section lot : ℕ) → 1 ≤ section → section ≤ 6 * l.tier + l.place
      → IsWholeOrNot STANDARD_LOTS section lot (land_of_rows l.rows section);
  whole_other : (section lot : ℕ) → 1 ≤ section → section ≤ 6 * l.tier + l.place
      → IsWholeOrNot STANDARD_LOTS section lot (land_of_rows l.other section);
}
