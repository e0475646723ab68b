use Rattle.std.proofs.Common.{◌≡◌, ℕ, ◌<◌, drop}
use Rattle.twp_notes.specs.Records.{records_left, record_at, IsBetweenRecords}
use Rattle.twp_answers.specs.Tracts.{Overlap}
use Rattle.twp_explain.proofs.sharing.first_left.Given as goal
use Rattle.twp_grid.specs.Lands.{lotting}

-- the tracts so far don't overlap the one at the index, and the other records are left
abbrev pub invariant-records : goal.invariant-records
invariant-records g l = record {
  reading : IsBetweenRecords l.records;
  rest : records_left l.records ≡ drop l.earlier (records_left l.initial.records);
  apart : (tract : ℕ) → tract < l.earlier
      → Overlap (lotting (g.P.Lotting.layout l.lots)) l.township
      (record_at (records_left l.initial.records) tract)
      (record_at (records_left l.initial.records) l.index)
      → ⊥;
}
