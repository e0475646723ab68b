use Rattle.std.proofs.Common.{◌≡◌, ◌≤◌, ℕ, suc, drop, length}
use Rattle.csv.specs.Records.{fields_of}
use Rattle.twp_notes.specs.Records.{records_of, records_left, record_at, IsBetweenRecords}
use Rattle.twp_diagnose.proofs.records.Record.numbered.Given as goal

-- so many records were read; the last of them is in the row, and the others are left
abbrev pub invariant-records : goal.invariant-records
invariant-records l = record {
  within : l.passed ≤ length (records_of l.bytes);
  reading : IsBetweenRecords l.records;
  rest : records_left l.records ≡ drop l.passed (records_of l.bytes);
  last : (before : ℕ) → l.passed ≡ suc before
      → fields_of l.row ≡ record_at (records_of l.bytes) before;
}
