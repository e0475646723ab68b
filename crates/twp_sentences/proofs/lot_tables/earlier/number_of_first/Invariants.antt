use Rattle.std.proofs.Common.{◌≡◌, ◌≤◌, ℕ, drop, length}
use Rattle.twp_notes.specs.Records.{records_of, records_left, record_numbered, IsBetweenRecords}
use Rattle.twp_sentences.specs.OtherTableRecords.{NamesNumbers}
use Rattle.twp_sentences.proofs.lot_tables.earlier.number_of_first.Given as goal

-- so many records were read, none of which names the lot, and the others are left
abbrev pub invariant-records : goal.invariant-records
invariant-records l = record {
  within : l.passed ≤ length (records_of l.table);
  reading : IsBetweenRecords l.records;
  rest : records_left l.records ≡ drop l.passed (records_of l.table);
  none_before : (other : ℕ) → 1 ≤ other → other ≤ l.passed
      → ¬ NamesNumbers (record_numbered (records_of l.table) other) l.lot.section l.lot.lot;
}
