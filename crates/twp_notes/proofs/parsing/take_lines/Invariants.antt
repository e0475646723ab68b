use Rattle.std.proofs.Common.{◌≡◌, ◌≤◌, length, drop}
use Rattle.twp_notes.specs.Records.{records_left, IsBetweenRecords}
use Rattle.twp_notes.specs.steps.Tables.{AreTaken}
use Rattle.twp_notes.proofs.parsing.take_lines.Given as goal

-- the records so far were entered, and the others remain
abbrev pub invariant-records : goal.invariant-records
invariant-records l = record {
  reading : IsBetweenRecords l.records;
  rest : records_left l.records ≡ drop l.taken (records_left l.fn.records);
  within : l.taken ≤ length (records_left l.fn.records);
  taken : AreTaken (records_left l.fn.records) l.taken l.table;
}

abbrev pub decreases-records : goal.decreases-records
decreases-records l = length (records_left l.records)
