use Rattle.std.proofs.Common.{◌≡◌, ◌++◌, List, length, min}
use Rattle.twp_notes.specs.Records.{Fields, records_of, records_left, IsBetweenRecords}
use Rattle.twp_diagnose.specs.RecordFields.{NoneNames}
use Rattle.twp_diagnose.proofs.records.Record.of_line.Given as goal

-- the records before those that are left were read, and none of them names the line
abbrev pub invariant-records : goal.invariant-records
invariant-records l = record {
  reading : IsBetweenRecords l.records;
  before : List Fields;
  split : records_of l.bytes ≡ before ++ records_left l.records;
  none_before : NoneNames l.line before;
  counted : l.number ≡ min (length before) 4294967295;
}

abbrev pub decreases-records : goal.decreases-records
decreases-records l = length (records_left l.records)
