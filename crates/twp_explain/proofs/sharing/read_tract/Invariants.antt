use Rattle.std.proofs.Common.{◌≡◌, drop}
use Rattle.twp_notes.specs.Records.{records_left, IsBetweenRecords}
use Rattle.twp_explain.proofs.sharing.read_tract.Given as goal

-- so many tracts were passed, and the others are left
abbrev pub invariant-records : goal.invariant-records
invariant-records l = record {
  reading : IsBetweenRecords l.records;
  rest : records_left l.records ≡ drop l.passed (records_left l.initial.records);
}
