use Rattle.std.proofs.Common.{◌≡◌, ◌-◌, drop}
use Rattle.twp_notes.specs.Records.{records_left, records_of, IsBetweenRecords}
use Rattle.twp_explain.specs.steps.ListDoubts.{AreFoundBefore}
use Rattle.twp_explain.proofs.note.doubts_of_list.Given as goal

-- the records so far were searched, and the others are left
abbrev pub invariant-records : goal.invariant-records
invariant-records l = record {
  reading : IsBetweenRecords l.records;
  rest : records_left l.records ≡ drop (l.number - 1) (records_of l.bytes);
  found : AreFoundBefore l.bytes l.number l.found;
}
