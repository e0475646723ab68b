use Rattle.std.proofs.Common.{◌≡◌, ◌≤◌, length, drop}
use Rattle.twp_notes.specs.Records.{records_left, IsBetweenRecords}
use Rattle.twp_plat.specs.steps.LotEntries.{AreEntered}
use Rattle.twp_plat.proofs.lots.parsing.enter_lots.Given as goal

-- the records so far were entered, and the others remain
abbrev pub invariant-records : goal.invariant-records
invariant-records l = record {
  reading : IsBetweenRecords l.records;
  rest : records_left l.records ≡ drop l.entered (records_left l.fn.records);
  within : l.entered ≤ length (records_left l.fn.records);
  entered : AreEntered (records_left l.fn.records) l.entered l.figures;
}

abbrev pub decreases-records : goal.decreases-records
decreases-records l = length (records_left l.records)
