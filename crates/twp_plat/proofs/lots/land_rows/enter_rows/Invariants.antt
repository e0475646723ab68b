use Rattle.std.proofs.Common.{◌≡◌, ◌≤◌, length, drop}
use Rattle.twp_notes.specs.Records.{records_left, IsBetweenRecords}
use Rattle.twp_plat.specs.steps.LandEntries.{AreLandEntered}
use Rattle.twp_plat.proofs.lots.land_rows.enter_rows.Given as goal

-- the records so far were entered, and the others remain
abbrev pub invariant-records : goal.invariant-records
invariant-records l = record {
  reading : IsBetweenRecords l.records;
  rest : records_left l.records ≡ drop l.entered (records_left l.fn.records);
  within : l.entered ≤ length (records_left l.fn.records);
  entered : AreLandEntered (records_left l.fn.records) l.entered l.marks.sections l.lots;
}

abbrev pub decreases-records : goal.decreases-records
decreases-records l = length (records_left l.records)
