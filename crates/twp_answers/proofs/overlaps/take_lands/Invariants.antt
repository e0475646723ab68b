use Rattle.std.proofs.Common.{◌≡◌, ◌≤◌, length, drop}
use Rattle.twp_notes.specs.Records.{records_left, IsBetweenRecords}
use Rattle.twp_answers.specs.Tracts.{TRACTS_MOST}
use Rattle.twp_answers.specs.steps.OverlapTaking.{AreLandsTo}
use Rattle.twp_answers.proofs.overlaps.take_lands.Given as goal

-- the lands so far were found, and the other records remain
abbrev pub invariant-records : goal.invariant-records
invariant-records g l = record {
  reading : IsBetweenRecords l.records;
  rest : records_left l.records ≡ drop l.taken (records_left l.fn.records);
  within : l.taken ≤ length (records_left l.fn.records);
  few : l.taken ≤ TRACTS_MOST;
  lands : AreLandsTo g.L.PlaceSet.places (g.M.Measuring.measure l.by).lots
      (g.M.Measuring.measure l.by).township (records_left l.fn.records) l.taken l.lands.items;
}

abbrev pub decreases-records : goal.decreases-records
decreases-records g l = length (records_left l.records)
