use Rattle.std.proofs.Common.{◌≡◌, ◌≤◌, length, drop}
use Rattle.twp_notes.specs.Records.{records_left, IsBetweenRecords}
use Rattle.twp_answers.specs.EachTract.{AreAnswersTo}
use Rattle.twp_answers.specs.Tracts.{TRACTS_MOST}
use Rattle.twp_answers.specs.steps.EachTaking.{AreNamesOf}
use Rattle.twp_answers.proofs.each_tract.take_records.Given as goal

-- the records so far were answered, and the others remain
abbrev pub invariant-records : goal.invariant-records
invariant-records g l = record {
  reading : IsBetweenRecords l.records;
  rest : records_left l.records ≡ drop l.taken (records_left l.fn.records);
  within : l.taken ≤ length (records_left l.fn.records);
  few : l.taken ≤ TRACTS_MOST;
  names : AreNamesOf (records_left l.fn.records) l.taken l.names;
  answers : AreAnswersTo (g.M.Answering.answers l.by) (records_left l.fn.records) l.taken l.answers.items;
}

abbrev pub decreases-records : goal.decreases-records
decreases-records g l = length (records_left l.records)
