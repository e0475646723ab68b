use Rattle.std.proofs.Common.{◌≡◌, ◌≤◌, length, drop}
use Rattle.twp_notes.specs.Records.{records_left, IsBetweenRecords}
use Rattle.twp_read.specs.declared.doubt.Clarity.TheVariants.{Clear}
use Rattle.twp_answers.specs.ClearTracts.{AreClearTracts}
use Rattle.twp_answers.specs.Tracts.{TRACTS_MOST}
use Rattle.twp_answers.specs.steps.TractTaking.{tally_of, IsTallyOf}
use Rattle.twp_answers.proofs.tracts.take_tracts.Given as goal

-- the tracts so far were added, and the other records remain
abbrev pub invariant-records : goal.invariant-records
invariant-records g l = record {
  reading : IsBetweenRecords l.records;
  rest : records_left l.records ≡ drop l.taken (records_left l.fn.records);
  within : l.taken ≤ length (records_left l.fn.records);
  few : l.taken ≤ TRACTS_MOST;
  tally : IsTallyOf l.plat (records_left l.fn.records) l.taken (tally_of g.L.PlaceSet.places l.account);
  clear : l.account.tracts.clarity ≡ Clear → AreClearTracts (records_left l.fn.records) l.taken;
}

abbrev pub decreases-records : goal.decreases-records
decreases-records g l = length (records_left l.records)
