use Rattle.std.proofs.Common.{◌≡◌, ◌≤◌, length, drop}
use Rattle.std.specs.List.{flat_map}
use Rattle.twp_notes.specs.Records.{records_left, IsBetweenRecords}
use Rattle.twp_answers.specs.AccountFigures.{line_of}
use Rattle.twp_answers.specs.Tracts.{TRACTS_MOST}
use Rattle.twp_answers.specs.steps.TractTaking.{tally_of, IsTallyOf}
use Rattle.twp_answers.proofs.account_figures.take_figures.Given as goal

-- the tracts so far were added, with their figures, and the other records remain
abbrev pub invariant-records : goal.invariant-records
invariant-records g l = record {
  reading : IsBetweenRecords l.records;
  rest : records_left l.records ≡ drop l.taken (records_left l.fn.records);
  within : l.taken ≤ length (records_left l.fn.records);
  few : l.taken ≤ TRACTS_MOST;
  tally : IsTallyOf l.plat (records_left l.fn.records) l.taken (tally_of g.L.PlaceSet.places l.account);
  lines : l.account.text.items ≡ flat_map line_of l.figures.items;
  count : length l.figures.items ≡ l.taken;
}

abbrev pub decreases-records : goal.decreases-records
decreases-records g l = length (records_left l.records)
