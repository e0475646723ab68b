use Rattle.std.proofs.Common.{◌≡◌, ◌≤◌, length, drop}
use Rattle.twp_plat.specs.LotAreas.{HasFigures}
use Rattle.twp_notes.specs.Records.{records_left, IsBetweenRecords}
use Rattle.twp_answers.specs.EarlierTracts.{earlier_of, AreEarlier}
use Rattle.twp_answers.specs.Tracts.{TRACTS_MOST}
use Rattle.twp_answers.specs.LotAccounts.{AreFiguresByLots}
use Rattle.twp_answers.specs.steps.LotTaking.{LackNoLots}
use Rattle.twp_plat.specs.LotTables.{figure_of, lots_of}
use Rattle.twp_answers.proofs.lot_account.take_tracts.Given as goal

-- the tracts so far were added, with their figures, and the other records remain
abbrev pub invariant-records : goal.invariant-records
invariant-records g l = record {
  reading : IsBetweenRecords l.records;
  rest : records_left l.records ≡ drop l.taken (records_left l.fn.records);
  within : l.taken ≤ length (records_left l.fn.records);
  few : l.taken ≤ TRACTS_MOST;
  earlier : AreEarlier (lots_of l.lots) l.township (records_left l.fn.records) l.taken
      (earlier_of g.L.PlaceSet.places l.earlier);
  returned : HasFigures (lots_of l.lots) (figure_of l.lots) (g.L.PlaceSet.places l.earlier.land);
  lack : LackNoLots l.township l.lots (records_left l.fn.records) l.taken;
  figures : AreFiguresByLots l.township l.lots (records_left l.fn.records) l.taken l.figures.items;
}

abbrev pub decreases-records : goal.decreases-records
decreases-records g l = length (records_left l.records)
