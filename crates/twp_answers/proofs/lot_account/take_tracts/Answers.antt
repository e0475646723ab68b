-- The next record's tract is added, with its figure, or has the first fault; if no record is left, all were
-- added.
use Rattle.std.proofs.Common.{◌≡◌, refl, sym, ◌∙◌, length, subst, arith}
use Rattle.std.proofs.lemmas.Result.{err_from_is_err_and}
use Rattle.twp_notes.specs.Records.{record_at, records_left}
use Rattle.twp_notes.proofs.Taking.{next_record_is, no_record_left}
use Rattle.twp_grid.specs.Lands.{no_places}
use Rattle.twp_plat.specs.LotAreas.{HasFigures}
use Rattle.twp_answers.specs.EarlierTracts.{earlier_of, AreEarlier}
use Rattle.twp_answers.proofs.EarlierFacts.{next_earlier}
use Rattle.twp_answers.proofs.TractLands.{no_land, one_land_of_tracts}
use Rattle.twp_answers.proofs.UnitedFigures.{none_lacking}
use Rattle.twp_answers.specs.LotAccounts.{AreFiguresByLots}
use Rattle.twp_answers.proofs.FirstLotTractFaults.{refused_next_by}
use Rattle.twp_answers.proofs.LotFigures.{figure_is, figures_next, figures_of_land, lack_none_next}
use Rattle.twp_answers.proofs.LotFigures.{no_figures}
use Rattle.twp_plat.specs.LotTables.{figure_of, lots_of}
use Rattle.twp_answers.proofs.lot_account.take_tracts.Goals as goal

pub records-init : goal.records-init
records-init g c =
    let rows = records_left c.args.records.now in
    let empty : g.L.PlaceSet.places c.args.earlier.now.land ≡ no_places =
    one_land_of_tracts (lots_of c.args.lots.now) c.args.township rows 0
    (g.L.PlaceSet.places c.args.earlier.now.land)
    no_places
    c.requires.empty.land (no_land (lots_of c.args.lots.now) c.args.township rows) in
    record {
      reading = c.requires.reading;
      rest = refl;
      within = omega arith;
      few = omega arith;
      earlier = c.requires.empty;
      returned =
          subst (HasFigures (lots_of c.args.lots.now) (figure_of c.args.lots.now)) (sym empty)
          (none_lacking (lots_of c.args.lots.now) (figure_of c.args.lots.now));
      lack = λ index other below. absurd (omega arith);
      figures =
          subst (AreFiguresByLots c.args.township c.args.lots.now rows 0) (sym c.new-figures.ensures.items)
          (no_figures c.args.township c.args.lots.now rows);
    }

pub figure_of-requires : goal.figure_of-requires
figure_of-requires g c = c.in_ok-area.ensures.taken.takes.reads.is_record

pub records-preserved : goal.records-preserved
records-preserved g c =
    let rows = records_left c.args.records.now in
    let next = rw c.if-branch.true at c.in_ok-read.ensures in
    let is = next_record_is rows c.records.taken _ _ (sym c.records.invariant.rest ∙ next.0) in
    let takes = rw (← is.is) at c.in_ok-area.ensures.taken in
    record {
      reading = next.1;
      rest = is.after;
      within = omega (arith, is.within);
      few = omega arith;
      earlier =
          next_earlier (lots_of c.args.lots.now) c.args.township rows c.records.taken _ _ takes.more
          c.records.invariant.earlier
          takes.takes;
      returned =
          figures_of_land c.args.township c.args.lots.now rows c.records.taken _ _ _
          c.records.invariant.earlier takes
          c.records.invariant.returned;
      lack =
          lack_none_next c.args.township c.args.lots.now rows c.records.taken _ _ _
          c.records.invariant.earlier takes
          c.records.invariant.lack;
      figures =
          rw c.in_ok-push.ensures.items
          (figures_next c.args.township c.args.lots.now rows c.records.taken _ _ c.records.invariant.figures
          (figure_is c.args.township c.args.lots.now (record_at rows c.records.taken) _ _ _ c.figure_of.result
          _ takes
          c.hundredths.ensures
          (rw is.is c.figure_of.ensures.name) c.figure_of.ensures.acres));
    }

pub returns-in_err-area-clause-fault : goal.returns-in_err-area-clause-fault
returns-in_err-area-clause-fault g c =
    let rows = records_left c.args.records.now in
    let next = rw c.if-branch.true at c.in_ok-read.ensures in
    let is = next_record_is rows c.records.taken _ _ (sym c.records.invariant.rest ∙ next.0) in
    let gone =
    err_from_is_err_and c.from_residual-in_err-area.result c.from_residual-in_err-area.ensures.1 in
    rw (gone.1, gone.2)
    (refused_next_by c.args.township c.args.lots.now rows c.records.taken _ c.records.invariant.earlier
    c.records.invariant.lack is.within (omega arith) _ (rw is.is c.in_err-area.ensures.fault))

pub returns-clause-earlier : goal.returns-clause-earlier
returns-clause-earlier g c =
    let rows = records_left c.args.records.now in
    let none = rw c.if-branch.false at c.in_ok-read.ensures in
    let short = no_record_left rows c.records.taken (sym c.records.invariant.rest ∙ none) in
    let all : c.records.taken ≡ length rows = omega arith in
    subst
    (λ count.
    AreEarlier (lots_of c.args.lots.now) c.args.township rows count
    (earlier_of g.L.PlaceSet.places c.records.earlier))
    all c.records.invariant.earlier

pub returns-clause-few : goal.returns-clause-few
returns-clause-few g c =
    let none = rw c.if-branch.false at c.in_ok-read.ensures in
    let short =
    no_record_left (records_left c.args.records.now) c.records.taken (sym c.records.invariant.rest ∙ none) in
    omega arith

pub returns-clause-figures : goal.returns-clause-figures
returns-clause-figures g c =
    let rows = records_left c.args.records.now in
    let none = rw c.if-branch.false at c.in_ok-read.ensures in
    let short = no_record_left rows c.records.taken (sym c.records.invariant.rest ∙ none) in
    let all : c.records.taken ≡ length rows = omega arith in
    subst (λ count. AreFiguresByLots c.args.township c.args.lots.now rows count c.records.figures.items) all
    c.records.invariant.figures
