-- The next record's tract is added, with its figure, or has the first fault; if no record is left, all were
-- added.
use Rattle.std.proofs.Common.{◌≡◌, refl, sym, ◌∙◌, length, subst, arith}
use Rattle.std.proofs.lemmas.Grind.{common_steps}
use Rattle.std.proofs.lemmas.Result.{err_from_is_err_and}
use Rattle.twp_notes.specs.Records.{records_left}
use Rattle.twp_notes.proofs.Taking.{next_record_is, no_record_left}
use Rattle.twp_answers.specs.steps.TractTaking.{tally_of, IsTallyOf}
use Rattle.twp_answers.proofs.FigureLines.{next_line}
use Rattle.twp_answers.proofs.TallyFacts.{next_tally}
use Rattle.twp_answers.proofs.FirstTractFaults.{refused_next}
use Rattle.twp_answers.proofs.account_figures.take_figures.Goals as goal
use Rattle.twp_grid.specs.Lands.{STANDARD_LOTS}

pub records-init : goal.records-init
records-init g c = record {
  reading = c.requires.reading;
  rest = refl;
  within = omega arith;
  few = omega arith;
  tally = c.requires.empty;
  lines = grind (arith, common_steps);
  count = grind (arith, common_steps);
}

pub take-requires : goal.take-requires
take-requires g c = c.records.invariant.tally.totals_are

pub figure_of-requires : goal.figure_of-requires
figure_of-requires g c = c.in_ok-hundredths.ensures.taken.takes.reads.is_record

pub records-preserved : goal.records-preserved
records-preserved g c =
    let rows = records_left c.args.records.now in
    let next = rw c.if-branch.true at c.in_ok-read.ensures in
    let is = next_record_is rows c.records.taken _ _ (sym c.records.invariant.rest ∙ next.0) in
    record {
      reading = next.1;
      rest = is.after;
      within = omega (arith, is.within);
      few = omega arith;
      tally =
          next_tally c.args.plat.now rows c.records.taken _ _ c.records.invariant.tally
          (rw is.is c.in_ok-hundredths.ensures.taken);
      lines =
          next_line _ _ _ _ c.figure_of.result _ _ c.records.invariant.lines
          c.in_ok-hundredths.ensures.line c.in_ok-push.ensures.items c.figure_of.ensures.name
          c.figure_of.ensures.acres;
      count = grind (arith, common_steps, c.in_ok-push.ensures.items, c.records.invariant.count);
    }

pub returns-in_err-hundredths-clause-fault : goal.returns-in_err-hundredths-clause-fault
returns-in_err-hundredths-clause-fault g c =
    let rows = records_left c.args.records.now in
    let next = rw c.if-branch.true at c.in_ok-read.ensures in
    let is = next_record_is rows c.records.taken _ _ (sym c.records.invariant.rest ∙ next.0) in
    let gone =
    err_from_is_err_and c.from_residual-in_err-hundredths.result
    c.from_residual-in_err-hundredths.ensures.1 in
    rw (gone.1, gone.2)
    (refused_next STANDARD_LOTS c.args.plat.now.township rows c.records.taken _
    c.records.invariant.tally.earlier is.within
    (omega arith) _
    (rw is.is c.in_err-hundredths.ensures.fault))

pub returns-clause-taken : goal.returns-clause-taken
returns-clause-taken g c =
    let rows = records_left c.args.records.now in
    let none = rw c.if-branch.false at c.in_ok-read.ensures in
    let short = no_record_left rows c.records.taken (sym c.records.invariant.rest ∙ none) in
    let all : c.records.taken ≡ length rows = omega arith in
    subst (λ count. IsTallyOf c.args.plat.now rows count (tally_of g.L.PlaceSet.places c.records.account)) all
    c.records.invariant.tally

pub returns-clause-few : goal.returns-clause-few
returns-clause-few g c =
    let none = rw c.if-branch.false at c.in_ok-read.ensures in
    let short =
    no_record_left (records_left c.args.records.now) c.records.taken (sym c.records.invariant.rest ∙ none) in
    omega arith

pub returns-clause-count : goal.returns-clause-count
returns-clause-count g c =
    let none = rw c.if-branch.false at c.in_ok-read.ensures in
    let short =
    no_record_left (records_left c.args.records.now) c.records.taken (sym c.records.invariant.rest ∙ none) in
    omega (arith, c.records.invariant.count)
