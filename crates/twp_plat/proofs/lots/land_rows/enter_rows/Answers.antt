-- The next record is entered, or has the first fault; if none is left, all were entered.
use Rattle.std.proofs.Common.{◌≡◌, ◌+◌, refl, sym, ◌∙◌, length, subst, arith}
use Rattle.std.proofs.lemmas.Result.{err_from_is_err_and}
use Rattle.twp_notes.specs.Records.{records_left}
use Rattle.twp_notes.proofs.Taking.{next_record_is, no_record_left}
use Rattle.twp_plat.specs.steps.LandEntries.{AreLandEntered, IsLandNotEntered}
use Rattle.twp_plat.proofs.lots.LandEntering.{none_entered, entered_more, refused_next}
use Rattle.twp_plat.proofs.lots.land_rows.enter_rows.Goals as goal

pub records-init : goal.records-init
records-init c = record {
  reading = c.requires.reading;
  rest = refl;
  within = omega arith;
  entered = none_entered (records_left c.args.records.now) _ _ c.requires.clear c.requires.empty;
}

pub records-preserved : goal.records-preserved
records-preserved c =
    let rows = records_left c.args.records.now in
    let next = rw c.if-branch.true at c.in_ok-read.ensures in
    let is = next_record_is rows c.records.entered _ _ (sym c.records.invariant.rest ∙ next.0) in
    record {
      reading = next.1;
      rest = is.after;
      within = omega (arith, is.within);
      entered =
          entered_more rows c.records.entered c.records.marks.sections c.enter_row.new.marks.sections
          c.records.lots c.enter_row.new.lots c.records.invariant.entered
          (rw is.is c.in_ok-enter_row.ensures.entered);
    }

pub returns-in_err-enter_row-clause-fault : goal.returns-in_err-enter_row-clause-fault
returns-in_err-enter_row-clause-fault c =
    let rows = records_left c.args.records.now in
    let next = rw c.if-branch.true at c.in_ok-read.ensures in
    let is = next_record_is rows c.records.entered _ _ (sym c.records.invariant.rest ∙ next.0) in
    let gone =
    err_from_is_err_and c.from_residual-in_err-enter_row.result c.from_residual-in_err-enter_row.ensures.1 in
    let not_entered =
    subst (λ f. IsLandNotEntered f (c.records.entered + 3) c.records.marks.sections c.records.lots
    c.in_err-enter_row.field-0.0)
    (sym is.is) c.in_err-enter_row.ensures.fault in
    rw (gone.1, gone.2)
    (refused_next rows c.records.entered c.records.marks.sections c.records.lots _ is.within
    c.records.invariant.entered not_entered)

pub returns-clause-entered : goal.returns-clause-entered
returns-clause-entered c =
    let rows = records_left c.args.records.now in
    let none = rw c.if-branch.false at c.in_ok-read.ensures in
    let short = no_record_left rows c.records.entered (sym c.records.invariant.rest ∙ none) in
    let all : c.records.entered ≡ length rows = omega arith in
    subst (λ count. AreLandEntered rows count c.records.marks.sections c.records.lots) all
    c.records.invariant.entered

pub returns-clause-last : goal.returns-clause-last
returns-clause-last c =
    let rows = records_left c.args.records.now in
    let none = rw c.if-branch.false at c.in_ok-read.ensures in
    let short = no_record_left rows c.records.entered (sym c.records.invariant.rest ∙ none) in
    let within = c.records.invariant.within in
    omega (arith, short, within)
