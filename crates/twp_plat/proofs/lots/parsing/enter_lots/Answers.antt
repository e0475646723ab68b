-- The next record is entered, or has the first fault; if none is left, all were entered.
use Rattle.std.proofs.Common.{◌≡◌, ◌+◌, refl, sym, ◌∙◌, length, subst, arith}
use Rattle.std.proofs.lemmas.Result.{err_from_is_err_and}
use Rattle.twp_notes.specs.Records.{records_left}
use Rattle.twp_notes.proofs.Taking.{next_record_is, no_record_left}
use Rattle.twp_plat.specs.steps.LotEntries.{AreEntered, IsNotEntered}
use Rattle.twp_plat.proofs.lots.Entering.{none_entered, entered_more, refused_next}
use Rattle.twp_plat.proofs.lots.parsing.enter_lots.Goals as goal

pub records-init : goal.records-init
records-init c = record {
  reading = c.requires.reading;
  rest = refl;
  within = omega arith;
  entered = none_entered (records_left c.args.records.now);
}

pub records-preserved : goal.records-preserved
records-preserved c =
    let rows = records_left c.args.records.now in
    let next = rw c.if-branch.true at c.in_ok-read.ensures in
    let is = next_record_is rows c.records.entered _ _ (sym c.records.invariant.rest ∙ next.0) in
    record {
      reading = next.1;
      rest = is.after;
      within = omega (arith, is.within);
      entered =
          entered_more rows c.records.entered c.records.figures c.enter_lot.new.figures
          c.records.invariant.entered
          (rw is.is c.in_ok-enter_lot.ensures.entered);
    }

pub returns-in_err-enter_lot-clause-fault : goal.returns-in_err-enter_lot-clause-fault
returns-in_err-enter_lot-clause-fault c =
    let rows = records_left c.args.records.now in
    let next = rw c.if-branch.true at c.in_ok-read.ensures in
    let is = next_record_is rows c.records.entered _ _ (sym c.records.invariant.rest ∙ next.0) in
    let gone =
    err_from_is_err_and c.from_residual-in_err-enter_lot.result c.from_residual-in_err-enter_lot.ensures.1 in
    let not_entered =
    subst (λ f. IsNotEntered f c.records.figures (c.records.entered + 3) c.in_err-enter_lot.field-0.0)
    (sym is.is) c.in_err-enter_lot.ensures.fault in
    rw (gone.1, gone.2)
    (refused_next rows c.records.entered c.records.figures _ is.within c.records.invariant.entered
    not_entered)

pub returns-clause-entered : goal.returns-clause-entered
returns-clause-entered c =
    let rows = records_left c.args.records.now in
    let none = rw c.if-branch.false at c.in_ok-read.ensures in
    let short = no_record_left rows c.records.entered (sym c.records.invariant.rest ∙ none) in
    let all : c.records.entered ≡ length rows = omega arith in
    subst (λ count. AreEntered rows count c.records.figures) all c.records.invariant.entered
