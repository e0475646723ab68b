-- The next record is entered, or has the first fault; if none is left, all were entered.
use Rattle.std.proofs.Common.{◌≡◌, ◌+◌, sym, ◌∙◌, length, subst, arith}
use Rattle.std.proofs.lemmas.Result.{err_from_is_err_and}
use Rattle.twp_notes.specs.Records.{records_left}
use Rattle.twp_notes.specs.steps.Tables.{AreTaken}
use Rattle.twp_notes.specs.steps.LineFaults.{IsNotTaken}
use Rattle.twp_notes.proofs.Taking.{next_record_is, no_record_left, taken_more, refused_next}
use Rattle.twp_notes.proofs.parsing.take_lines.Goals as goal

pub records-preserved : goal.records-preserved
records-preserved c =
    let rows = records_left c.args.records.now in
    let next = rw c.if-branch.true at c.in_ok-read.ensures in
    let is = next_record_is rows c.records.taken _ _ (sym c.records.invariant.rest ∙ next.0) in
    record {
      reading = next.1;
      rest = is.after;
      within = omega (arith, is.within);
      taken =
          taken_more rows c.records.taken c.records.table c.take_line.new.table c.records.invariant.taken
          (rw is.is c.in_ok-take_line.ensures.taken);
    }

pub returns-in_err-take_line-clause-fault : goal.returns-in_err-take_line-clause-fault
returns-in_err-take_line-clause-fault c =
    let rows = records_left c.args.records.now in
    let next = rw c.if-branch.true at c.in_ok-read.ensures in
    let is = next_record_is rows c.records.taken _ _ (sym c.records.invariant.rest ∙ next.0) in
    let gone =
    err_from_is_err_and c.from_residual-in_err-take_line.result c.from_residual-in_err-take_line.ensures.1 in
    let not_taken =
    subst (λ f. IsNotTaken f c.records.table (c.records.taken + 3) c.in_err-take_line.field-0.0)
    (sym is.is) c.in_err-take_line.ensures.fault in
    rw (gone.1, gone.2)
    (refused_next rows c.records.taken c.records.table _ is.within c.records.invariant.taken not_taken)

pub returns-clause-taken : goal.returns-clause-taken
returns-clause-taken c =
    let rows = records_left c.args.records.now in
    let none = rw c.if-branch.false at c.in_ok-read.ensures in
    let short = no_record_left rows c.records.taken (sym c.records.invariant.rest ∙ none) in
    let all : c.records.taken ≡ length rows = omega arith in
    subst (λ count. AreTaken rows count c.records.table) all c.records.invariant.taken
