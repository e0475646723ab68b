-- The next record is read; the last one of so many is the one that is sought.
use Rattle.std.proofs.Common.{sym, ap, ◌∙◌, arith}
use Rattle.twp_notes.specs.Records.{record_at, records_of}
use Rattle.twp_notes.proofs.Taking.{next_record_is, no_record_left}
use Rattle.twp_diagnose.proofs.records.Record.numbered.Goals as goal

pub records-preserved : goal.records-preserved
records-preserved c =
    let rows = records_of c.args.bytes.now in
    let next = rw c.if-not-branch.false at c.in_ok-read.ensures in
    let is = next_record_is rows c.records.passed _ _ (sym c.records.invariant.rest ∙ next.0) in
    record {
      within = omega (arith, is.within);
      reading = next.1;
      rest = is.after;
      last = λ before e. sym is.is ∙ ap (record_at rows) (omega (arith, e));
    }

pub returns-then-not-branch : goal.returns-then-not-branch
returns-then-not-branch c = λ one.
    let rows = records_of c.args.bytes.now in
    let none = rw c.if-not-branch.true at c.in_ok-read.ensures in
    let short = no_record_left rows c.records.passed (sym c.records.invariant.rest ∙ none) in
    omega (arith, short, c.records-test.true)
