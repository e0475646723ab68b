-- The next record is the first that names the lot, or another one that doesn't.
use Rattle.std.proofs.Common.{sym, ◌∙◌, subst, arith}
use Rattle.csv.specs.Records.{fields_of}
use Rattle.twp_notes.specs.Records.{records_of}
use Rattle.twp_notes.proofs.Taking.{next_record_is}
use Rattle.twp_sentences.specs.OtherTableRecords.{NamesNumbers}
use Rattle.twp_sentences.proofs.LotRecordFacts.{none_more, numbered_next}
use Rattle.twp_sentences.proofs.lot_tables.earlier.number_of_first.Goals as goal

pub returns-then-names_lot-clause-first : goal.returns-then-names_lot-clause-first
returns-then-names_lot-clause-first c =
    let rows = records_of c.args.table.now in
    let next = rw c.if-not-branch.false at c.in_ok-read.ensures in
    let is = next_record_is rows c.records.passed _ _ (sym c.records.invariant.rest ∙ next.0) in
    record {
      from_one = omega arith;
      names =
          subst (λ fields. NamesNumbers fields c.args.lot.section c.args.lot.lot)
          (sym (numbered_next rows c.records.passed (fields_of c.read.new.row) is.is))
          (c.names_lot.ensures.0 c.if-names_lot.true);
      none_before = λ other one below.
          c.records.invariant.none_before other one (omega (arith, below));
    }

pub records-preserved : goal.records-preserved
records-preserved c =
    let rows = records_of c.args.table.now in
    let next = rw c.if-not-branch.false at c.in_ok-read.ensures in
    let is = next_record_is rows c.records.passed _ _ (sym c.records.invariant.rest ∙ next.0) in
    record {
      within = omega (arith, is.within);
      reading = next.1;
      rest = is.after;
      none_before =
          none_more rows c.records.passed (fields_of c.read.new.row) c.args.lot.section c.args.lot.lot is.is
          c.records.invariant.none_before
          (λ names. absurd (cc (c.names_lot.ensures.1 names)));
    }
