-- One more record was searched, or all were.
use Rattle.std.proofs.Common.{◌-◌, drop, sym, ap, ◌∙◌, arith}
use Rattle.twp_notes.specs.Records.{records_of}
use Rattle.twp_notes.proofs.Taking.{next_record_is, no_record_left}
use Rattle.twp_answers.specs.Tracts.{description_in}
use Rattle.twp_explain.proofs.NoteFacts.{found_all, takes_more}
use Rattle.twp_explain.proofs.note.doubts_of_list.Goals as goal

pub returns-then-not-branch : goal.returns-then-not-branch
returns-then-not-branch c =
    let rows = records_of c.args.bytes.now in
    let none = rw c.if-not-branch.true at c.in_ok-read.ensures in
    let short =
    no_record_left rows (c.records.number - 1) (sym c.records.invariant.rest ∙ none) in
    found_all c.args.bytes.now c.records.number c.records.found
    (omega (arith, short, c.records.auto.number)) c.records.invariant.found

pub records-preserved : goal.records-preserved
records-preserved c =
    let rows = records_of c.args.bytes.now in
    let next = rw c.if-not-branch.false at c.in_ok-read.ensures in
    let is =
    next_record_is rows (c.records.number - 1) _ _ (sym c.records.invariant.rest ∙ next.0) in
    record {
      reading = next.1;
      rest = is.after ∙ ap (λ n. drop n rows) (omega (arith, c.records.auto.number));
      found =
          takes_more c.args.bytes.now c.text_in.result.now c.records.number c.records.found _
          c.records.auto.number (omega (arith, is.within, c.records.auto.number))
          (c.text_in.ensures ∙ sym (ap description_in is.is)) c.records.invariant.found
          c.in_ok-found.ensures;
    }
