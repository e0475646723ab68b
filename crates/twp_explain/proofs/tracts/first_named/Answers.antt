-- The next record has the name, or another one.
use Rattle.std.proofs.Common.{◌≡◌, ◌-◌, drop, sym, ap, subst, ◌∙◌, arith, inl, inr}
use Rattle.twp_notes.specs.Records.{record_numbered, records_of}
use Rattle.twp_notes.proofs.Taking.{next_record_is}
use Rattle.twp_answers.specs.Tracts.{name_in}
use Rattle.twp_answers.proofs.TractLands.{earlier_or_last}
use Rattle.twp_diagnose.specs.RecordFields.{fields_listed}
use Rattle.twp_explain.proofs.tracts.first_named.Goals as goal

pub returns-then-is_named : goal.returns-then-is_named
returns-then-is_named c = λ listed.
    let rows = records_of c.args.listed.now.file.bytes.now in
    let next = rw c.if-not-branch.false at c.in_ok-read.ensures in
    let is =
    next_record_is rows (c.records.number - 1) _ _ (sym c.records.invariant.rest ∙ next.0) in
    record {
      until = omega (arith, c.number-last.ensures, c.records-test.true);
      others = c.records.invariant.others;
      is_tract = λ below. (c.is_named.ensures.0 c.if-is_named.true).0;
      same = λ below.
          ap name_in is.is ∙ ((c.is_named.ensures.0 c.if-is_named.true).1 ∙ c.field.ensures);
    }

pub records-preserved : goal.records-preserved
records-preserved c =
    let rows = records_of c.args.listed.now.file.bytes.now in
    let next = rw c.if-not-branch.false at c.in_ok-read.ensures in
    let is =
    next_record_is rows (c.records.number - 1) _ _ (sym c.records.invariant.rest ∙ next.0) in
    record {
      reading = next.1;
      rest = is.after ∙ ap (λ n. drop n rows) (omega (arith, c.records.auto.number));
      others = λ other two below same. elim (earlier_or_last c.records.number other below) [
        | inl earlier ↦ c.records.invariant.others other two earlier same
        | inr last ↦
            let here = subst (λ n. name_in (record_numbered rows n)
            ≡ name_in (fields_listed c.args.listed.now)) last same in
            absurd (cc (
              c.is_named.ensures.1
                  (omega (arith, two, last), sym (ap name_in is.is) ∙ (here ∙ sym c.field.ensures)),
              c.if-is_named.false,
            ))
      ];
    }
