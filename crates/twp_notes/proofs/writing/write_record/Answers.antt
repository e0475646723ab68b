-- The fields were appended one after another.
use Rattle.std.proofs.Common.{◌≡◌, length, arith}
use Rattle.twp_notes.specs.steps.WrittenFields.{field_text}
use Rattle.twp_notes.proofs.TextFacts.{five_appended, five_mapped, on_ok, on_err, begins_more}
use Rattle.twp_notes.proofs.writing.write_record.Goals as goal

pub returns-clause-ok : goal.returns-clause-ok
returns-clause-ok c =
    let fields = c.args.fields in
    let five : length fields ≡ 5 = omega arith in
    on_ok c.write_field-5.result c.write_field-5.ensures.ok (λ is.
    rw
    (five_mapped field_text fields c.index-fields-0.result c.index-fields-1.result c.index-fields-2.result
    c.index-fields-3.result c.index-fields-4.result five)
    (five_appended _ _ _ _ _ _ _ _ _ _ _ c.in_ok-write_field.ensures.ok c.in_ok-write_field-2.ensures.ok
    c.in_ok-write_field-3.ensures.ok c.in_ok-write_field-4.ensures.ok is))

pub returns-clause-err : goal.returns-clause-err
returns-clause-err c =
    on_err c.write_field-5.result c.write_field-5.ensures.err (λ begins.
    begins_more _ _ _ _ c.in_ok-write_field.ensures.ok
    (begins_more _ _ _ _ c.in_ok-write_field-2.ensures.ok
    (begins_more _ _ _ _ c.in_ok-write_field-3.ensures.ok
    (begins_more _ _ _ _ c.in_ok-write_field-4.ensures.ok begins))))
