-- A comma leads to the next field; without it the record ends.
use Rattle.std.proofs.Common.{◌-◌, ◌+◌, drop, sym, ap, ◌∙◌, arith}
use Rattle.twp_grammar.specs.Tokens.{begins_with}
use Rattle.twp_diagnose.specs.Marks.{span}
use Rattle.twp_diagnose.specs.RecordFields.{field_span, is_comma}
use Rattle.twp_diagnose.proofs.RecordFacts.{first_field, next_field, no_field}
use Rattle.twp_diagnose.proofs.records.Record.field_span.Goals as goal

pub returns : goal.returns
returns c =
    let last =
    first_field c.args.self.now.bytes.now c.fields.start (c.args.place - c.fields.passed)
    (omega (arith, c.fields-test.false)) in
    ap (λ e. span c.fields.start e) c.fields.invariant.end_is ∙ sym last ∙ c.fields.invariant.rest

pub returns-then-not-comma_at : goal.returns-then-not-comma_at
returns-then-not-comma_at c =
    let bytes = c.args.self.now.bytes.now in
    let other =
    ap (λ e. begins_with is_comma (drop e bytes)) (sym c.fields.invariant.end_is)
    ∙ sym c.if-not-comma_at.ensures.value in
    let none =
    no_field bytes c.fields.start (c.args.place - c.fields.passed) (c.args.place - (c.fields.passed + 1))
    (omega (arith, c.fields-test.true)) other in
    ap (λ e. span e e) c.fields.invariant.end_is ∙ sym none ∙ c.fields.invariant.rest

pub fields-preserved : goal.fields-preserved
fields-preserved c =
    let bytes = c.args.self.now.bytes.now in
    let comma =
    ap (λ e. begins_with is_comma (drop e bytes)) (sym c.fields.invariant.end_is)
    ∙ sym c.if-not-comma_at.ensures.value in
    let next =
    next_field bytes c.fields.start (c.args.place - c.fields.passed) (c.args.place - (c.fields.passed + 1))
    (omega (arith, c.fields-test.true)) comma in
    record {
      end_is = c.end_of_field-end-in-fields.ensures;
      rest =
          ap (λ e. field_span bytes (e + 1) (c.args.place - (c.fields.passed + 1)))
          c.fields.invariant.end_is
          ∙ sym next ∙ c.fields.invariant.rest;
    }
