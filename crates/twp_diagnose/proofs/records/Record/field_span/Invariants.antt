use Rattle.std.proofs.Common.{◌≡◌, ◌-◌}
use Rattle.twp_diagnose.specs.RecordFields.{field_end, field_span}
use Rattle.twp_diagnose.proofs.records.Record.field_span.Given as goal

-- a field begins here, and the one that is sought comes as many fields after it as are left
abbrev pub invariant-fields : goal.invariant-fields
invariant-fields l = record {
  end_is : l.end ≡ field_end l.self.bytes.now l.start;
  rest : field_span l.self.bytes.now l.start (l.place - l.passed)
      ≡ field_span l.self.bytes.now l.self.start l.place;
}
