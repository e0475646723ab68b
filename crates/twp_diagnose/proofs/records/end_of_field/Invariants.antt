use Rattle.std.proofs.Common.{◌≡◌, ◌+◌, ◌-◌, length, drop}
use Rattle.csv.specs.declared.parser.State.TheVariants as state
use Rattle.twp_diagnose.specs.RecordFields.{field_size}
use Rattle.twp_diagnose.specs.steps.Fields.{state_of}
use Rattle.twp_diagnose.proofs.records.end_of_field.Given as goal

-- the field goes on from the offset so far, and its end stays the same
abbrev pub invariant-loop-end : goal.invariant-loop-end
invariant-loop-end l =
    l.end + field_size (state_of l.quoting) (drop l.end l.bytes)
    ≡ l.start + field_size state.StartField (drop l.start l.bytes)

abbrev pub decreases-loop-end : goal.decreases-loop-end
decreases-loop-end l = length l.bytes - l.end
