-- The next byte ends the field, or is one of it.
use Rattle.std.proofs.Common.{arith}
use Rattle.twp_diagnose.specs.steps.Fields.{state_of}
use Rattle.twp_diagnose.proofs.RecordFacts.{ends_at, goes_at, past_end}
use Rattle.twp_diagnose.proofs.records.end_of_field.Goals as goal

pub loop-end-preserved : goal.loop-end-preserved
loop-end-preserved c =
    let goes =
    goes_at (state_of c.loop-end.quoting) (state_of c.in-Some.next) c.args.bytes.now c.loop-end.end
    c.loop-end-test.true c.in-Some.ensures in
    omega (arith, goes, c.loop-end.invariant)

pub returns-in_default : goal.returns-in_default
returns-in_default c =
    let ends =
    ends_at (state_of c.loop-end.quoting) c.args.bytes.now c.loop-end.end c.loop-end-test.true
    c.in_default.ensures in
    omega (arith, ends, c.loop-end.invariant, c.loop-end-test.true)

pub returns : goal.returns
returns c =
    let past =
    past_end (state_of c.loop-end.quoting) c.args.bytes.now c.loop-end.end c.loop-end-test.false in
    omega (arith, past, c.loop-end.invariant, c.loop-end-test.false)
