-- The text spells the township that was read, and no other; or it spells none, and is refused.
use Rattle.twp_calls.specs.DesignationCalls.{spelled, not_spelled}
use Rattle.twp_calls.proofs.DesignationCallFacts.{the_only, no_other}
use Rattle.twp_calls.proofs.designation_call.township_designation_read.Goals as goal

pub returns-in-Ok-clause-answer : goal.returns-in-Ok-clause-answer
returns-in-Ok-clause-answer c =
    spelled c.in-Ok.spelled c.in-Ok.ensures.spelled
    (the_only c.args.text.now c.in-Ok.spelled c.in-Ok.ensures.taken)
    c.of.ensures c.bare.ensures

pub returns-in-Err-clause-answer : goal.returns-in-Err-clause-answer
returns-in-Err-clause-answer c =
    not_spelled (no_other c.args.text.now c.in-Err.refusal c.in-Err.ensures.taken) (record {
      refusal = c.in-Err.refusal;
      first = c.in-Err.ensures.refused;
      answer_is = c.of_refusal.ensures;
    })
