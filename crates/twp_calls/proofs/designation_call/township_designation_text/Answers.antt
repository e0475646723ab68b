-- The spelling was put there, or memory ran out.
use Rattle.twp_calls.specs.Calls.{accepted, no_memory}
use Rattle.twp_calls.specs.LandCalls.{in_township}
use Rattle.twp_calls.specs.DesignationCalls.{IsWrittenDesignation}
use Rattle.twp_calls.proofs.CallFacts.{text_put}
use Rattle.twp_calls.proofs.designation_call.township_designation_text.Goals as goal

pub returns-in-Ok-clause-answer : goal.returns-in-Ok-clause-answer
returns-in-Ok-clause-answer c =
    in_township c.in-Some.township c.in-Some.ensures
    (accepted (text_put (IsWrittenDesignation c.in-Some.township) _ _ _ _ _ _
    c.bare-in-Ok.ensures c.deref.ensures.value
    (record { is = c.in-Ok.ensures.text; read_back = c.in-Ok.ensures.read_back }) c.put.ensures.put))

pub returns-in-Err-clause-answer : goal.returns-in-Err-clause-answer
returns-in-Err-clause-answer c =
    in_township c.in-Some.township c.in-Some.ensures (no_memory c.bare-in-Err.ensures)
