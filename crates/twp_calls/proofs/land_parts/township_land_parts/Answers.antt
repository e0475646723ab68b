-- The land is of a plat with other lots, or the parts were put there, or memory ran out.
use Rattle.twp_calls.specs.Calls.{accepted, no_memory}
use Rattle.twp_calls.specs.LandCalls.{of_one, of_two, on_land}
use Rattle.twp_calls.proofs.PartFacts.{put_there}
use Rattle.twp_calls.proofs.land_parts.township_land_parts.Goals as goal

pub returns-then-own_lots-ne0-clause-answer : goal.returns-then-own_lots-ne0-clause-answer
returns-then-own_lots-ne0-clause-answer c =
    on_land c.in-Some.land.township _ c.in-Some.ensures
    (of_two c.if-own_lots-ne0.true c.bare-then-own_lots-ne0.ensures)

pub returns-in-Ok-clause-answer : goal.returns-in-Ok-clause-answer
returns-in-Ok-clause-answer c =
    on_land c.in-Some.land.township _ c.in-Some.ensures
    (of_one c.if-own_lots-ne0.false
    (accepted (put_there _ _ _ _ _ _ c.deref.ensures.value c.in-Ok.ensures c.put_parts.ensures.put)))

pub returns-in-Err-clause-answer : goal.returns-in-Err-clause-answer
returns-in-Err-clause-answer c =
    on_land c.in-Some.land.township _ c.in-Some.ensures
    (of_one c.if-own_lots-ne0.false (no_memory c.bare-in-Err.ensures))
