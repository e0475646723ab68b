-- The land was read, or the description is refused, or memory ran out.
use Rattle.twp_calls.specs.Calls.{accepted}
use Rattle.twp_calls.specs.LandCalls.{IsLandRead, in_township}
use Rattle.twp_calls.proofs.LandCallFacts.{stops_in}
use Rattle.twp_calls.proofs.land_answers.township_land_read.Goals as goal

pub returns-in-Ok-clause-answer : goal.returns-in-Ok-clause-answer
returns-in-Ok-clause-answer c =
    in_township c.in-Some.township c.in-Some.ensures
    (accepted (record {
      places = _;
      named = c.in-Ok.ensures;
      given = c.of.ensures.land;
      plat_is = c.of.ensures.plat;
      answer_is = c.bare-in-Ok.ensures;
    }))

pub returns-in-Err-clause-answer : goal.returns-in-Err-clause-answer
returns-in-Err-clause-answer c =
    stops_in c.args.township.now c.in-Some.township c.in-Some.ensures
    (λ township. IsLandRead township c.args.description.now c.args.land.now) c.args.description.now
    c.in-Err.stop _ c.of_stop.ensures c.in-Err.ensures
