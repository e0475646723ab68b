-- The canonical text was put there, or the description is refused, or memory ran out.
use Rattle.twp_answers.specs.OnPlats.{HasNormalOn}
use Rattle.twp_calls.specs.Calls.{IsTextPut, accepted, on_plat}
use Rattle.twp_calls.proofs.CallFacts.{text_put, stops_on}
use Rattle.twp_calls.proofs.answering.township_normal.Goals as goal

pub returns-in-Ok-clause-answer : goal.returns-in-Ok-clause-answer
returns-in-Ok-clause-answer c =
    on_plat c.in-Some.plat c.in-Some.ensures
    (accepted (text_put (HasNormalOn c.in-Some.plat c.args.description.now) _ _ _ _ _ _ c.bare-in-Ok.ensures
    c.deref.ensures.value c.in-Ok.ensures c.put.ensures.put))

pub returns-in-Err-clause-answer : goal.returns-in-Err-clause-answer
returns-in-Err-clause-answer c =
    stops_on c.args.plat.now c.in-Some.plat c.in-Some.ensures
    (λ plat. IsTextPut (HasNormalOn plat c.args.description.now) c.args.text.now c.args.text.now)
    c.args.description.now c.in-Err.stop _ c.of_stop.ensures c.in-Err.ensures
