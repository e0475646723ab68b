-- The text of the plat was put there, or memory ran out.
use Rattle.twp_answers.specs.OnPlats.{IsTextOfPlat}
use Rattle.twp_calls.specs.Calls.{accepted, no_memory, on_plat}
use Rattle.twp_calls.proofs.CallFacts.{text_put}
use Rattle.twp_calls.proofs.answering.township_print.Goals as goal

pub returns-in-Ok-clause-answer : goal.returns-in-Ok-clause-answer
returns-in-Ok-clause-answer c =
    on_plat c.in-Some.plat c.in-Some.ensures
    (accepted (text_put (IsTextOfPlat c.in-Some.plat) _ _ _ _ _ _ c.bare-in-Ok.ensures c.deref.ensures.value
    c.in-Ok.ensures c.put.ensures.put))

pub returns-in-Err-clause-answer : goal.returns-in-Err-clause-answer
returns-in-Err-clause-answer c =
    on_plat c.in-Some.plat c.in-Some.ensures (no_memory c.bare-in-Err.ensures)
