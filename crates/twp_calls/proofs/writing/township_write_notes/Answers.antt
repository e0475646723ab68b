-- The notes were put there, or memory ran out.
use Rattle.twp_answers.specs.Answers.{ArePlatted}
use Rattle.twp_calls.specs.Calls.{accepted, no_memory, on_plat}
use Rattle.twp_calls.proofs.CallFacts.{text_put}
use Rattle.twp_calls.proofs.WritingFacts.{platted}
use Rattle.twp_calls.proofs.writing.township_write_notes.Goals as goal

pub returns-in-Ok-clause-answer : goal.returns-in-Ok-clause-answer
returns-in-Ok-clause-answer c =
    on_plat c.in-Some.plat c.in-Some.ensures
    (accepted (text_put (λ text. ArePlatted text c.in-Some.plat) _ _ _ _ _ _ c.bare-in-Ok.ensures
    c.deref.ensures.value (platted c.args.plat.now c.in-Some.plat _ c.in-Some.ensures c.in-Ok.ensures)
    c.put.ensures.put))

pub returns-in-Err-clause-answer : goal.returns-in-Err-clause-answer
returns-in-Err-clause-answer c =
    on_plat c.in-Some.plat c.in-Some.ensures (no_memory c.bare-in-Err.ensures)
