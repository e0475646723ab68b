-- A text of a length is read as that length, so a text that is refused is not a length.
use Rattle.twp_notes.proofs.fields.length_of.Goals as goal

pub returns-in-Ok : goal.returns-in-Ok
returns-in-Ok c = (c.in-Ok.ensures.value, λ value is. cc (c.in-Ok.ensures.taken value is))

pub returns-in-Err : goal.returns-in-Err
returns-in-Err c value is = absurd (cc (c.in-Err.ensures.taken value is))
