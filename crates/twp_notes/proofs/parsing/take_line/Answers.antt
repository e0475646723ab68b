-- The record read so far names a line and returns distances.
use Rattle.std.proofs.Common.{refl}
use Rattle.twp_notes.proofs.FieldFacts.{has_lengths}
use Rattle.twp_notes.proofs.parsing.take_line.Goals as goal

pub returns-in_default-clause-fault : goal.returns-in_default-clause-fault
returns-in_default-clause-fault c = (refl, c.in_default.ensures, λ none. none _ c.in_ok-line.ensures.line)

pub returns-else-take_down-clause-fault : goal.returns-else-take_down-clause-fault
returns-else-take_down-clause-fault c = (
  refl,
  record {
    line = c.in_ok-line.line;
    names = c.in_ok-line.ensures.line;
    before = rw c.if-take_down.false at c.take_down.ensures.again;
  },
  has_lengths _ _ c.in-Some.ensures,
)
