-- If a distance is not a length, that is the record's fault.
use Rattle.std.proofs.Common.{inl, inr}
use Rattle.twp_notes.proofs.fields.returned_in.Goals as goal

pub returns-in_default : goal.returns-in_default
returns-in_default c = inl (rw c.field.ensures at c.in_default.ensures)

pub returns-in_default-length_of : goal.returns-in_default-length_of
returns-in_default-length_of c = inr (rw c.field-2.ensures at c.in_default-length_of.ensures)
