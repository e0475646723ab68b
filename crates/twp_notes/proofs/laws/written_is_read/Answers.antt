use Rattle.twp_notes.proofs.WrittenNotes as answers
use Rattle.twp_notes.proofs.laws.written_is_read.Goals as goal

pub returns : goal.returns
returns c = answers.written_is_read
