-- The text is that of the notes.
use Rattle.twp_plat.proofs.PlatNoteFacts.{appended}
use Rattle.twp_plat.proofs.writing.notes_text.Goals as goal

pub returns : goal.returns
returns c = record {
  notes = c.notes_of-notes.result;
  are = c.notes_of-notes.ensures;
  written = appended _ _ _ c.new-text.ensures.items c.in_ok-write.ensures.ok;
}
