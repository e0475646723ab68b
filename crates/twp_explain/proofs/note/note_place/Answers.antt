-- The message is about the place.
use Rattle.twp_explain.proofs.note.note_place.Goals as goal

pub returns-clause-shows : goal.returns-clause-shows
returns-clause-shows c = record {
  spot_is = c.in_ok-spot.ensures.spot;
  text_is = c.in_ok-spot.ensures.text;
}
