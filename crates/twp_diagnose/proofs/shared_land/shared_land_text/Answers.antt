-- The text is that of the land which the two items share.
use Rattle.twp_diagnose.proofs.shared_land.shared_land_text.Goals as goal

pub returns : goal.returns
returns g c = record { places = _; both = c.in-Some.ensures; text_is = c.in_ok-text.ensures.text }
