-- The message is of the refusal that was found.
use Rattle.std.proofs.Common.{refl}
use Rattle.twp_diagnose.proofs.finding.Finding.explain.Goals as goal

pub returns-clause-refusal : goal.returns-clause-refusal
returns-clause-refusal c = refl

pub returns-clause-shows : goal.returns-clause-shows
returns-clause-shows c = record {
  spot_is = c.in_ok-spot.ensures.spot;
  text_is = c.in_ok-spot.ensures.text;
}
