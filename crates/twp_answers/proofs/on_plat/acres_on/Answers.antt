-- The area that is rounded is the land's.
use Rattle.twp_answers.proofs.on_plat.acres_on.Goals as goal

pub returns : goal.returns
returns c =
    record { area = c.in_ok-area.area; area_is = c.in_ok-area.ensures; rounded = c.hundredths.ensures }
