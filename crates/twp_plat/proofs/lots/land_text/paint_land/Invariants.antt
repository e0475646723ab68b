use Rattle.std.proofs.Common.{length, ◌-◌}
use Rattle.twp_plat.proofs.lots.LandReading.{AreLandSteps}
use Rattle.twp_plat.proofs.lots.land_text.paint_land.Given as goal

-- the tokens so far were read, and the whole parts painted
abbrev pub invariant-tokens : goal.invariant-tokens
invariant-tokens l =
    AreLandSteps l.text l.at l.reached l.steps l.painting l.fn.section l.fn.mark l.fn.marks.sections
    l.marks.sections

abbrev pub decreases-tokens : goal.decreases-tokens
decreases-tokens l = length l.text - l.at
