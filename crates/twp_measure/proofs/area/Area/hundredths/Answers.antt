use Rattle.twp_measure.proofs.RoundingFacts.{rounded}
use Rattle.twp_measure.proofs.area.Area.hundredths.Goals as goal

pub returns : goal.returns
returns c =
    rw (← c.self.view_is, c.from-hundredth.ensures)
    (rounded c.self.inside.units c.self.inside.over c.self.invariant.over_range.0)
