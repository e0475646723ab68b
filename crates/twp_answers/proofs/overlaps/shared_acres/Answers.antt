-- Both records are tracts with these lands.
use Rattle.twp_answers.proofs.OverlapFacts.{as_overlap}
use Rattle.twp_answers.proofs.overlaps.shared_acres.Goals as goal

pub returns : goal.returns
returns g c = λ fields more is other.
    as_overlap (g.M.Measuring.measure c.args.by.now) fields more _ _ c.common_acres.result
    (rw c.in-Some.is at is)
    (rw c.in-Some-other.is at other) c.common_acres.ensures
