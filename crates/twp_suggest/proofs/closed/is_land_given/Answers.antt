use Rattle.twp_grid.specs.Lands.{lotting}
use Rattle.twp_suggest.proofs.ClosedFacts.{land_of_one}
use Rattle.twp_suggest.proofs.closed.is_land_given.Goals as goal

pub returns : goal.returns
returns g c = λ given.
    land_of_one (lotting (g.P.Lotting.layout c.args.lots.now)) c.args.readings.now c.args.text.now
    c.args.township _
    (c.in_ok-has_land.ensures.only c.if-not-has_land.false) (c.in_ok-is_given.ensures given)
