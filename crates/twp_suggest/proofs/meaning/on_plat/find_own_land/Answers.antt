use Rattle.twp_grid.specs.Lands.{lotting}
use Rattle.twp_suggest.proofs.meaning.LandFacts.{is_only_land}
use Rattle.twp_suggest.proofs.meaning.on_plat.find_own_land.Goals as goal

pub returns-in-Ok-clause-only : goal.returns-in-Ok-clause-only
returns-in-Ok-clause-only g c =
    is_only_land (lotting (g.P.Lotting.layout c.args.lots.now)) _ c.args.text.now _ _
    (rw c.in-Some.is at c.in_ok-description.ensures.only)
    c.in-Ok.ensures.land
