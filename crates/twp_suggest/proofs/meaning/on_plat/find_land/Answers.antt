use Rattle.twp_grid.specs.Lands.{lotting}
use Rattle.twp_suggest.proofs.meaning.LandFacts.{is_only_land, no_land}
use Rattle.twp_suggest.proofs.meaning.on_plat.find_land.Goals as goal

pub returns-in-Ok-clause-only : goal.returns-in-Ok-clause-only
returns-in-Ok-clause-only g c = λ _.
    is_only_land (lotting (g.P.Lotting.layout c.args.lots.now)) c.args.township c.args.text.now _ _
    (rw c.in-Some.is at c.in_ok-description.ensures.only)
    c.in-Ok.ensures.land

pub returns-clause-none : goal.returns-clause-none
returns-clause-none g c = λ _.
    no_land (lotting (g.P.Lotting.layout c.args.lots.now)) c.args.township c.args.text.now _
    (rw c.in-Some.is at c.in_ok-description.ensures.only)
    (rw c.in-Err.is at c.resolve_into.ensures.on_plat)
