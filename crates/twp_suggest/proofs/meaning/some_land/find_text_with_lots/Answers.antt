use Rattle.twp_grid.specs.Lands.{lotting}
use Rattle.twp_suggest.proofs.meaning.LandFacts.{is_only_some_land, none_on_plat}
use Rattle.twp_suggest.proofs.meaning.some_land.find_text_with_lots.Goals as goal

pub returns-in-Ok-clause-only : goal.returns-in-Ok-clause-only
returns-in-Ok-clause-only g c = λ _.
    is_only_some_land (lotting (g.P.Lotting.layout c.args.lots.now)) c.args.township c.args.text.now _ _
    (rw c.in-Some.is at c.in_ok-description.ensures.only)
    c.in-Ok.ensures.land

pub returns-clause-none : goal.returns-clause-none
returns-clause-none g c = λ _.
    none_on_plat (lotting (g.P.Lotting.layout c.args.lots.now)) c.args.township c.args.text.now _
    (rw c.in-Some.is at c.in_ok-description.ensures.only)
    c.in-Err.ensures.off_plat
