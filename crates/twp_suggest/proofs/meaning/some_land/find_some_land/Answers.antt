use Rattle.twp_grid.specs.Lands.{lotting}
use Rattle.twp_suggest.proofs.meaning.LandFacts.{land_with_lots}
use Rattle.twp_suggest.proofs.meaning.some_land.find_some_land.Goals as goal

pub returns-then-is_named-clause-land : goal.returns-then-is_named-clause-land
returns-then-is_named-clause-land g c =
    let named = c.find_with_lots-is_named.ensures in
    land_with_lots (lotting (g.P.Lotting.layout c.args.lots.now)) c.args.township c.args.description.now _
    (c.names_township.ensures c.if-names_township.true) (named.named c.if-is_named.true)
    (named.apart c.if-is_named.true) (named.whole c.if-is_named.true) (named.on_land c.if-is_named.true)
