use Rattle.twp_suggest.proofs.meaning.NamedFacts.{none_lacks}
use Rattle.twp_suggest.proofs.meaning.named.is_on_land_in.Goals as goal

pub returns-then-not-lacks_land : goal.returns-then-not-lacks_land
returns-then-not-lacks_land g c = λ _.
    none_lacks (g.P.Lotting.layout c.args.lots.now) c.args.section (g.L.PlaceSet.places c.args.land.now)
    (λ column row held. (g.met.L.PlaceSet.within c.args.land.now c.args.section column row held).1)
    (λ lacks. absurd (cc (c.lacks_land.ensures.1 (rw c.whole.ensures lacks), c.if-not-lacks_land.true)))
