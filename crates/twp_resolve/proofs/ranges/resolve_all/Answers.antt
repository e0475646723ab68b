-- The section has no land, or its land was named before, or it is added.
use Rattle.twp_resolve.proofs.ItemFaults.{all_no_land}
use Rattle.twp_resolve.proofs.ranges.resolve_all.Goals as goal

pub returns-then-not-has_land-clause-refused : goal.returns-then-not-has_land-clause-refused
returns-then-not-has_land-clause-refused g c = λ township.
    all_no_land (g.P.Lotting.layout c.args.lots.now) c.args.section c.args.at
    (g.L.PlaceSet.places c.args.land.now) township
    (λ has. absurd (cc (c.has_land.ensures.1 has, c.if-not-has_land.true)))
