use Rattle.twp_grid.specs.Lands.{lotting}
use Rattle.twp_resolve.specs.steps.ResolvingSteps.{number_of_section}
use Rattle.twp_suggest.proofs.meaning.NamedFacts.{AreNamedTo}
use Rattle.twp_suggest.proofs.meaning.named.find_items.Given as goal

-- the items so far are named
abbrev pub invariant-loop-item : goal.invariant-loop-item
invariant-loop-item g l =
    AreNamedTo (lotting (g.P.Lotting.layout l.lots)) l.items l.item-index (number_of_section l.section)
    (g.L.PlaceSet.places l.land)
