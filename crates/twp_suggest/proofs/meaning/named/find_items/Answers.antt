use Rattle.std.proofs.Common.{sym, arith}
use Rattle.twp_grid.specs.Lands.{lotting}
use Rattle.twp_resolve.specs.steps.ResolvingSteps.{number_of_section}
use Rattle.twp_suggest.proofs.meaning.NamedFacts.{named_all, named_apart, named_next}
use Rattle.twp_suggest.proofs.meaning.named.find_items.Goals as goal

pub loop-item-preserved : goal.loop-item-preserved
loop-item-preserved g c =
    rw c.in-Ok.ensures.after
    (named_next (lotting (g.P.Lotting.layout c.args.lots.now)) c.items-items.result.now c.loop-item.item-index
    (number_of_section c.loop-item.section)
    c.item-item.result (g.L.PlaceSet.places c.loop-item.land) (g.L.PlaceSet.places c.add_item.new.land)
    c.loop-item-test.true (sym c.item-item.is) c.loop-item.invariant c.in-Ok.ensures.added)

pub returns-clause-named : goal.returns-clause-named
returns-clause-named g c = λ _.
    rw (← c.items-items.ensures.items)
    (named_all (lotting (g.P.Lotting.layout c.args.lots.now)) c.items-items.result.now
    c.loop-item.item-index (number_of_section c.loop-item.section) (g.L.PlaceSet.places c.loop-item.land)
    (omega (arith, c.loop-item-test.false)) c.loop-item.invariant)

pub returns-clause-apart : goal.returns-clause-apart
returns-clause-apart g c = λ _.
    rw (← c.items-items.ensures.items)
    (named_apart (lotting (g.P.Lotting.layout c.args.lots.now)) c.items-items.result.now
    c.loop-item.item-index (number_of_section c.loop-item.section) (g.L.PlaceSet.places c.loop-item.land)
    (omega (arith, c.loop-item-test.false)) c.loop-item.invariant)
