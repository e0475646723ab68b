use Rattle.twp_grid.specs.Lands.{lotting}
use Rattle.twp_grammar.specs.ItemPlaces.{item_of, item_places}
use Rattle.twp_grammar.specs.declared.item.Item.TheVariants.{Chain, All}
use Rattle.twp_resolve.specs.steps.ResolvingSteps.{AreAdded, number_of_section}
use Rattle.twp_suggest.proofs.meaning.NamedFacts.{if_ok_at}
use Rattle.twp_suggest.proofs.meaning.named.add_item.Goals as goal

pub returns-in_ok-from-in-Sections-clause-added : goal.returns-in_ok-from-in-Sections-clause-added
returns-in_ok-from-in-Sections-clause-added g c =
    rw c.in-Sections.is (c.in_ok-from-in-Sections.ensures.added (number_of_section c.args.section))

pub returns-in-Chain-clause-added : goal.returns-in-Chain-clause-added
returns-in-Chain-clause-added g c =
    rw c.in-Chain.is
    (if_ok_at c.chain_named.result (λ at.
    AreAdded
    (item_places (lotting (g.P.Lotting.layout c.args.lots.now))
    (item_of (number_of_section c.args.section) (Chain c.in-Chain.steps at)))
    (g.L.PlaceSet.places c.args.land.now) (g.L.PlaceSet.places c.chain_named.new.land))
    c.in-Chain.at c.chain_named.ensures.added)

pub returns-in-All-clause-added : goal.returns-in-All-clause-added
returns-in-All-clause-added g c =
    rw c.in-All.is
    (if_ok_at c.all_named.result (λ at.
    AreAdded
    (item_places (lotting (g.P.Lotting.layout c.args.lots.now))
    (item_of (number_of_section c.args.section) (All at)))
    (g.L.PlaceSet.places c.args.land.now) (g.L.PlaceSet.places c.all_named.new.land))
    c.in-All.at c.all_named.ensures.added)
