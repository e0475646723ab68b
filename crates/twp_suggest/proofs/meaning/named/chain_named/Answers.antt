use Rattle.std.proofs.Common.{◌≡◌, sym, ap, subst, ◌∙◌}
use Rattle.std.proofs.lemmas.Bool.{false≢true}
use Rattle.twp_grid.specs.Lands.{block_places, lotting}
use Rattle.twp_grammar.specs.ItemPlaces.{item_of, item_places}
use Rattle.twp_grammar.specs.declared.item.Item.TheVariants.{Chain}
use Rattle.twp_land.proofs.LotBlocks.{meets_of_share}
use Rattle.twp_resolve.specs.steps.ResolvingSteps.{AreAdded}
use Rattle.twp_grammar.proofs.ChainFacts.{chain_places}
use Rattle.twp_suggest.proofs.meaning.named.chain_named.Goals as goal

pub returns-clause-added : goal.returns-clause-added
returns-clause-added g c = λ at.
    let part = c.in-Some-chain_block.ensures in
    let old = g.L.PlaceSet.places c.args.land.now in
    let lots = lotting (g.P.Lotting.layout c.args.lots.now) in
    let section = c.in-Some.section in
    let block = c.in-Some-chain_block.block in
    let named : item_places lots (item_of section (Chain c.args.steps.now at)) ≡ block_places section block =
    chain_places lots section c.args.steps.now at part.0
    ∙ ap (λ block. block_places section block) (sym part.1) in
    rw c.in-Some.is
    (subst (λ places. AreAdded places old (g.L.PlaceSet.places c.add.new.self)) (sym named)
    record {
      apart = λ shared. false≢true
          (sym c.if-meets.false ∙ c.meets.ensures.1 (meets_of_share old section block shared));
      added = c.add.ensures;
    })
