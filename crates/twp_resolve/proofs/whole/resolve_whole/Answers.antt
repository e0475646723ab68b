-- The items are added one after another, and at the end the land is that of all items.
use Rattle.std.proofs.Common.{sym, subst, arith}
use Rattle.twp_grid.specs.Lands.{HasWholeLots, STANDARD_LOTS, STANDARD_LAYOUT}
use Rattle.twp_grammar.specs.OnPlat.{IsLandOfItems}
use Rattle.twp_grammar.specs.ItemPlaces.{section_after}
use Rattle.twp_land.specs.Storage.{held_by_section, all_if}
use Rattle.twp_land.specs.steps.StandardLots.{standard_are_lots}
use Rattle.twp_resolve.proofs.LandLots.{land_has_whole_lots}
use Rattle.twp_resolve.proofs.ResolvingFacts.{taken_none, taken_next, taken_all}
use Rattle.twp_resolve.proofs.whole.resolve_whole.Goals as goal

pub loop-item-init : goal.loop-item-init
loop-item-init c = record {
  section = 0;
  taken =
      taken_none STANDARD_LOTS c.args.township c.items-items.result.now
      (held_by_section all_if c.clear.new.self.held) c.clear.ensures;
}

pub loop-item-preserved : goal.loop-item-preserved
loop-item-preserved c =
    let so_far = c.loop-item.invariant in
    record {
      section = section_after so_far.section c.item-item.result;
      taken =
          taken_next STANDARD_LOTS c.args.township c.items-items.result.now c.loop-item.item-index
          so_far.section c.item-item.result (held_by_section all_if c.loop-item.land.held)
          (held_by_section all_if c.add_item.new.land.held)
          c.loop-item-test.true (sym c.item-item.is) so_far.taken
          (c.add_item.ensures (cc (c.if-not-add_item.false)) so_far.section);
    }

pub returns-clause-land : goal.returns-clause-land
returns-clause-land c = λ _.
    rw (← c.items-items.ensures.items)
    (taken_all STANDARD_LOTS c.args.township c.items-items.result.now c.loop-item.item-index
    c.loop-item.invariant.section (held_by_section all_if c.loop-item.land.held) (omega arith)
    c.loop-item.invariant.taken)

pub returns-clause-whole_lots : goal.returns-clause-whole_lots
returns-clause-whole_lots c = λ _.
    let
    whole : IsLandOfItems STANDARD_LOTS c.args.township c.items-items.result.now
    (held_by_section all_if c.loop-item.land.held) =
    taken_all STANDARD_LOTS c.args.township c.items-items.result.now c.loop-item.item-index
    c.loop-item.invariant.section (held_by_section all_if c.loop-item.land.held) (omega arith)
    c.loop-item.invariant.taken in
    subst (HasWholeLots STANDARD_LOTS) (sym whole.land_is)
    (land_has_whole_lots STANDARD_LAYOUT c.args.township c.items-items.result.now standard_are_lots
    whole.on_plat)
