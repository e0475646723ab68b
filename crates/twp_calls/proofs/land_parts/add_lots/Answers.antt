-- One more lot.
use Rattle.std.proofs.Common.{get_or, refl, sym, ◌∙◌, arith, subst}
use Rattle.std.proofs.lemmas.List.{take_all}
use Rattle.std.proofs.lemmas.List.Elements.{Contains-get_or}
use Rattle.twp_grid.specs.Lots.{position_of_lot}
use Rattle.twp_calls.specs.steps.PartSteps.{AddsLots}
use Rattle.twp_calls.proofs.PartFacts.{lot_part, lots_next, no_lots_yet}
use Rattle.twp_calls.proofs.land_parts.add_lots.Goals as goal

pub loop-index-init : goal.loop-index-init
loop-index-init c = record { added = no_lots_yet c.args.section c.args.parts.now.items }

pub unwrap-block-requires : goal.unwrap-block-requires
unwrap-block-requires c =
    c.of_lot.ensures.has.1
    (c.requires (get_or c.args.lots.now c.loop-index.index 0)
    (Contains-get_or c.args.lots.now c.loop-index.index 0 (omega arith)))

pub loop-index-preserved : goal.loop-index-preserved
loop-index-preserved c =
    let lot = get_or c.args.lots.now c.loop-index.index 0 in
    record {
      added =
          lots_next c.args.section c.args.lots.now c.loop-index.index lot c.of.result c.args.parts.now.items
          c.loop-index.parts.items _ (omega arith) refl c.loop-index.invariant.added
          (lot_part c.args.section lot (position_of_lot c.args.section lot) c.unwrap-block.result c.of.result
          refl (sym c.of_lot.ensures.block ∙ c.unwrap-block.ensures) c.of.ensures)
          c.in_ok-push.ensures.items;
    }

pub returns : goal.returns
returns c =
    subst (λ l. AddsLots c.args.section l c.args.parts.now.items c.loop-index.parts.items)
    (take_all c.loop-index.index c.args.lots.now (omega arith)) c.loop-index.invariant.added
