-- The places of each lot are subtracted.
use Rattle.std.proofs.Common.{◌≡◌, Some, arith, sym, ◌∙◌}
use Rattle.twp_grid.specs.Lots.{position_of_lot}
use Rattle.twp_land.proofs.LotFacts.{block_of, few_lots}
use Rattle.twp_land.proofs.LeftFacts.{left_first, left_lot, left_last}
use Rattle.twp_land.proofs.lotting.StandardLotsLotting.off_lots_count.Goals as goal

pub overflow_add-lot-end : goal.overflow_add-lot-end
overflow_add-lot-end g c =
    let few = few_lots c.args.section c.lot_count-lot-end.ensures.section in omega arith

pub loop-lot-init : goal.loop-lot-init
loop-lot-init g c =
    let held = g.S.PlaceSet.places c.args.set.now c.args.section in
    let counted = rw c.whole.ensures at c.count-count.ensures in
    record { left = counted ∙ left_first c.args.section held; first = omega arith }

pub overflow_sub-count : goal.overflow_sub-count
overflow_sub-count g c =
    let block : block_of (position_of_lot c.args.section c.loop-lot.lot) ≡ Some c.unwrap.result =
    sym c.of_lot.ensures.block ∙ c.unwrap.ensures in
    let next =
    left_lot c.args.section c.loop-lot.lot (g.S.PlaceSet.places c.args.set.now c.args.section)
    c.unwrap.result c.of_lot.ensures.section c.loop-lot.invariant.first (omega arith) block in
    omega (arith, c.loop-lot.invariant.left, next, c.count-count-in-loop-lot.ensures)

pub loop-lot-preserved : goal.loop-lot-preserved
loop-lot-preserved g c =
    let block : block_of (position_of_lot c.args.section c.loop-lot.lot) ≡ Some c.unwrap.result =
    sym c.of_lot.ensures.block ∙ c.unwrap.ensures in
    let next =
    left_lot c.args.section c.loop-lot.lot (g.S.PlaceSet.places c.args.set.now c.args.section)
    c.unwrap.result c.of_lot.ensures.section c.loop-lot.invariant.first (omega arith) block in
    record {
      left = omega (arith, c.loop-lot.invariant.left, next, c.count-count-in-loop-lot.ensures);
      first = omega arith;
    }

pub returns : goal.returns
returns g c =
    c.loop-lot.invariant.left
    ∙ left_last c.args.section c.loop-lot.lot (g.S.PlaceSet.places c.args.set.now c.args.section)
    c.lot_count-lot-end.ensures.section (omega arith)
