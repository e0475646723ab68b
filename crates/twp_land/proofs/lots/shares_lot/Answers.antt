-- A lot's block contains the lot's places, so a block that shares none with it contains no place of
-- the lot.
use Rattle.std.proofs.Common.{◌≡◌, Some, refl, sym, ◌∙◌, inl, inr, arith}
use Rattle.std.proofs.lemmas.Bool.{cases_lt}
use Rattle.twp_grid.specs.Lots.{position_of_lot}
use Rattle.twp_land.proofs.LotFacts.{few_lots, block_of}
use Rattle.twp_land.proofs.LotBlocks.{lot_place_of, in_lot_block, lot_is_below}
use Rattle.twp_land.proofs.lots.shares_lot.Goals as goal

pub overflow_add-lot-end : goal.overflow_add-lot-end
overflow_add-lot-end c = let few = few_lots c.args.section c.lot_count-lot-end.ensures.section in omega arith

pub returns-then-share_place : goal.returns-then-share_place
returns-then-share_place c =
    let is : block_of (position_of_lot c.args.section c.loop-lot.lot) ≡ Some c.unwrap-lot_block.result =
    sym c.of_lot.ensures.block ∙ c.unwrap-lot_block.ensures in (
      λ _.
          lot_place_of c.args.section c.loop-lot.lot c.unwrap-lot_block.result c.args.block
          c.of_lot.ensures.section (omega arith) is (c.share_place.ensures.0 c.if-share_place.true),
      λ _. refl,
    )

pub loop-lot-preserved : goal.loop-lot-preserved
loop-lot-preserved c = λ lot column row least below inside lot_is. elim (cases_lt lot c.loop-lot.lot) [
  | inl before ↦ c.loop-lot.invariant lot column row least before inside lot_is
  | inr here ↦
      let same : c.loop-lot.lot ≡ lot = omega arith in
      let is : block_of (position_of_lot c.args.section c.loop-lot.lot) ≡ Some c.unwrap-lot_block.result =
      sym c.of_lot.ensures.block ∙ c.unwrap-lot_block.ensures in
      let there =
      (in_lot_block c.args.section c.loop-lot.lot c.unwrap-lot_block.result c.of_lot.ensures.section
      (omega arith) is column row).1
      (rw same lot_is) in
      absurd (cc (
        c.share_place.ensures.1 (record { column = column; row = row; inside = inside; is_held = there }),
        c.if-share_place.false,
      ))
]

pub returns : goal.returns
returns c = (
  λ h. cc h,
  λ held.
      absurd
      (lot_is_below c.args.section c.loop-lot.lot c.args.block c.lot_count-lot-end.ensures.section
      (omega arith) c.loop-lot.invariant held),
)
