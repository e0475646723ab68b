-- A lot's block is full or not met exactly if the lot is contained wholly or not at all.
use Rattle.std.proofs.Common.{◌≡◌, Some, ap, refl, sym, ◌∙◌, inl, inr, arith, below_more}
use Rattle.std.proofs.lemmas.Bool.{cases_lt}
use Rattle.twp_grid.specs.Lots.{position_of_lot}
use Rattle.twp_land.proofs.LotFacts.{few_lots, block_of, whole_of_block, block_of_whole, no_such_lot}
use Rattle.twp_land.proofs.LotSections.{whole_of_none, whole_of_all}
use Rattle.twp_land.proofs.lots.has_whole_lots.Goals as goal
use Rattle.twp_land.proofs.lots.has_whole_lots.Goals.{else-meets-via-then-meets+else-not-full}
use Rattle.twp_land.proofs.lots.has_whole_lots.Goals.{else-meets-via-else-meets}

pub returns-then-same_plot : goal.returns-then-same_plot
returns-then-same_plot g c = (
  λ _ lot. whole_of_none c.args.section lot (g.P.Plot.held c.args.plot.now) (λ column row.
      c.same_plot.ensures.0 c.if-same_plot.true column row ∙ ap (λ h. h column row) c.empty.ensures),
  λ _. refl,
)

pub returns-then-full : goal.returns-then-full
returns-then-full g c = (
  λ _ lot.
      whole_of_all c.args.section lot (g.P.Plot.held c.args.plot.now)
      (rw c.whole.ensures at (c.full.ensures.0 c.if-full.true)),
  λ _. refl,
)

pub overflow_add-lot-end : goal.overflow_add-lot-end
overflow_add-lot-end g c =
    let few = few_lots c.args.section c.lot_count-lot-end.ensures.section in omega arith

pub loop-lot-init : goal.loop-lot-init
loop-lot-init g c =
    λ lot below. no_such_lot c.args.section lot _ c.lot_count-lot-end.ensures.section (inl below)

pub returns-then-not-full : goal.returns-then-not-full
returns-then-not-full g c = (
  λ h. cc h,
  λ whole.
      let is : block_of (position_of_lot c.args.section c.loop-lot.lot) ≡ Some c.unwrap-block.result =
      sym c.of_lot.ensures.block ∙ c.unwrap-block.ensures in
      let full =
      block_of_whole c.args.section c.loop-lot.lot (g.P.Plot.held c.args.plot.now)
      c.unwrap-block.result _
      c.of_lot.ensures.section (omega arith) refl is (whole c.loop-lot.lot)
      (c.meets.ensures.0 c.if-meets.true) in
      absurd (cc (c.full-then-meets.ensures.1 full, c.if-not-full.true)),
)

pub loop-lot-preserved : goal.loop-lot-preserved
loop-lot-preserved g c =
    let is : block_of (position_of_lot c.args.section c.loop-lot.lot) ≡ Some c.unwrap-block.result =
    sym c.of_lot.ensures.block ∙ c.unwrap-block.ensures in
    let next =
    whole_of_block c.args.section c.loop-lot.lot (g.P.Plot.held c.args.plot.now)
    c.unwrap-block.result c.of_lot.ensures.section is in
    below_more _ _ c.loop-lot.invariant (next (elim c.else-meets.branch [
      | else-meets-via-then-meets+else-not-full w ↦ λ _. w.full-then-meets.ensures.0 w.if-not-full.false
      | else-meets-via-else-meets w ↦ λ meets. absurd (cc (c.meets.ensures.1 meets, w.if-meets.false))
    ]))

pub returns : goal.returns
returns g c = (
  λ _ lot. elim (cases_lt lot c.loop-lot.lot) [
    | inl below ↦ c.loop-lot.invariant lot below
    | inr above ↦ no_such_lot c.args.section lot _ c.lot_count-lot-end.ensures.section (inr (omega arith))
  ],
  λ _. refl,
)
