use Rattle.std.proofs.Common.{◌≡◌, ◌+◌, ◌-◌, ◌*◌, ◌/◌, refl, subst, arith}
use Rattle.twp_grid.specs.Spans.{rectangle, span_from}
use Rattle.twp_land.specs.LotMarks.{HasMark, IsPainted}
use Rattle.twp_land.proofs.TilePaint.{tier_block, tiers_next, tiers_taken, whole_positions}
use Rattle.twp_land.proofs.lot_marks.paint_positions.Goals as goal

pub returns-then-not-paint_tier-clause-taken : goal.returns-then-not-paint_tier-clause-taken
returns-then-not-paint_tier-clause-taken c _ =
    let block = c.args.block in
    let across = whole_positions block.columns c.column-start.ensures.dyadic c.requires.width in
    let upward = whole_positions block.rows c.row-first.ensures.dyadic c.requires.height in
    let start : c.row-first.result / 8 * 8 ≡ block.rows.start =
    omega (arith, c.row-first.ensures.value, upward.0) in
    let long : c.height.result / 8 * 8 ≡ block.rows.len = omega (arith, c.height.ensures.value, upward.1) in
    tiers_taken block.columns block.rows (c.row-first.result / 8) c.loop-row.row c.args.mark c.args.marks.now
    c.loop-row.marks c.loop-row.invariant.least (omega (arith, start))
    (omega (arith, start, long, c.loop-row-test.true)) c.row-first.ensures.dyadic.within
    c.column-start.ensures.dyadic.within c.loop-row.invariant.painted
    (subst (λ b. HasMark c.loop-row.marks b)
    (tier_block block.columns (c.column-start.result / 8)
    (c.column-start.result / 8 + c.width.result / 8) c.loop-row.row
    (omega (arith, c.column-start.ensures.value, across.0)) (omega (arith, c.width.ensures.value, across.1)))
    (c.if-not-paint_tier.ensures.taken refl))

pub loop-row-preserved : goal.loop-row-preserved
loop-row-preserved c =
    let block = c.args.block in
    let across = whole_positions block.columns c.column-start.ensures.dyadic c.requires.width in
    let upward = whole_positions block.rows c.row-first.ensures.dyadic c.requires.height in
    let start : c.row-first.result / 8 * 8 ≡ block.rows.start =
    omega (arith, c.row-first.ensures.value, upward.0) in
    let long : c.height.result / 8 * 8 ≡ block.rows.len = omega (arith, c.height.ensures.value, upward.1) in
    let north = c.row-first.ensures.dyadic.within in
    record {
      least = omega (arith, c.loop-row.invariant.least);
      painted =
          tiers_next block.columns block.rows.start (c.row-first.result / 8) c.loop-row.row c.args.mark
          c.args.marks.now c.loop-row.marks c.paint_tier.new.marks c.loop-row.invariant.least
          (omega (arith, start, long, north, c.loop-row-test.true)) (omega (arith, start))
          c.column-start.ensures.dyadic.within c.loop-row.invariant.painted
          (subst (λ b. IsPainted b c.args.mark c.loop-row.marks c.paint_tier.new.marks)
          (tier_block block.columns (c.column-start.result / 8)
          (c.column-start.result / 8 + c.width.result / 8) c.loop-row.row
          (omega (arith, c.column-start.ensures.value, across.0))
          (omega (arith, c.width.ensures.value, across.1)))
          (c.if-not-paint_tier.ensures.painted refl));
    }

pub returns-clause-painted : goal.returns-clause-painted
returns-clause-painted c _ =
    let block = c.args.block in
    let upward = whole_positions block.rows c.row-first.ensures.dyadic c.requires.height in
    let long : (c.loop-row.row - c.row-first.result / 8) * 8 ≡ block.rows.len =
    omega (
      arith,
      c.height.ensures.value,
      upward.1,
      c.loop-row-test.false,
      c.loop-row.auto.row-end,
      c.loop-row.invariant.least,
    ) in
    subst
    (λ n.
    IsPainted (rectangle block.columns (span_from block.rows.start n)) c.args.mark c.args.marks.now
    c.loop-row.marks) long c.loop-row.invariant.painted
