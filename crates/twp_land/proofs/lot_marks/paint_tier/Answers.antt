use Rattle.std.proofs.Common.{◌≡◌, ◌-◌, ◌*◌, refl, subst, arith}
use Rattle.twp_grid.specs.Spans.{rectangle, span_from}
use Rattle.twp_land.specs.LotMarks.{IsPainted}
use Rattle.twp_land.proofs.TilePaint.{tier_next, tier_taken}
use Rattle.twp_land.proofs.lot_marks.paint_tier.Goals as goal

pub returns-then-not-paint_position-clause-taken : goal.returns-then-not-paint_position-clause-taken
returns-then-not-paint_position-clause-taken c _ =
    tier_taken c.args.start c.args.end c.loop-column.column c.args.row c.args.mark c.args.marks.now
    c.loop-column.marks c.loop-column.invariant.least c.loop-column-test.true c.requires.end c.requires.row
    c.loop-column.invariant.painted (c.if-not-paint_position.ensures.taken refl)

pub loop-column-preserved : goal.loop-column-preserved
loop-column-preserved c = record {
  least = omega (arith, c.loop-column.invariant.least);
  painted =
      tier_next c.args.start c.loop-column.column c.args.row c.args.mark c.args.marks.now c.loop-column.marks
      c.paint_position.new.marks c.loop-column.invariant.least
      (omega (arith, c.loop-column-test.true, c.requires.end)) c.requires.row c.loop-column.invariant.painted
      (c.if-not-paint_position.ensures.painted refl);
}

pub returns-clause-painted : goal.returns-clause-painted
returns-clause-painted c _ =
    let all : c.loop-column.column ≡ c.args.end =
    omega (arith, c.loop-column-test.false, c.loop-column.auto.column-end, c.requires.start) in
    subst
    (λ n.
    IsPainted
    (rectangle (span_from (c.args.start * 8) ((n - c.args.start) * 8)) (span_from (c.args.row * 8) 8))
    c.args.mark c.args.marks.now c.loop-column.marks) all c.loop-column.invariant.painted
