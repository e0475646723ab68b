use Rattle.std.proofs.Common.{◌+◌, refl, arith}
use Rattle.twp_land.proofs.PaintFacts.{marked_before, rows_painted}
use Rattle.twp_land.proofs.lot_marks.paint_block.Goals as goal

pub returns-then-not-paint_row-clause-taken : goal.returns-then-not-paint_row-clause-taken
returns-then-not-paint_row-clause-taken c is =
    let block = c.args.block in
    marked_before block.columns block.rows c.loop-row.row c.column-start.result
    (c.column-start.result + c.width-2.result) c.args.mark c.args.marks.now c.loop-row.marks
    c.column-start.ensures.value (omega (arith, c.width-2.ensures.value)) c.loop-row.invariant.least
    (omega (arith, c.loop-row-test.true, c.row.ensures.value, c.height-2.ensures.value))
    c.height-2.ensures.dyadic.within c.width-2.ensures.dyadic.within c.loop-row.invariant.painted
    (c.if-not-paint_row.ensures.taken refl)

pub loop-row-preserved : goal.loop-row-preserved
loop-row-preserved c =
    let block = c.args.block in
    let north = c.height-2.ensures.dyadic.within in
    record {
      least = omega (arith, c.loop-row.invariant.least);
      painted =
          rows_painted block.columns block.rows.start c.loop-row.row c.column-start.result
          (c.column-start.result + c.width-2.result) c.args.mark c.args.marks.now c.loop-row.marks
          c.paint_row.new.marks c.column-start.ensures.value (omega (arith, c.width-2.ensures.value))
          c.loop-row.invariant.least
          (omega (arith, c.loop-row-test.true, c.row.ensures.value, c.height-2.ensures.value, north))
          c.width-2.ensures.dyadic.within c.loop-row.invariant.painted
          (c.if-not-paint_row.ensures.painted refl);
    }
