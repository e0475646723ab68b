use Rattle.std.proofs.Common.{◌∙◌, sym, arith}
use Rattle.twp_plat.proofs.lots.sheet.RowFacts.{trimmed_more, trimmed_all}
use Rattle.twp_plat.proofs.lots.sheet.row.filled_count.Goals as goal

pub loop-count-preserved : goal.loop-count-preserved
loop-count-preserved c = record {
  within = omega arith;
  same = trimmed_more _ _ c.loop-count-test.true c.loop-count.invariant.within
      (rw c.cell_at.ensures at (sym c.is_empty.ensures ∙ c.if-is_empty.true))
      ∙ c.loop-count.invariant.same;
}

pub returns-else-is_empty : goal.returns-else-is_empty
returns-else-is_empty c =
    sym (trimmed_all _ _ c.loop-count-test.true c.loop-count.invariant.within
    (rw c.cell_at.ensures at (sym c.is_empty.ensures ∙ c.if-is_empty.false)))
    ∙ c.loop-count.invariant.same
