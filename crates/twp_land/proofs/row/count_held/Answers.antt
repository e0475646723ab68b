use Rattle.std.proofs.Common.{sym, arith}
use Rattle.twp_land.proofs.RowFacts.{count_in_row-zero, count_in_row-next}
use Rattle.twp_land.proofs.row.count_held.Goals as goal
use Rattle.twp_land.proofs.row.count_held.Goals.{then-row-start, else-row-start}

pub loop-along-init : goal.loop-along-init
loop-along-init c = (sym (count_in_row-zero _ _), omega arith)

pub loop-along-preserved : goal.loop-along-preserved
loop-along-preserved c =
    let next = count_in_row-next c.args.row.now c.args.start c.loop-along.along in
    elim c.if-row-start.branch [
      | then-row-start w ↦ let more = rw w.if-row-start.true at next in (omega arith, omega arith)
      | else-row-start w ↦ let same = rw w.if-row-start.false at next in (omega arith, omega arith)
    ]
