use Rattle.std.proofs.Common.{◌-◌, ◌*◌, ◌≤◌}
use Rattle.twp_grid.specs.Spans.{rectangle, span_from}
use Rattle.twp_land.specs.LotMarks.{IsPainted}
use Rattle.twp_land.proofs.lot_marks.paint_positions.Given as goal

-- the rows of positions so far are painted
abbrev pub invariant-loop-row : goal.invariant-loop-row
invariant-loop-row l = record {
  least : l.first ≤ l.row;
  painted : IsPainted
      (rectangle l.fn.block.columns (span_from l.fn.block.rows.start ((l.row - l.first) * 8))) l.mark
      l.fn.marks l.marks;
}
