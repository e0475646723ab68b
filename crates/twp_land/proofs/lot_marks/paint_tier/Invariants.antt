use Rattle.std.proofs.Common.{◌-◌, ◌*◌, ◌≤◌}
use Rattle.twp_grid.specs.Spans.{rectangle, span_from}
use Rattle.twp_land.specs.LotMarks.{IsPainted}
use Rattle.twp_land.proofs.lot_marks.paint_tier.Given as goal

-- the positions so far are painted
abbrev pub invariant-loop-column : goal.invariant-loop-column
invariant-loop-column l = record {
  least : l.start ≤ l.column;
  painted : IsPainted
      (rectangle (span_from (l.start * 8) ((l.column - l.start) * 8)) (span_from (l.row * 8) 8)) l.mark
      l.fn.marks l.marks;
}
