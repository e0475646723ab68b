use Rattle.std.proofs.Common.{◌-◌, ◌≤◌}
use Rattle.twp_grid.specs.Spans.{rectangle, span_from}
use Rattle.twp_land.specs.LotMarks.{IsPainted}
use Rattle.twp_land.proofs.lot_marks.paint_row.Given as goal

-- the places so far are painted
abbrev pub invariant-loop-column : goal.invariant-loop-column
invariant-loop-column l = record {
  least : l.start ≤ l.column;
  painted : IsPainted (rectangle (span_from l.start (l.column - l.start)) (span_from l.row 1)) l.mark
      l.fn.marks
      l.marks;
}
