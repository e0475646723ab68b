use Rattle.std.proofs.Common.{◌≡◌, ℕ, ◌*◌, ◌≤◌}
use Rattle.twp_grid.specs.Spans.{total}
use Rattle.twp_plat.specs.Closing.{CLOSING_MOST}
use Rattle.twp_plat.specs.Pieces.{over_of, OVER_MOST}
use Rattle.twp_plat.specs.Pieces.{ArePieces}
use Rattle.twp_plat.proofs.plat.Plat.row_area.Given as goal

-- the sum of the row's pieces so far
abbrev pub invariant-loop-column : goal.invariant-loop-column
invariant-loop-column l = record {
  over : l.area.over ≡ over_of l.self;
  units : (pieces : ℕ → ℕ → ℕ → ℕ) → ArePieces l.self pieces
      → l.area.units ≡ total l.column (λ column. pieces l.section column l.row);
  most : l.area.units ≤ l.column * (CLOSING_MOST * CLOSING_MOST * OVER_MOST);
}
