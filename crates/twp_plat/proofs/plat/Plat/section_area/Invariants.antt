use Rattle.std.proofs.Common.{◌≡◌, ℕ, ◌*◌, ◌≤◌}
use Rattle.twp_grid.specs.Spans.{total}
use Rattle.twp_plat.specs.Closing.{CLOSING_MOST}
use Rattle.twp_plat.specs.Pieces.{over_of, OVER_MOST}
use Rattle.twp_plat.specs.Pieces.{ArePieces}
use Rattle.twp_plat.proofs.plat.Plat.section_area.Given as goal

-- the sum of the rows so far
abbrev pub invariant-loop-row : goal.invariant-loop-row
invariant-loop-row l = record {
  over : l.area.over ≡ over_of l.self;
  units : (pieces : ℕ → ℕ → ℕ → ℕ) → ArePieces l.self pieces
      → l.area.units ≡ total l.row (λ row. total 4 (λ column. pieces l.section column row));
  most : l.area.units ≤ l.row * (4 * (CLOSING_MOST * CLOSING_MOST * OVER_MOST));
}
