use Rattle.std.proofs.Common.{◌≡◌, ℕ, ◌+◌, ◌-◌, ◌*◌, ◌≤◌}
use Rattle.twp_grid.specs.Spans.{total, over_positions}
use Rattle.twp_plat.specs.Closing.{CLOSING_MOST}
use Rattle.twp_plat.specs.Pieces.{over_of, OVER_MOST}
use Rattle.twp_plat.specs.Pieces.{ArePieces}
use Rattle.twp_plat.proofs.plat.Plat.township_area.Given as goal

-- the sum of the sections so far
abbrev pub invariant-loop-number : goal.invariant-loop-number
invariant-loop-number l = record {
  over : l.area.over ≡ over_of l.self;
  units : (pieces : ℕ → ℕ → ℕ → ℕ) → ArePieces l.self pieces
      → l.area.units ≡ total (l.number - 1) (λ before. over_positions (pieces (before + 1)));
  most : l.area.units ≤ (l.number - 1) * (16 * (CLOSING_MOST * CLOSING_MOST * OVER_MOST));
  first : 1 ≤ l.number;
}
