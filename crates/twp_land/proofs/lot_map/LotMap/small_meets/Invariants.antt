use Rattle.std.proofs.Common.{◌≡◌, ℕ, ◌≤◌, ◌<◌, true}
use Rattle.twp_land.specs.steps.Marked.{marked}
use Rattle.twp_land.proofs.lot_map.LotMap.small_meets.Given as goal

-- no place of the rows so far is marked so
abbrev pub invariant-loop-row : goal.invariant-loop-row
invariant-loop-row l = record {
  none : (column row : ℕ) → l.columns.0 ≤ column → column < l.columns.1
      → l.fn.block.rows.start ≤ row → row < l.row
      → ¬ (marked l.self.positions l.self.divided l.section l.least l.most column row ≡ true);
}
