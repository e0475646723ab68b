use Rattle.std.proofs.Common.{◌≡◌, ℕ, ◌≤◌, ◌<◌, true}
use Rattle.twp_land.specs.steps.Marked.{marked}
use Rattle.twp_land.proofs.lot_map.LotMap.row_meets.Given as goal

-- no place of the row so far is marked so
abbrev pub invariant-loop-column : goal.invariant-loop-column
invariant-loop-column l = record {
  none : (column : ℕ) → l.fn.columns.0 ≤ column → column < l.column
      → ¬ (marked l.self.positions l.self.divided l.section l.least l.most column l.row ≡ true);
}
