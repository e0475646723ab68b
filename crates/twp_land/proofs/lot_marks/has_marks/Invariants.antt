use Rattle.std.proofs.Common.{◌≡◌, ◌≢◌, ◌+◌, ◌<◌, ℕ, true, false, get_or}
use Rattle.twp_land.proofs.lot_marks.has_marks.Given as goal

-- whether one of the places so far has a mark
abbrev pub invariant-loop-within : goal.invariant-loop-within
invariant-loop-within l = record {
  some : l.is_marked ≡ true
      → (within : ℕ) × (within < 64) × (get_or l.marks (l.first + within) 0 ≢ 0);
  none : l.is_marked ≡ false → (within : ℕ) → within < l.within
      → get_or l.marks (l.first + within) 0 ≡ 0;
}
