use Rattle.std.proofs.Common.{◌≡◌, ℕ, ◌+◌, ◌<◌, get_or, true, false}
use Rattle.twp_land.proofs.row.each_held.Given as goal

abbrev pub invariant-loop-along : goal.invariant-loop-along
invariant-loop-along l = (k : ℕ) → k < l.along → get_or l.row (l.start + k) false ≡ true
