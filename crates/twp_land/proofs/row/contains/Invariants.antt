use Rattle.std.proofs.Common.{◌≡◌, ℕ, ◌<◌, get_or, true, false}
use Rattle.twp_land.proofs.row.contains.Given as goal

abbrev pub invariant-loop-column : goal.invariant-loop-column
invariant-loop-column l =
    (k : ℕ) → k < l.column → get_or l.other k false ≡ true → get_or l.row k false ≡ true
