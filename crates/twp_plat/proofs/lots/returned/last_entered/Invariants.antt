use Rattle.std.proofs.Common.{◌≡◌, ℕ, ◌<◌, ◌≤◌, get_or}
use Rattle.twp_plat.proofs.lots.returned.last_entered.Given as goal

-- nothing is entered for the lots so far after the last
abbrev pub invariant-loop-index : goal.invariant-loop-index
invariant-loop-index l = record {
  most : l.last ≤ l.index;
  rest : (index : ℕ) → l.last ≤ index → index < l.index → get_or l.entered index 0 ≡ 0;
}
