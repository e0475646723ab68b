use Rattle.std.proofs.Common.{◌≡◌, ℕ, ◌+◌, ◌<◌, get_or}
use Rattle.twp_land.proofs.dividing.copy_marks.Given as goal

-- the marks so far are copied
abbrev pub invariant-loop-within : goal.invariant-loop-within
invariant-loop-within l = record {
  copied : (n d : ℕ) → n < l.within → get_or l.divided (l.to + n) d ≡ get_or l.marks (l.first + n) 0;
  others : (index d : ℕ) → index < l.to → get_or l.divided index d ≡ get_or l.fn.divided index d;
}
