use Rattle.std.proofs.Common.{◌≡◌, ℕ, ◌<◌, true, false}
use Rattle.twp_plat.specs.steps.Unfilled.{HasMarkedPlace, mark_within}
use Rattle.twp_plat.proofs.lots.land_unfilled.has_mark.Given as goal

-- whether one of the places so far has a mark
abbrev pub invariant-loop-within : goal.invariant-loop-within
invariant-loop-within l = record {
  marked : l.is_marked ≡ true → HasMarkedPlace l.marks.sections l.section l.position;
  free : l.is_marked ≡ false → (within : ℕ) → within < l.within
      → mark_within l.marks.sections l.section l.position within ≡ 0;
}
