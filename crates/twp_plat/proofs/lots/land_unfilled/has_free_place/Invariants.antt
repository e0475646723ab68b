use Rattle.std.proofs.Common.{◌≡◌, ℕ, ◌<◌, true, false}
use Rattle.twp_plat.specs.steps.Unfilled.{HasFreePlace, mark_within}
use Rattle.twp_plat.proofs.lots.land_unfilled.has_free_place.Given as goal

-- whether one of the places so far has no mark
abbrev pub invariant-loop-within : goal.invariant-loop-within
invariant-loop-within l = record {
  free : l.is_free ≡ true → HasFreePlace l.marks.sections l.section l.position;
  marked : l.is_free ≡ false → (within : ℕ) → within < l.within
      → ¬ (mark_within l.marks.sections l.section l.position within ≡ 0);
}
