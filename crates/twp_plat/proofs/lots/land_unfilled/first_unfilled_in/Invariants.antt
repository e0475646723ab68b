use Rattle.std.proofs.Common.{ℕ, ◌<◌}
use Rattle.twp_plat.specs.steps.Unfilled.{IsLeast, IsUnfilledAt}
use Rattle.twp_plat.proofs.lots.land_unfilled.first_unfilled_in.Given as goal

-- the first record of the positions so far
abbrev pub invariant-loop-position : goal.invariant-loop-position
invariant-loop-position l = IsLeast l.first (λ number. (position : ℕ) × (position < l.position)
    × IsUnfilledAt l.marks.sections l.lots.records l.section position number)
