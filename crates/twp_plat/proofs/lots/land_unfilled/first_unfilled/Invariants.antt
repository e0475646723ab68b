use Rattle.std.proofs.Common.{ℕ, ◌≤◌, ◌<◌}
use Rattle.twp_plat.specs.steps.Unfilled.{IsLeast, IsUnfilledIn}
use Rattle.twp_plat.proofs.lots.land_unfilled.first_unfilled.Given as goal

-- the first record of the sections so far
abbrev pub invariant-loop-number : goal.invariant-loop-number
invariant-loop-number l = IsLeast l.first (λ number. (section : ℕ) × (section < l.number)
    × ((1 ≤ section) × IsUnfilledIn l.marks.sections l.lots.records section number))
