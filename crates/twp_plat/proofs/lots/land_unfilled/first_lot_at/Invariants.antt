use Rattle.std.proofs.Common.{ℕ, ◌<◌}
use Rattle.twp_plat.specs.steps.Unfilled.{IsLeast, IsRecordOfMark, mark_within}
use Rattle.twp_plat.proofs.lots.land_unfilled.first_lot_at.Given as goal

-- the first record of a lot that the places so far are in
abbrev pub invariant-loop-within : goal.invariant-loop-within
invariant-loop-within l = IsLeast l.first (λ number. (within : ℕ) × (within < l.within)
    × IsRecordOfMark l.lots.records l.section (mark_within l.marks.sections l.section l.position within)
    number)
