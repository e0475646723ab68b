-- Position after position, the first record is kept.
use Rattle.std.proofs.Common.{◌≡◌, ℕ, ◌<◌, subst, arith}
use Rattle.twp_plat.specs.steps.Unfilled.{IsLeast, IsUnfilledAt}
use Rattle.twp_plat.proofs.lots.Filling.{least_next}
use Rattle.twp_plat.proofs.lots.land_unfilled.first_unfilled_in.Goals as goal

pub loop-position-preserved : goal.loop-position-preserved
loop-position-preserved c =
    rw c.earlier-first.ensures
    (least_next c.loop-position.first c.first_unfilled_at.result
    (IsUnfilledAt c.args.marks.now.sections c.args.lots.now.records c.args.section) c.loop-position.position
    c.loop-position.invariant c.first_unfilled_at.ensures)

pub returns : goal.returns
returns c =
    let all : c.loop-position.position ≡ 16 =
    omega (arith, c.loop-position-test.false, c.loop-position.auto.position-end) in
    subst (λ end. IsLeast c.loop-position.first (λ number. (position : ℕ) × (position < end)
    × IsUnfilledAt c.args.marks.now.sections c.args.lots.now.records c.args.section position number)) all
    c.loop-position.invariant
