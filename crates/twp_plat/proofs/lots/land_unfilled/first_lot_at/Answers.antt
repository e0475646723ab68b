-- Place after place, the first record of a lot is kept.
use Rattle.std.proofs.Common.{◌≡◌, ℕ, ◌<◌, sym, subst, arith}
use Rattle.twp_plat.specs.steps.Unfilled.{IsLeast, IsRecordOfMark, mark_within}
use Rattle.twp_plat.proofs.lots.Filling.{least_next}
use Rattle.twp_plat.proofs.lots.land_unfilled.first_lot_at.Goals as goal

pub loop-within-init : goal.loop-within-init
loop-within-init c = λ number has. absurd (omega (arith, has.1))

pub loop-within-preserved : goal.loop-within-preserved
loop-within-preserved c =
    rw c.earlier-first.ensures
    (least_next c.loop-within.first c.record_of.result
    (λ within number.
    IsRecordOfMark c.args.lots.now.records c.args.section
    (mark_within c.args.marks.now.sections c.args.section c.args.position within) number)
    c.loop-within.within c.loop-within.invariant (rw c.mark-mark.ensures at c.record_of.ensures))

pub returns : goal.returns
returns c =
    let all : c.loop-within.within ≡ 64 =
    omega (arith, c.loop-within-test.false, c.loop-within.auto.within-end) in
    subst (λ end. IsLeast c.loop-within.first (λ number. (within : ℕ) × (within < end)
    × IsRecordOfMark c.args.lots.now.records c.args.section
    (mark_within c.args.marks.now.sections c.args.section c.args.position within) number)) all
    c.loop-within.invariant
