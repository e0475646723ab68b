-- Section after section, the first record is kept.
use Rattle.std.proofs.Common.{◌≡◌, ℕ, ◌≤◌, ◌<◌, sym, subst, arith}
use Rattle.twp_land.proofs.LotFacts.{section_is}
use Rattle.twp_plat.specs.steps.Unfilled.{IsLeast, IsUnfilledIn, IsUnfilledRecord}
use Rattle.twp_plat.proofs.lots.Filling.{least-same, least_next}
use Rattle.twp_plat.proofs.lots.land_unfilled.first_unfilled.Goals as goal

pub loop-number-init : goal.loop-number-init
loop-number-init c =
    λ number has. let less = has.1 in let least = has.2.0 in absurd (omega (arith, less, least))

pub loop-number-preserved : goal.loop-number-preserved
loop-number-preserved c =
    let marks = c.args.marks.now.sections in
    let records = c.args.lots.now.records in
    let number =
    section_is c.loop-number.number c.unwrap-section.result _ c.new.ensures c.unwrap-section.ensures in
    let here = subst (λ s. IsLeast c.first_unfilled_in.result (IsUnfilledIn marks records s)) number
    c.first_unfilled_in.ensures in
    let least : 1 ≤ c.loop-number.number = c.loop-number.auto.number in
    rw c.earlier-first.ensures
    (least_next c.loop-number.first c.first_unfilled_in.result
    (λ section record_number. (1 ≤ section) × IsUnfilledIn marks records section record_number)
    c.loop-number.number c.loop-number.invariant
    (least-same c.first_unfilled_in.result (IsUnfilledIn marks records c.loop-number.number)
    (λ record_number.
    (1 ≤ c.loop-number.number) × IsUnfilledIn marks records c.loop-number.number record_number)
    (λ record_number has. (least, has)) (λ record_number has. has.1) here))

pub returns : goal.returns
returns c =
    let marks = c.args.marks.now.sections in
    let records = c.args.lots.now.records in
    let past = c.loop-number-test.false in
    let end = c.loop-number.auto.number-end in
    least-same c.loop-number.first
    (λ record_number. (section : ℕ) × (section < c.loop-number.number)
    × ((1 ≤ section) × IsUnfilledIn marks records section record_number))
    (IsUnfilledRecord marks records)
    (λ record_number has.
    let less = has.1 in
    (has.0, (has.2.0, omega (arith, less, past, end)), has.2.1))
    (λ record_number has.
    let most = has.1.1 in
    (has.0, omega (arith, most, past), (has.1.0, has.2))) c.loop-number.invariant
