-- A place of the position has no mark, and another one has one.
use Rattle.std.proofs.Common.{arith}
use Rattle.twp_plat.specs.steps.Unfilled.{IsLotRecordAt, IsUnfilledAt}
use Rattle.twp_plat.proofs.lots.Filling.{least-same}
use Rattle.twp_plat.proofs.lots.land_unfilled.first_unfilled_at.Goals as goal

pub returns : goal.returns
returns c =
    let marks = c.args.marks.now.sections in
    let records = c.args.lots.now.records in
    let free = c.has_free_place.ensures.0 c.if-not-has_free_place.false in
    least-same c.first_lot_at.result (IsLotRecordAt marks records c.args.section c.args.position)
    (IsUnfilledAt marks records c.args.section c.args.position) (λ number has. (free, has))
    (λ number has. has.1) c.first_lot_at.ensures

pub returns-then-not-has_mark : goal.returns-then-not-has_mark
returns-then-not-has_mark c number unfilled =
    let lot = unfilled.1 in
    let some = lot.2.0.0 in
    absurd
    (cc (c.has_mark.ensures.1 (lot.0, lot.1, λ none. omega (arith, some, none)), c.if-not-has_mark.true))
