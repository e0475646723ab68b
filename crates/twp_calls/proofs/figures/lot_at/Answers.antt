-- The lot has this figure, or there is no such lot.
use Rattle.std.proofs.Common.{◌+◌, ◌/◌, arith}
use Rattle.twp_calls.proofs.FigureFacts.{lot_or_none, section_is}
use Rattle.twp_calls.proofs.figures.lot_at.Goals as goal

pub returns : goal.returns
returns c = λ shown are.
    let section =
    section_is (c.args.place / 7 + 1) c.unwrap-section.result _ c.new.ensures c.unwrap-section.ensures in
    rw c.unwrap_or.ensures
    (rw section at
    (lot_or_none c.args.plat.now shown c.unwrap-section.result _ c.lot_hundredths-found.result are
    c.lot_hundredths-found.ensures.section (omega arith) c.lot_hundredths-found.ensures.figure
    c.lot_hundredths-found.ensures.has))
