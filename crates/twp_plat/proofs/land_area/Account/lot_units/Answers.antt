use Rattle.std.proofs.Common.{◌≡◌, ℕ, ◌*◌, ap, refl, sym, ◌∙◌}
use Rattle.twp_land.proofs.LotFacts.{has_lot}
use Rattle.twp_plat.specs.Pieces.{ArePieces}
use Rattle.twp_plat.specs.steps.Accounts.{ArePrintedUnits}
use Rattle.twp_plat.proofs.SectionPieces.{piece_at}
use Rattle.twp_plat.proofs.AreaFacts.{lot_at_is}
use Rattle.twp_plat.proofs.PlatFigureFacts.{same_lot}
use Rattle.twp_plat.proofs.land_area.Account.lot_units.Goals as goal

pub returns-in-Exact-clause-units : goal.returns-in-Exact-clause-units
returns-in-Exact-clause-units c = λ units column row by there.
    let are : ArePieces c.args.plat.now units = rw c.in-Exact.is at by in
    let section : ℕ = c.args.section in
    let p : ℕ × ℕ = c.unwrap-column.result in
    let at = lot_at_is section c.args.lot _ p c.lot_place.ensures.position
    c.lot_place.ensures.within c.unwrap-column.ensures in
    let piece = piece_at c.args.plat.now units section p.0 p.1 c.piece_area.result are
    c.lot_place.ensures.section at.within c.piece_area.ensures.piece c.piece_area.ensures.over in
    let place : ℕ × ℕ = (column, row) in
    let same : p ≡ place = cc (sym at.position ∙ there) in
    c.units.ensures.value ∙ piece ∙ ap (λ (q : ℕ × ℕ). units section q.0 q.1) same

pub returns-in-Plat-clause-units : goal.returns-in-Plat-clause-units
returns-in-Plat-clause-units c = λ units column row by there.
    let are : ArePrintedUnits c.args.plat.now units = rw c.in-Plat.is at by in
    let section : ℕ = c.args.section in
    let range = c.lot_hundredths.ensures.section in
    let found = rw c.unwrap-hundredths.ensures at c.lot_hundredths.ensures.figure in
    let figure = same_lot c.args.plat.now are.figures section c.args.lot c.unwrap-hundredths.result range
    are.are found.0 in
    let fills = has_lot section c.args.lot column row range c.requires.most there in
    let unit : units section column row ≡ 100000 * are.figures.lots section c.args.lot =
    ap (λ (f : ℕ → ℕ → ℕ → ℕ). f section column row) are.units_are ∙ rw fills refl in
    ap (λ h. 100000 * h) (c.from.ensures ∙ figure) ∙ sym unit
