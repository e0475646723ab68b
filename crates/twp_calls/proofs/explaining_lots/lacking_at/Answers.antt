-- The place is that of no section, or of a lot that the section doesn't have, or that the table has.
use Rattle.std.proofs.Common.{◌≡◌, ◌%◌, ◌∙◌, arith, subst, sym}
use Rattle.twp_grid.specs.Lands.{HasLot}
use Rattle.twp_plat.specs.LotTables.{figure_of, lots_of}
use Rattle.twp_calls.proofs.LotExplanationFacts.{lot_below, some_figure}
use Rattle.twp_calls.proofs.explaining_lots.lacking_at.Goals as goal

pub returns-then-at-gt36 : goal.returns-then-at-gt36
returns-then-at-gt36 c = λ section lot is.
    let below = lot_below c.args.lots.now section lot is.lot_is in
    omega (arith, is.section_is.1, is.place_is, below)

pub returns-then-not-has_lot : goal.returns-then-not-has_lot
returns-then-not-has_lot c = λ section lot is.
    let below = lot_below c.args.lots.now section lot is.lot_is in
    let same : c.in_ok-section.section ≡ section =
    omega (arith, c.in_ok-section.ensures.1, is.place_is, below) in
    let number : c.from.result ≡ lot = omega (arith, c.from.ensures, is.place_is, below) in
    let has =
    subst (λ n. HasLot (lots_of c.args.lots.now) c.in_ok-section.section n) (sym number)
    (subst (λ s. HasLot (lots_of c.args.lots.now) s lot) (sym same) is.lot_is) in
    cc (c.has_lot.ensures.1 has, c.if-not-has_lot.true)

pub returns-then-is_some : goal.returns-then-is_some
returns-then-is_some c = λ section lot is.
    let below = lot_below c.args.lots.now section lot is.lot_is in
    let same : c.in_ok-section.section ≡ section =
    omega (arith, c.in_ok-section.ensures.1, is.place_is, below) in
    let number : c.args.at % 100 ≡ lot = omega (arith, is.place_is, below) in
    some_figure c.figure.result _ c.figure.ensures.figure (sym c.is_some.ensures ∙ c.if-is_some.true)
    (subst (λ n. figure_of c.args.lots.now c.in_ok-section.section n ≡ 0) (sym number)
    (subst (λ s. figure_of c.args.lots.now s lot ≡ 0) (sym same) is.lacks))
