use Rattle.twp_plat.proofs.PlatFigureFacts.{same_lot}
use Rattle.twp_answers.proofs.plat_text.lot_figure.Goals as goal

pub returns : goal.returns
returns c figures are =
    let found = rw c.unwrap.ensures at c.lot_hundredths.ensures.figure in
    same_lot c.args.plat.now figures c.args.section c.args.lot c.unwrap.result
    c.lot_hundredths.ensures.section are found.0
