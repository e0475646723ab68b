-- The section has this figure.
use Rattle.std.proofs.Common.{◌+◌, arith}
use Rattle.twp_calls.proofs.FigureFacts.{section_figure, section_is}
use Rattle.twp_calls.proofs.figures.section_at.Goals as goal

pub returns : goal.returns
returns c = λ shown are.
    let section =
    section_is (c.args.place + 1) c.unwrap-section.result _ c.new.ensures c.unwrap-section.ensures in
    section_figure c.args.plat.now shown (c.args.place + 1) c.hundredths.result c.section_area-area.result are
    (omega (arith, c.requires)) (rw section at c.section_area-area.ensures.sum) c.hundredths.ensures
