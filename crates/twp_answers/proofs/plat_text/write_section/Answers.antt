use Rattle.std.proofs.Common.{◌≡◌, ℕ, ◌+◌, List, ap, arith}
use Rattle.twp_grid.specs.Lots.{number_of_lots}
use Rattle.twp_plat.specs.PlatFigures.{PlatFigures}
use Rattle.twp_plat.proofs.PlatFigureFacts.{same_section}
use Rattle.twp_answers.specs.PlatAnswers.{section_name, lot_text, total_text, lots_text}
use Rattle.twp_answers.proofs.PlatTexts.{texts_begin, texts_grow, texts_end, on_ok}
use Rattle.twp_answers.proofs.plat_text.write_section.Goals as goal

-- the texts of the section's lots, by number
abbrev texts : PlatFigures → ℕ → ℕ → List ℕ
texts figures section lot = lot_text lot (figures.lots section lot)

pub loop-lots_before-init : goal.loop-lots_before-init
loop-lots_before-init c = record {
  written = λ figures are.
      texts_begin c.args.text.now.items (section_name c.args.section) _ (texts figures c.args.section)
      c.in_ok-write_section_name.ensures.ok;
}

pub loop-lots_before-preserved : goal.loop-lots_before-preserved
loop-lots_before-preserved c = record {
  written = λ figures are.
      texts_grow c.args.text.now.items (section_name c.args.section) c.loop-lots_before.text.items _ _
      c.loop-lots_before.lots_before (texts figures c.args.section)
      (c.loop-lots_before.invariant.written figures are) c.in_ok-write_lot.ensures.ok
      (ap (lot_text (c.loop-lots_before.lots_before + 1)) (c.lot_figure.ensures figures are));
}

pub returns : goal.returns
returns c = record {
  ok = λ figures are.
      let all : c.loop-lots_before.lots_before ≡ number_of_lots c.args.section = omega arith in
      let lots = rw all at (c.loop-lots_before.invariant.written figures are) in
      let range = c.lot_count-lots_before-end.ensures.section in
      let figure =
      same_section c.args.plat.now c.args.section c.hundredths.result _ c.args.area.now range c.requires.area
      c.hundredths.ensures (are.sections c.args.section range) in
      let total = rw figure at c.write_total.ensures.ok in
      on_ok c.write_total.result _ _ total
      (texts_end c.args.text.now.items (section_name c.args.section) (lots_text figures c.args.section)
      c.loop-lots_before.text.items _ (total_text (figures.sections c.args.section)) lots);
}
