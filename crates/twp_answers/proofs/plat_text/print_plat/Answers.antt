use Rattle.std.proofs.Common.{ap, sym, ◌∙◌, arith}
use Rattle.twp_measure.specs.Areas.{Fraction}
use Rattle.twp_grid.specs.Spans.{over_positions}
use Rattle.twp_grid.proofs.TotalFacts.{total-zero}
use Rattle.twp_land.proofs.LotFacts.{section_is}
use Rattle.twp_plat.proofs.AreaSums.{sections_next, sections_most, township_area}
use Rattle.twp_plat.proofs.PlatFigureFacts.{same_township, figures_of}
use Rattle.twp_answers.specs.PlatAnswers.{section_line}
use Rattle.twp_answers.proofs.PlatTexts.{no_texts, lines_grow, lines_all, lines_end}
use Rattle.twp_answers.proofs.plat_text.print_plat.Goals as goal

pub loop-number-init : goal.loop-number-init
loop-number-init c =
    let none = ap (λ (a : Fraction). a.units) c.zero-township.ensures in
    record {
      written = λ figures are. c.new-text.ensures.items ∙ sym (no_texts (section_line figures));
      over = ap (λ (a : Fraction). a.over) c.zero-township.ensures ∙ c.over.ensures.value;
      units = λ pieces are. none ∙ sym (total-zero _);
      most = omega (arith, none);
      first = omega arith;
    }

pub loop-number-preserved : goal.loop-number-preserved
loop-number-preserved c =
    let at = c.loop-number.invariant in
    let area = c.section_area-area.ensures in
    let sum = c.plus-township.ensures in
    let number =
    section_is c.loop-number.number c.unwrap-section.result _ c.new.ensures c.unwrap-section.ensures in
    record {
      written = λ figures are.
          lines_grow c.loop-number.number c.loop-number.text.items _ _ (section_line figures) at.first
          (at.written figures are) (c.in_ok-write_section.ensures.ok figures are)
          (ap (section_line figures) number);
      over = sum.over ∙ at.over;
      units = λ pieces are.
          sum.units
          ∙ sections_next c.loop-number.number c.loop-number.township.units c.section_area-area.result.units
          (λ section. over_positions (pieces section)) at.first (at.units pieces are)
          (rw number at (area.units pieces are));
      most =
          rw sum.units
          (sections_most c.loop-number.number _ c.loop-number.township.units
          c.section_area-area.result.units at.first at.most area.most);
      first = omega arith;
    }

pub returns : goal.returns
returns c =
    let at = c.loop-number.invariant in
    let area =
    township_area c.args.plat.now c.loop-number.number c.loop-number.township c.over.ensures.plat at.over
    (omega arith) at.units in
    let (figures, are) =
    figures_of c.args.plat.now c.loop-number.township area (omega (arith, c.over.ensures.range)) in
    let figure =
    same_township c.args.plat.now c.hundredths.result _ c.loop-number.township area c.hundredths.ensures
    are.township in
    let lines =
    lines_all c.loop-number.number c.loop-number.text.items (section_line figures) (omega arith)
    (at.written figures are) in
    let total = rw figure at c.in_ok-write_total.ensures.ok in
    record {
      figures = figures;
      are = are;
      text_is = lines_end _ _ _ _ _ _ lines c.in_ok-extend_from_slice.ensures.items total;
    }
