use Rattle.std.proofs.Common.{◌≡◌, ◌++◌}
use Rattle.twp_plat.specs.PlatFigures.{PlatFigures, AreFigures}
use Rattle.twp_answers.specs.PlatAnswers.{section_name, texts_to, lot_text}
use Rattle.twp_answers.proofs.plat_text.write_section.Given as goal

-- the section's name and the lots so far were written
abbrev pub invariant-loop-lots_before : goal.invariant-loop-lots_before
invariant-loop-lots_before l = record {
  written : (figures : PlatFigures) → AreFigures l.plat figures
      → l.text.items ≡ l.fn.text.items ++ (section_name l.section ++ texts_to l.lots_before (λ lot.
      lot_text lot (figures.lots l.section lot)));
}
