use Rattle.std.proofs.Common.{◌≡◌, ℕ, ◌+◌, ◌-◌, ◌*◌, ◌≤◌}
use Rattle.twp_grid.specs.Spans.{total, over_positions}
use Rattle.twp_plat.specs.Closing.{CLOSING_MOST}
use Rattle.twp_plat.specs.Pieces.{over_of, OVER_MOST}
use Rattle.twp_plat.specs.Pieces.{ArePieces}
use Rattle.twp_plat.specs.PlatFigures.{PlatFigures, AreFigures}
use Rattle.twp_answers.specs.PlatAnswers.{texts_to, section_line}
use Rattle.twp_answers.proofs.plat_text.print_plat.Given as goal

-- the lines of the sections so far were written, and their areas were added
abbrev pub invariant-loop-number : goal.invariant-loop-number
invariant-loop-number l = record {
  written : (figures : PlatFigures) → AreFigures l.plat figures
      → l.text.items ≡ texts_to (l.number - 1) (section_line figures);
  over : l.township.over ≡ over_of l.plat;
  units : (pieces : ℕ → ℕ → ℕ → ℕ) → ArePieces l.plat pieces
      → l.township.units ≡ total (l.number - 1) (λ before. over_positions (pieces (before + 1)));
  most : l.township.units ≤ (l.number - 1) * (16 * (CLOSING_MOST * CLOSING_MOST * OVER_MOST));
  first : 1 ≤ l.number;
}
