-- The answer of the plat run: the printed plat, or the refusal.
use Rattle.std.specs.Prelude.{◌≡◌, ℕ, zero, suc, List, [], ◌∷◌, ◌++◌, codes, decimal}
use Rattle.twp_measure.specs.Areas.{acres_text}
use Rattle.twp_grid.specs.Winding.{SECTION_COUNT}
use Rattle.twp_grid.specs.Lots.{number_of_lots}
use Rattle.twp_grid.specs.Townships.{line_feed}
use Rattle.twp_plat.specs.Plats.{SurveyPlat}
use Rattle.twp_plat.specs.PlatFigures.{PlatFigures, AreFigures}
use Rattle.twp_answers.specs.Answers.{AnswersRefusal, ArePlatted, IsNoPlat}
use Rattle.twp_answers.specs.declared.stop.Verdict.{Verdict}
use Rattle.twp_answers.specs.declared.stop.Verdict.TheVariants.{Accepted, Refused, TractRefused}

-- the texts of the numbers from 1 on, one after another
unfoldable pub texts_to : ℕ → (ℕ → List ℕ) → List ℕ
texts_to zero text = []
texts_to (suc n) text = texts_to n text ++ text (suc n)

-- the text of a lot, such as `lot 1 40.45, `
abbrev pub lot_text : ℕ → ℕ → List ℕ
lot_text lot hundredths =
    codes "lot " ++ decimal lot ++ codes " " ++ acres_text hundredths ++ codes ", "

-- the text of a total, such as `total 642.40`, and a line feed
abbrev pub total_text : ℕ → List ℕ
total_text hundredths = codes "total " ++ acres_text hundredths ++ line_feed ∷ []

-- the name of a section, such as `sec. 5: `
abbrev pub section_name : ℕ → List ℕ
section_name section = codes "sec. " ++ decimal section ++ codes ": "

-- the texts of a section's lots
abbrev pub lots_text : PlatFigures → ℕ → List ℕ
lots_text figures section =
    texts_to (number_of_lots section) (λ lot. lot_text lot (figures.lots section lot))

-- the line of a section, such as `sec. 5: lot 1 40.45, lot 2 40.55, lot 3 40.65, lot 4 40.75, total
-- 642.40`
abbrev pub section_line : PlatFigures → ℕ → List ℕ
section_line figures section =
    section_name section ++ lots_text figures section ++ total_text (figures.sections section)

-- the plat's 37 lines: its sections, and then the township, such as `township total 23037.57`
abbrev pub plat_text : PlatFigures → List ℕ
plat_text figures =
    texts_to SECTION_COUNT (section_line figures)
    ++ codes "township " ++ total_text figures.township

-- The bytes are field notes that make a plat, and this is its text.
pub record IsPrintedPlat (notes text : List ℕ) : Type 0 where
  pub plat : SurveyPlat
  pub platted : ArePlatted notes plat
  pub figures : PlatFigures
  pub are : AreFigures plat figures
  pub text_is : text ≡ plat_text figures

-- The printed plat, if the notes make one; otherwise the refusal of the first fault.
abbrev pub IsPlatAnswer : List ℕ → List ℕ → Verdict → Type 0
IsPlatAnswer notes answer Accepted = IsPrintedPlat notes answer
IsPlatAnswer notes answer (Refused refusal) =
    AnswersRefusal (IsNoPlat notes) refusal answer
IsPlatAnswer notes answer (TractRefused at inner) = ⊥
