-- The lines of figures, one more at a time, and the account that they make.
use Rattle.std.proofs.Common.{◌≡◌, ℕ, ◌≤◌, List, [], ◌∷◌, ◌++◌, length, ap, sym, ◌∙◌, append-nil}
use Rattle.std.specs.List.{flat_map}
use Rattle.std.proofs.lemmas.Grind.{flat_map-append}
use Rattle.twp_measure.specs.Areas.{IsRounded}
use Rattle.twp_notes.specs.Records.{Fields, record_numbered, records_of}
use Rattle.twp_plat.specs.Plats.{SurveyPlat}
use Rattle.twp_answers.specs.AccountFigures.{line_of}
use Rattle.twp_answers.specs.ReportAnswers.{tract_line, total_lines, IsAccountOf}
use Rattle.twp_answers.specs.Tracts.{TRACTS_LIMIT, TRACTS_MOST, tracts_heading, tract_records}
use Rattle.twp_answers.specs.declared.account_figures.TractFigure.{TractFigure}
use Rattle.twp_answers.specs.steps.TractTaking.{Tally, IsTallyOf}
use Rattle.twp_answers.proofs.TallyFacts.{accepted}

-- the line of one more figure was appended
pub next_line : (old new : List ℕ) (figures longer : List TractFigure) (figure : TractFigure) (name : List ℕ)
    (hundredths : ℕ) → old ≡ flat_map line_of figures → new ≡ old ++ tract_line name hundredths
    → longer ≡ figures ++ figure ∷ [] → figure.name.bytes ≡ name → figure.hundredths ≡ hundredths
    → new ≡ flat_map line_of longer
next_line old new figures longer figure name hundredths before after more name_is hundredths_is =
    after ∙ ap (λ t. t ++ tract_line name hundredths) before
    ∙ ap (λ n. flat_map line_of figures ++ tract_line n hundredths) (sym name_is)
    ∙ ap (λ h. flat_map line_of figures ++ tract_line figure.name.bytes h) (sym hundredths_is)
    ∙ ap (λ t. flat_map line_of figures ++ t) (sym (append-nil (line_of figure)))
    ∙ sym (flat_map-append line_of figures (figure ∷ []))
    ∙ ap (flat_map line_of) (sym more)

-- the figures of all tracts make the account
pub account_of_figures : (plat : SurveyPlat) (bytes : List ℕ) (rest : List Fields) (tally : Tally)
    (figures : List TractFigure) (total remaining : ℕ)
    → length bytes ≤ TRACTS_LIMIT
    → record_numbered (records_of bytes) 1 ≡ tracts_heading → tract_records bytes ≡ rest
    → length rest ≤ TRACTS_MOST
    → IsTallyOf plat rest (length rest) tally
    → tally.text ≡ flat_map line_of figures
    → IsRounded tally.totals.total total → IsRounded tally.totals.remaining remaining
    → IsAccountOf plat bytes (flat_map line_of figures ++ total_lines total remaining)
account_of_figures plat bytes rest tally figures total remaining size heading_is after few taken lines
    total_is remaining_is =
    accepted plat bytes (flat_map line_of figures ++ total_lines total remaining) rest tally size heading_is
    after few taken
    (record {
      total = total;
      total_is =
          record { area = tally.totals.total; area_is = taken.totals_are.total_is; rounded = total_is };
      remaining = remaining;
      remaining_is = record {
        area = tally.totals.remaining;
        area_is = taken.totals_are.remaining_is;
        rounded = remaining_is;
      };
      text_is = ap (λ t. t ++ total_lines total remaining) (sym lines);
    })
