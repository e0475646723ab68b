-- The figures of a printed plat as numbers, in hundredths of an acre: the same figures as in its text.
use Rattle.std.specs.Prelude.{◌≡◌, ℕ, ◌+◌, ◌-◌, ◌*◌, ◌≤◌, ◌<◌, slice_index_or}
use Rattle.twp_grid.specs.Winding.{IsSection}
use Rattle.twp_grid.specs.Lots.{number_of_lots}
use Rattle.twp_plat.specs.Plats.{SurveyPlat}
use Rattle.twp_plat.specs.PlatFigures.{PlatFigures, AreFigures}
use Rattle.twp_calls.specs.Answers.{ACCEPTED, bare}
use Rattle.twp_calls.specs.Calls.{OnPlat}
use Rattle.twp_calls.specs.declared.answer.TownshipAnswer.{TownshipAnswer}
use Rattle.twp_calls.specs.declared.figures.TownshipPlatFigures.{TownshipPlatFigures}
use Rattle.twp_calls.specs.declared.plat.TownshipPlat.{TownshipPlat}

-- each section has places for seven lots, the most that a section has
abbrev pub LOTS_MOST : ℕ
LOTS_MOST = 7

-- the place of a lot's figure: the sections are in the order of their numbers
abbrev pub place_of_lot : ℕ → ℕ → ℕ
place_of_lot section lot = LOTS_MOST * (section - 1) + (lot - 1)

-- the number is the figure of a lot, or 0 if the section has no lot with this number
pub record IsLotOrNone (shown : PlatFigures) (section number hundredths : ℕ) : Type 0 where
  pub lot : 1 ≤ number → number ≤ number_of_lots section → hundredths ≡ shown.lots section number
  pub none : number_of_lots section < number → hundredths ≡ 0

-- the numbers are these figures
pub record AreNumbersOf (shown : PlatFigures) (figures : TownshipPlatFigures) : Type 0 where
  pub lots : (section number : ℕ) → IsSection section → 1 ≤ number → number ≤ LOTS_MOST
      → IsLotOrNone shown section number (slice_index_or figures.lots (place_of_lot section number) 0)
  pub sections : (section : ℕ) → IsSection section
      → slice_index_or figures.sections (section - 1) 0 ≡ shown.sections section
  pub township : figures.township ≡ shown.township

-- the numbers are the figures that the plat shows
pub record ShowsFigures (plat : SurveyPlat) (figures : TownshipPlatFigures) : Type 0 where
  pub shown : PlatFigures
  pub are : AreFigures plat shown
  pub numbers : AreNumbersOf shown figures

-- `township_figures`: the figures that the plat shows, which nothing refuses
pub record AnswersFigures (plat : SurveyPlat) (new : TownshipPlatFigures) (answer : TownshipAnswer)
    : Type 0 where
  pub shows : ShowsFigures plat new
  pub answer_is : answer ≡ bare ACCEPTED

abbrev pub IsFiguresCall : TownshipPlat → TownshipPlatFigures → TownshipAnswer → Type 0
IsFiguresCall given new = OnPlat given (λ plat. AnswersFigures plat new)
