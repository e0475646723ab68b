-- Lot tables: the lots of a township's approved plat, and the acreage that it returns for each. The limits
-- are this project's.
use Rattle.std.specs.Prelude.{◌≡◌, ℕ, zero, suc, ◌+◌, ◌-◌, ◌≤◌, ◌<◌, ◌==◌, nat_le, nat_lt, List, [], get_or}
use Rattle.std.specs.Prelude.{if◌then◌else◌, count_by}
use Rattle.twp_grid.specs.Winding.{IsSection, SECTION_COUNT}
use Rattle.twp_grid.specs.Lots.{Lot, lots, number_of_lots}
use Rattle.twp_grid.specs.Spans.{total, one_where}
use Rattle.twp_grid.specs.Lands.{LOT_NUMBER_MOST, Lotting, lotting}
use Rattle.twp_land.specs.LotMaps.{layout_of_plat}
use Rattle.twp_plat.specs.declared.lots.returned.ReturnedLots.{ReturnedLots}

-- the greatest acreage of a lot, in hundredths of an acre: 999.99 acres
abbrev pub FIGURE_MOST : ℕ
FIGURE_MOST = 99999

-- the most lots of a township for which acreage can be returned
abbrev pub RETURNED_MOST : ℕ
RETURNED_MOST = 1024

-- a figure, or 0 if it is above the greatest
abbrev pub figure_within : ℕ → ℕ
figure_within figure = if nat_le figure FIGURE_MOST then figure else 0

-- of a number of lots, from an index on, the figure of the first that has this number; 0 if none has it
abbrev pub figure_among : List ℕ → List ℕ → ℕ → ℕ → ℕ → ℕ
figure_among figures numbers number index zero = 0
figure_among figures numbers number index (suc left) =
    if get_or numbers index 0 == number
    then figure_within (get_or figures index 0)
    else figure_among figures numbers number (index + 1) left

-- the hundredths of an acre that are returned for a section's lot, or 0 if none are
abbrev pub figure_of : ReturnedLots → ℕ → ℕ → ℕ
figure_of lots section number =
    figure_among lots.figures lots.numbers number (get_or lots.first (section - 1) 0)
    (get_or lots.first section 0 - get_or lots.first (section - 1) 0)

-- the lots of the plat
abbrev pub lots_of : ReturnedLots → Lotting
lots_of lots =
    lotting (layout_of_plat lots.plat.mapped lots.plat.map.positions lots.plat.map.divided)

-- what is entered for a section's lot: hundredths of an acre, or 0
abbrev pub entered_for : List (List ℕ) → ℕ → ℕ → ℕ
entered_for entered section number = get_or (get_or entered (section - 1) []) (number - 1) 0

-- for how many lots something is entered
abbrev pub entered_count : List (List ℕ) → ℕ
entered_count entered = total SECTION_COUNT (λ before. total LOT_NUMBER_MOST (λ less.
    one_where (nat_lt 0 (entered_for entered (before + 1) (less + 1)))))

-- the figures are those that are entered, and lots with greater numbers than a lot may have have none
pub record AreReturned (entered : List (List ℕ)) (lots : ReturnedLots) : Type 0 where
  pub each : (section number : ℕ) → IsSection section → 1 ≤ number → number ≤ LOT_NUMBER_MOST
      → figure_of lots section number ≡ figure_within (entered_for entered section number)
  pub beyond : (section number : ℕ) → IsSection section → LOT_NUMBER_MOST < number
      → figure_of lots section number ≡ 0

-- the number of standard lots in a township
abbrev pub LOT_COUNT : ℕ
LOT_COUNT = 47

-- how many standard lots the sections of lower numbers have
unfoldable pub lots_before : ℕ → ℕ
lots_before section = count_by (λ (l : Lot). nat_lt l.section section) lots

-- a standard lot's index in the table of lots
abbrev pub lot_index : ℕ → ℕ → ℕ
lot_index section number = lots_before section + (number - 1)

-- the section has a standard lot with this number
abbrev pub IsLotNumber : ℕ → ℕ → Type 0
IsLotNumber section number = (1 ≤ number) × (number ≤ number_of_lots section)

-- the figure of a standard lot, by its index; 0 if there is no such lot
abbrev pub standard_figure : List ℕ → ℕ → ℕ → ℕ
standard_figure figures section number =
    if nat_le number (number_of_lots section)
    then figure_within (get_or figures (lot_index section number) 0)
    else 0
