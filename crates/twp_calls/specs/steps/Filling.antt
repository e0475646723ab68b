-- How the figures of a plat are filled in, place by place. No public contract cites this module.
use Rattle.std.specs.Prelude.{◌≡◌, ℕ, ◌+◌, ◌<◌, ◌/◌, ◌%◌, List, slice_index_or}
use Rattle.twp_plat.specs.PlatFigures.{PlatFigures}
use Rattle.twp_calls.specs.Figures.{LOTS_MOST, IsLotOrNone}

-- the number is that of the lot, if there is one, whose figure has this place
abbrev pub IsOfPlace : PlatFigures → ℕ → ℕ → Type 0
IsOfPlace shown place = IsLotOrNone shown (place / LOTS_MOST + 1) (place % LOTS_MOST + 1)

-- the places of lots, up to this number of them, are filled
abbrev pub AreLotsTo : PlatFigures → ℕ → List ℕ → Type 0
AreLotsTo shown count lots = (place : ℕ) → place < count → IsOfPlace shown place (slice_index_or lots place 0)

-- the places of sections, up to this number of them, are filled
abbrev pub AreSectionsTo : PlatFigures → ℕ → List ℕ → Type 0
AreSectionsTo shown count sections = (place : ℕ) → place < count
    → slice_index_or sections place 0 ≡ shown.sections (place + 1)
