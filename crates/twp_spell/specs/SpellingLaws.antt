-- Laws of written parts and of canonical texts.
use Rattle.std.specs.Prelude.{◌≡◌, ◌↔◌, ℕ, suc, Bool, true, List, []}
use Rattle.std.specs.List.{Contains, AllPairs}
use Rattle.twp_grid.specs.Places.{IsPlace}
use Rattle.twp_grid.specs.Townships.{Designation}
use Rattle.twp_grid.specs.Lands.{Lotting, AreLots, no_places}
use Rattle.twp_grid.specs.FinerLands.{cut_in_four}
use Rattle.twp_spell.specs.CanonicalText.{IsCanonicalText}
use Rattle.twp_spell.specs.WrittenParts.{Part, IsInPart, AreWrittenParts}

-- the land in a section is written as only one list of parts
abbrev pub OneListOfParts : Type 0
OneListOfParts = (g : ℕ) (held : ℕ → ℕ → Bool)
    → (parts : List Part) × AreWrittenParts g held parts
    × ((other : List Part) → AreWrittenParts g held other → other ≡ parts)

-- no place lies in two written parts
abbrev pub WrittenPartsAreApart : Type 0
WrittenPartsAreApart = (g : ℕ) (held : ℕ → ℕ → Bool) (parts : List Part)
    → AreWrittenParts g held parts
    → AllPairs (λ part other. (column row : ℕ)
    → IsInPart g part column row → ¬ IsInPart g other column row) parts

-- a place is in the land exactly if it is in a written part
abbrev pub WrittenPartsHoldAll : Type 0
WrittenPartsHoldAll = (g : ℕ) (held : ℕ → ℕ → Bool) (parts : List Part)
    → AreWrittenParts g held parts → (column row : ℕ) → IsPlace g column row
    → (held column row ≡ true)
    ↔ ((part : Part) × Contains parts part × IsInPart g part column row)

-- if each place is divided into four, the written parts are the same
abbrev pub FinerPlacesSameParts : Type 0
FinerPlacesSameParts = (g : ℕ) (held : ℕ → ℕ → Bool) (parts : List Part)
    → AreWrittenParts g held parts ↔ AreWrittenParts (suc g) (cut_in_four held) parts

-- land in a township has exactly one canonical text
abbrev pub OneCanonicalText : Type 0
OneCanonicalText = (plan : Lotting) → AreLots plan → (township : Designation)
    (places : ℕ → ℕ → ℕ → Bool) → (text : List ℕ) × IsCanonicalText plan township places text
    × ((other : List ℕ) → IsCanonicalText plan township places other → other ≡ text)

-- the canonical text of empty land is empty
abbrev pub EmptyLandHasEmptyText : Type 0
EmptyLandHasEmptyText =
    (plan : Lotting) (township : Designation) → IsCanonicalText plan township no_places []
