-- The places of aliquot parts that get a mark, part by part, and why they can't. No public contract cites
-- this module.
use Rattle.std.specs.Prelude.{◌≡◌, ◌≢◌, ◌⊎◌, ℕ, ◌≤◌, ◌<◌, nat_lt, List, ⊤, if◌then◌else◌}
use Rattle.twp_grid.specs.Places.{PLACE_DIGITS, IsPlace}
use Rattle.twp_grid.specs.Cuts.{AreWithin}
use Rattle.twp_grammar.specs.declared.item.Step.{Step}
use Rattle.twp_grammar.specs.ItemPlaces.{cuts_of}
use Rattle.twp_land.specs.LotMarks.{mark_at, marks_of}
use Rattle.twp_plat.specs.LandTexts.{AreAliquotParts, IsOneOf, parts_at}
use Rattle.twp_plat.specs.declared.lots.land_text.Painting.{Painting}
use Rattle.twp_plat.specs.declared.lots.land_text.Painting.TheVariants as painting
use Rattle.twp_plat.specs.declared.lots.land_text.LandFault.{LandFault}
use Rattle.twp_plat.specs.declared.lots.land_text.LandFault.TheVariants as fault

-- no part halves a side of one place
abbrev pub AreFine : List (List Step) → Type 0
AreFine parts = (part : List Step) → IsOneOf part parts → AreWithin PLACE_DIGITS (cuts_of part)

-- the places of a section's parts had no mark and are in no two parts; they have this mark now, and all other
-- places of the township those that they had
pub record ArePainted (section : ℕ) (parts : List (List Step)) (mark : ℕ) (old new : List (List ℕ))
    : Type 0 where
  pub fine : AreFine parts
  pub apart : (column row : ℕ) → IsPlace PLACE_DIGITS column row → parts_at parts column row ≤ 1
  pub free : (column row : ℕ) → IsPlace PLACE_DIGITS column row → 0 < parts_at parts column row
      → mark_at (marks_of old section) column row ≡ 0
  pub marks : (column row : ℕ) → IsPlace PLACE_DIGITS column row
      → mark_at (marks_of new section) column row ≡ (if nat_lt 0 (parts_at parts column row) then mark
      else mark_at (marks_of old section) column row)
  pub others : (other : ℕ) → other ≢ section → 1 ≤ other → marks_of new other ≡ marks_of old other

-- a place is in two parts, or is in one and had a mark
pub record IsPlaceShared (section : ℕ) (parts : List (List Step)) (old : List (List ℕ)) : Type 0 where
  pub column : ℕ
  pub row : ℕ
  pub place : IsPlace PLACE_DIGITS column row
  pub shared : (2 ≤ parts_at parts column row)
      ⊎ ((0 < parts_at parts column row) × (mark_at (marks_of old section) column row ≢ 0))

-- one of the parts halves a side of one place
abbrev pub IsTooFine : List (List Step) → Type 0
IsTooFine parts = (part : List Step) × IsOneOf part parts × ¬ AreWithin PLACE_DIGITS (cuts_of part)

-- what the parts so far are
abbrev pub IsPainting : Painting → ℕ → List (List Step) → ℕ → List (List ℕ) → List (List ℕ) → Type 0
IsPainting painting.Painted section parts mark old new = ArePainted section parts mark old new
IsPainting painting.Shared section parts mark old new = AreFine parts × IsPlaceShared section parts old
IsPainting painting.TooFine section parts mark old new = IsTooFine parts

-- the text is no sequence of parts, or these can't be painted
abbrev pub AreUnpainted : ℕ → List ℕ → List (List ℕ) → LandFault → Type 0
AreUnpainted section text old fault.NoParts = (parts : List (List Step)) → ¬ AreAliquotParts text parts
AreUnpainted section text old fault.TooFine =
    (parts : List (List Step)) × AreAliquotParts text parts × IsTooFine parts
AreUnpainted section text old fault.Shared =
    (parts : List (List Step)) × AreAliquotParts text parts × AreFine parts × IsPlaceShared section parts old
AreUnpainted section text old fault.Memory = ⊤

-- the text is a sequence of parts, which were painted
abbrev pub IsLandPainted : ℕ → List ℕ → ℕ → List (List ℕ) → List (List ℕ) → Type 0
IsLandPainted section text mark old new =
    (parts : List (List Step)) × AreAliquotParts text parts × ArePainted section parts mark old new
