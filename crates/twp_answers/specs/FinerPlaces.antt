-- Why nothing changes if each place is divided into four, so that its column and its row have one
-- more binary digit: the land described lies on the plat as before, and is the same land, with the
-- same areas and the same canonical text.
use Rattle.std.specs.Prelude.{◌≡◌, ◌↔◌, ℕ, suc, ◌*◌, ◌≤◌, Bool, List}
use Rattle.twp_measure.specs.Areas.{Fraction}
use Rattle.twp_grid.specs.Lots.{POSITIONS_ACROSS}
use Rattle.twp_grid.specs.Places.{places_across}
use Rattle.twp_grid.specs.Townships.{Designation}
use Rattle.twp_grid.specs.FinerLands.{finer_land}
use Rattle.twp_plat.specs.Plats.{SurveyPlat}
use Rattle.twp_plat.specs.LandAreas.{IsLandArea, places_of_position, township_sum}
use Rattle.twp_plat.specs.PlatAccounts.{IsNominalShare, IsPlatArea}
use Rattle.twp_grammar.specs.declared.item.Item.{Item}
use Rattle.twp_grammar.specs.OnPlat.{AreOnPlat, IsLandOfItems}
use Rattle.twp_spell.specs.CanonicalText.{IsCanonicalText}
use Rattle.twp_grid.specs.Lands.{standard_lots}

-- From one number of digits to one more: items that lie on the plat without overlapping still do,
-- and their land is the same, with each place divided into four. The sum over the smaller places is
-- four times the sum over the larger ones, for any pieces and any set of places, and a position has
-- four times as many places; so the land's exact area is the same fraction. Its canonical text is
-- the same bytes.
pub record StaysTheSame (g finer : ℕ) : Type 0 where
  pub on_plat : (township : Designation) (items : List Item)
      → AreOnPlat (standard_lots g) township items → AreOnPlat (standard_lots finer) township items
  pub land : (township : Designation) (items : List Item) (places : ℕ → ℕ → ℕ → Bool)
      → IsLandOfItems (standard_lots g) township items places
      → IsLandOfItems (standard_lots finer) township items (finer_land places)
  pub sums : (pieces : ℕ → ℕ → ℕ → ℕ) (places : ℕ → ℕ → ℕ → Bool)
      → township_sum finer pieces (finer_land places) ≡ 4 * township_sum g pieces places
  pub places_are_four : places_of_position finer ≡ 4 * places_of_position g
  pub area : (plat : SurveyPlat) (places : ℕ → ℕ → ℕ → Bool) (area : Fraction)
      → IsLandArea g plat places area ↔ IsLandArea finer plat (finer_land places) area
  pub text : (township : Designation) (places : ℕ → ℕ → ℕ → Bool) (text : List ℕ)
      → IsCanonicalText (standard_lots g) township places text
      ↔ IsCanonicalText (standard_lots finer) township (finer_land places) text

-- the land's plat area is also the same
abbrev pub KeepsPlatAreas : ℕ → ℕ → Type 0
KeepsPlatAreas g finer = (plat : SurveyPlat) (places : ℕ → ℕ → ℕ → Bool) (area : Fraction)
    → IsPlatArea g plat places area ↔ IsPlatArea finer plat (finer_land places) area

-- if a section's side has at least as many places as positions, everything stays the same with one
-- more digit
abbrev pub FinerPlacesKeepAll : Type 0
FinerPlacesKeepAll = (g : ℕ) → POSITIONS_ACROSS ≤ places_across g → StaysTheSame g (suc g)

-- plat areas also stay the same if the nominal share of a place with one more digit is a whole
-- number of units, as it is up to seven digits
abbrev pub FinerPlacesKeepPlatAreas : Type 0
FinerPlacesKeepPlatAreas = (g share : ℕ) → POSITIONS_ACROSS ≤ places_across g
    → IsNominalShare (suc g) share → KeepsPlatAreas g (suc g)

-- the digits of a place whose side is a sixteenth of a section's: nominally 2.5 acres
abbrev pub DIGITS_OF_A_SIXTEENTH : ℕ
DIGITS_OF_A_SIXTEENTH = 4

-- the digits of a place whose side is a thirty-second of a section's: nominally 5/8 of an acre
abbrev pub DIGITS_OF_A_THIRTY_SECOND : ℕ
DIGITS_OF_A_THIRTY_SECOND = 5

-- from places of 2.5 acres to places of 5/8 of an acre, everything stays the same
abbrev pub ThirtySecondsKeepAll : Type 0
ThirtySecondsKeepAll = StaysTheSame DIGITS_OF_A_SIXTEENTH DIGITS_OF_A_THIRTY_SECOND
    × KeepsPlatAreas DIGITS_OF_A_SIXTEENTH DIGITS_OF_A_THIRTY_SECOND
