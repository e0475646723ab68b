-- Laws over the areas of land.
use Rattle.std.specs.Prelude.{◌≡◌, ◌==◌, ◌&&◌, ℕ, ◌+◌, ◌≤◌, Bool, true}
use Rattle.twp_measure.specs.Areas.{Fraction}
use Rattle.twp_grid.specs.Lots.{POSITIONS_ACROSS}
use Rattle.twp_grid.specs.Winding.{IsSection}
use Rattle.twp_grid.specs.Places.{PLACE_DIGITS, places_across, is_place}
use Rattle.twp_grid.specs.Lands.{union, intersection, difference}
use Rattle.twp_land.specs.Storage.{is_section}
use Rattle.twp_plat.specs.Plats.{SurveyPlat}
use Rattle.twp_plat.specs.Pieces.{IsSectionArea, IsTownshipArea}
use Rattle.twp_plat.specs.LandAreas.{IsLandArea, township_sum}

-- no place is in both sets
abbrev pub AreDisjoint : (ℕ → ℕ → ℕ → Bool) → (ℕ → ℕ → ℕ → Bool) → Type 0
AreDisjoint places more = (section column row : ℕ)
    → places section column row ≡ true → more section column row ≡ true → ⊥

-- a set of places has only one area
abbrev pub OneLandArea : Type 0
OneLandArea = (g : ℕ) → POSITIONS_ACROSS ≤ places_across g → (plat : SurveyPlat)
    (places : ℕ → ℕ → ℕ → Bool) (area area' : Fraction)
    → IsLandArea g plat places area → IsLandArea g plat places area' → area ≡ area'

-- The sum over the places of two disjoint sets together is the sum of theirs. Nothing is divided
-- yet, so the sets need not contain lots wholly.
abbrev pub DisjointSumsAdd : Type 0
DisjointSumsAdd = (g : ℕ) (pieces : ℕ → ℕ → ℕ → ℕ) (places more : ℕ → ℕ → ℕ → Bool)
    → AreDisjoint places more
    → township_sum g pieces (union places more)
    ≡ township_sum g pieces places + township_sum g pieces more

-- the area of two disjoint sets together is the sum of their areas, if both are whole numbers of
-- units
abbrev pub DisjointAreasAdd : Type 0
DisjointAreasAdd = (g : ℕ) → POSITIONS_ACROSS ≤ places_across g → (plat : SurveyPlat)
    (places more : ℕ → ℕ → ℕ → Bool) (area other : Fraction) → AreDisjoint places more
    → IsLandArea g plat places area → IsLandArea g plat more other
    → IsLandArea g plat (union places more)
    (record { units = area.units + other.units; over = area.over })

-- The area of the union of two sets and that of their intersection add up to the areas of the two,
-- if all are whole numbers of units. On one plat, all areas have the same denominator.
abbrev pub UnionAndIntersectionAdd : Type 0
UnionAndIntersectionAdd = (g : ℕ) → POSITIONS_ACROSS ≤ places_across g → (plat : SurveyPlat)
    (places more : ℕ → ℕ → ℕ → Bool) (first second either both : Fraction)
    → IsLandArea g plat places first → IsLandArea g plat more second
    → IsLandArea g plat (union places more) either
    → IsLandArea g plat (intersection places more) both
    → either.units + both.units ≡ first.units + second.units

-- the area of what the first of two sets has alone and that of their intersection add up to the
-- area of the first
abbrev pub DifferenceAndIntersectionAdd : Type 0
DifferenceAndIntersectionAdd = (g : ℕ) → POSITIONS_ACROSS ≤ places_across g
    → (plat : SurveyPlat) (places more : ℕ → ℕ → ℕ → Bool) (first rest both : Fraction)
    → IsLandArea g plat places first → IsLandArea g plat (difference places more) rest
    → IsLandArea g plat (intersection places more) both
    → rest.units + both.units ≡ first.units

-- all places of a section
abbrev pub section_places : ℕ → ℕ → ℕ → ℕ → ℕ → Bool
section_places g section other column row = (section == other) && is_place g column row

-- the area of a section on the plat is that of its land
abbrev pub SectionAreaIsOfLand : Type 0
SectionAreaIsOfLand = (plat : SurveyPlat) (section : ℕ) (area : Fraction) → IsSection section
    → IsSectionArea plat section area
    → IsLandArea PLACE_DIGITS plat (section_places PLACE_DIGITS section) area

-- all places of a township
abbrev pub township_places : ℕ → ℕ → ℕ → ℕ → Bool
township_places g section column row = is_section section && is_place g column row

-- the area of the township on the plat is that of its land
abbrev pub TownshipAreaIsOfLand : Type 0
TownshipAreaIsOfLand = (plat : SurveyPlat) (area : Fraction) → IsTownshipArea plat area
    → IsLandArea PLACE_DIGITS plat (township_places PLACE_DIGITS) area
