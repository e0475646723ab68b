-- The area of the land of all tracts is the sum of the tracts' areas, and the area of all other land is the
-- rest of the township's.
use Rattle.std.proofs.Common.{◌≡◌, ℕ, zero, suc, ◌+◌, ◌<◌, Bool, List, length, ap, subst, arith, ◌-◌, ◌≤◌}
use Rattle.twp_measure.specs.Areas.{Fraction}
use Rattle.twp_grid.specs.Places.{PLACE_DIGITS}
use Rattle.twp_grid.specs.Spans.{total}
use Rattle.twp_grid.proofs.TotalFacts.{total-zero, total-next}
use Rattle.twp_grid.specs.Lands.{no_places, union}
use Rattle.twp_notes.specs.Records.{Fields}
use Rattle.twp_plat.specs.Plats.{SurveyPlat}
use Rattle.twp_plat.specs.Pieces.{over_of}
use Rattle.twp_plat.specs.Pieces.{ArePieces}
use Rattle.twp_plat.specs.LandAreas.{IsLandArea}
use Rattle.twp_plat.specs.LandAreaLaws.{AreDisjoint}
use Rattle.twp_answers.specs.ReportAnswers.{other_places}
use Rattle.twp_answers.specs.Tracts.{tract_records, AreTracts, IsLandOfTracts}
use Rattle.twp_answers.specs.TractLaws.{AreTractAreas, RestAddsUp, TractsAddUp}
use Rattle.twp_plat.proofs.AreaLaws.{one_land_area, disjoint_areas_add, rest_of_places}
use Rattle.twp_answers.proofs.TractAreas.{no_area}
use Rattle.twp_answers.proofs.TractLands.{no_land, land_next, one_land_of_tracts}
use Rattle.twp_grid.specs.Lands.{STANDARD_LOTS}

pub rest_adds_up : RestAddsUp
rest_adds_up plat places area rest whole is others all =
    let left = rest_of_places PLACE_DIGITS (omega arith) plat places area whole is all in
    let same : rest ≡ record { units = whole.units - area.units; over = whole.over } =
    one_land_area PLACE_DIGITS (omega arith) plat (other_places places) rest
    (record { units = whole.units - area.units; over = whole.over }) others left.1 in
    let units : rest.units ≡ whole.units - area.units = ap (λ (f : Fraction). f.units) same in
    let within : area.units ≤ whole.units = left.0 in
    omega arith

-- the units of the first areas
abbrev units_to : (ℕ → Fraction) → ℕ → ℕ
units_to areas count = total count (λ index. (areas index).units)

-- the land of the first tracts, up to this number, whose area is the sum of theirs
record IsSummed (plat : SurveyPlat) (rows : List Fields) (areas : ℕ → Fraction) (count : ℕ) : Type 0 where
  places : ℕ → ℕ → ℕ → Bool
  land : IsLandOfTracts STANDARD_LOTS plat.township rows count places
  area : IsLandArea PLACE_DIGITS plat places (record { units = units_to areas count; over = over_of plat })

module _ (plat : SurveyPlat) (rows : List Fields) (areas : ℕ → Fraction) (pieces : ℕ → ℕ → ℕ → ℕ)
    (are : ArePieces plat pieces) where
  none : IsSummed plat rows areas 0
  none = record {
    places = no_places;
    land = no_land STANDARD_LOTS plat.township rows;
    area = rw (total-zero (λ index. (areas index).units)) (no_area plat pieces are);
  }

  one_more : (count : ℕ) → AreTracts STANDARD_LOTS plat.township rows (count + 1)
      → AreTractAreas plat rows (count + 1) areas → IsSummed plat rows areas count
      → IsSummed plat rows areas (count + 1)
  one_more count tracts each so_far =
      let next = each.each count (omega arith) in
      let apart : AreDisjoint so_far.places next.places = λ section column row there here.
      let is = (so_far.land section column row).0 there in
      let earlier : is.index < count = is.within in
      tracts.apart is.index count earlier (omega arith) (record {
        places = is.places;
        more = next.places;
        land = is.land;
        other_land = next.land;
        shared =
            record { section = section; column = column; row = row; in_first = is.held; in_second = here };
      }) in
      record {
        places = union so_far.places next.places;
        land =
            land_next STANDARD_LOTS plat.township rows count so_far.places next.places so_far.land next.land;
        area = rw (total-next count (λ index. (areas index).units))
            (disjoint_areas_add PLACE_DIGITS (omega arith) plat so_far.places next.places
            (record { units = units_to areas count; over = over_of plat }) (areas count) apart so_far.area
            next.area_is);
      }

  summed : (count : ℕ) → AreTracts STANDARD_LOTS plat.township rows count
      → AreTractAreas plat rows count areas
      → IsSummed plat rows areas count
  summed zero tracts each = none
  summed (suc count) tracts each =
      let e : suc count ≡ count + 1 = omega arith in
      let back : count + 1 ≡ suc count = omega arith in
      subst (IsSummed plat rows areas) back
      (one_more count (subst (AreTracts STANDARD_LOTS plat.township rows) e tracts)
      (subst (λ n. AreTractAreas plat rows n areas) e each)
      (summed count
      (record {
        each = λ index below. tracts.each index (omega arith);
        once = λ earlier index before below. tracts.once earlier index before (omega arith);
        apart = λ earlier index before below. tracts.apart earlier index before (omega arith);
      })
      (record { each = λ index below. each.each index (omega arith) })))

pub tracts_add_up : TractsAddUp
tracts_add_up plat bytes areas places area list each land is =
    let all =
    summed plat (tract_records bytes) areas is.pieces is.are (length (tract_records bytes)) list.tracts
    each in
    let same : places ≡ all.places =
    one_land_of_tracts STANDARD_LOTS plat.township (tract_records bytes) (length (tract_records bytes)) places
    all.places
    land all.land in
    let one : area ≡ record { units = units_to areas (length (tract_records bytes)); over = over_of plat } =
    one_land_area PLACE_DIGITS (omega arith) plat all.places area
    (record { units = units_to areas (length (tract_records bytes)); over = over_of plat })
    (subst (λ p. IsLandArea PLACE_DIGITS plat p area) same is) all.area in
    ap (λ (f : Fraction). f.units) one
