-- Land has only one area, and the areas of disjoint land add up.
use Rattle.std.proofs.Common.{◌≡◌, ℕ, ◌+◌, ◌*◌, ◌/◌, ◌<◌, ◌≤◌, ◌-◌, ◌||◌, ◌&&◌, not, Bool, true}
use Rattle.std.proofs.Common.{false, ap, refl, sym, ◌∙◌, arith, if◌then◌else◌}
use Rattle.std.proofs.Math.Nat.{le_of_mul-le-mul_left, mul-sub}
use Rattle.std.proofs.lemmas.Bool.Decides.{nat_tests}
use Rattle.std.proofs.lemmas.Nat.{mul-le}
use Rattle.twp_measure.specs.Areas.{Fraction}
use Rattle.twp_grid.specs.Winding.{SECTION_COUNT, IsSection}
use Rattle.twp_grid.specs.Lots.{POSITIONS_ACROSS}
use Rattle.twp_grid.specs.Places.{places_across, places_to_position, position_along}
use Rattle.twp_grid.specs.Spans.{total, total_over}
use Rattle.twp_grid.specs.Spans.{whole_block}
use Rattle.twp_grid.proofs.TotalFacts.{total-ext, total-both}
use Rattle.twp_grid.proofs.TilingFacts.{one_position}
use Rattle.twp_grid.specs.Lands.{union}
use Rattle.twp_plat.specs.Plats.{SurveyPlat}
use Rattle.twp_plat.proofs.RatioFacts.{cancelled}
use Rattle.twp_plat.specs.Pieces.{ArePieces}
use Rattle.twp_plat.specs.LandAreas.{IsLandArea, places_of_position, piece_where_held}
use Rattle.twp_plat.specs.LandAreas.{township_sum}
use Rattle.twp_plat.specs.LandAreaLaws.{OneLandArea, DisjointSumsAdd, DisjointAreasAdd, township_places}
use Rattle.twp_plat.proofs.SectionPieces.{same_pieces}

-- equal sums over the places of a township, for functions that agree there
pub township-ext : (g : ℕ) (f f' : ℕ → ℕ → ℕ → ℕ)
    → ((section column row : ℕ) → IsSection section → column < places_across g → row < places_across g
    → f section column row ≡ f' section column row)
    → total SECTION_COUNT (λ before. total_over (whole_block g) (f (before + 1)))
    ≡ total SECTION_COUNT (λ before. total_over (whole_block g) (f' (before + 1)))
township-ext g f f' same =
    total-ext SECTION_COUNT (λ before. total_over (whole_block g) (f (before + 1)))
    (λ before. total_over (whole_block g) (f' (before + 1))) (λ before below.
    total-ext (places_across g) (λ up. total (places_across g) (λ along. f (before + 1) (0 + along) (0 + up)))
    (λ up. total (places_across g) (λ along. f' (before + 1) (0 + along) (0 + up))) (λ up in_up.
    total-ext (places_across g) (λ along. f (before + 1) (0 + along) (0 + up))
    (λ along. f' (before + 1) (0 + along) (0 + up)) (λ along in_along.
    same (before + 1) (0 + along) (0 + up) (omega arith, omega arith) (omega arith) (omega arith))))

pub township-both : (g : ℕ) (f f' : ℕ → ℕ → ℕ → ℕ)
    → total SECTION_COUNT (λ before. total_over (whole_block g) (λ column row.
    f (before + 1) column row + f' (before + 1) column row))
    ≡ total SECTION_COUNT (λ before. total_over (whole_block g) (f (before + 1)))
    + total SECTION_COUNT (λ before. total_over (whole_block g) (f' (before + 1)))
township-both g f f' =
    total-ext SECTION_COUNT (λ before. total_over (whole_block g) (λ column row.
    f (before + 1) column row + f' (before + 1) column row))
    (λ before. total_over (whole_block g) (f (before + 1)) + total_over (whole_block g) (f' (before + 1)))
    (λ before below.
    total-ext (places_across g) (λ up. total (places_across g) (λ along.
    f (before + 1) (0 + along) (0 + up) + f' (before + 1) (0 + along) (0 + up)))
    (λ up.
    total (places_across g) (λ along. f (before + 1) (0 + along) (0 + up))
    + total (places_across g) (λ along. f' (before + 1) (0 + along) (0 + up)))
    (λ up in_up.
    total-both (places_across g) (λ along. f (before + 1) (0 + along) (0 + up))
    (λ along. f' (before + 1) (0 + along) (0 + up)))
    ∙ total-both (places_across g)
    (λ up. total (places_across g) (λ along. f (before + 1) (0 + along) (0 + up)))
    (λ up. total (places_across g) (λ along. f' (before + 1) (0 + along) (0 + up))))
    ∙ total-both SECTION_COUNT (λ before. total_over (whole_block g) (f (before + 1)))
    (λ before. total_over (whole_block g) (f' (before + 1)))

-- a set has only one sum, whichever pieces are given
pub one_sum : (g : ℕ) → POSITIONS_ACROSS ≤ places_across g
    → (plat : SurveyPlat) (places : ℕ → ℕ → ℕ → Bool) (pieces pieces' : ℕ → ℕ → ℕ → ℕ)
    → ArePieces plat pieces → ArePieces plat pieces'
    → township_sum g pieces places ≡ township_sum g pieces' places
one_sum g fits plat places pieces pieces' are are' =
    township-ext g (λ section. piece_where_held g (pieces section) (places section))
    (λ section. piece_where_held g (pieces' section) (places section))
    (λ section column row range in_column in_row.
    ap (λ p. if places section column row then p else 0)
    (same_pieces plat pieces pieces' are are' section (position_along g column) (position_along g row) range
    (one_position g fits column row (in_column, in_row)).0))

-- a position has places
pub some_places : (g : ℕ) → POSITIONS_ACROSS ≤ places_across g → 0 < places_of_position g
some_places g fits = square (places_to_position g) (quarter (places_across g) fits)
  where
    quarter : (n : ℕ) → 4 ≤ n → 0 < n / 4
    quarter n least = omega arith

    square : (n : ℕ) → 0 < n → 0 < n * n
    square n some = let least = mul-le 1 1 n n some some in omega arith

-- if a set lies within another one, its units are no more than the other's, and the rest of the
-- other set has the remaining units
pub rest_within : (g : ℕ) → POSITIONS_ACROSS ≤ places_across g
    → (plat : SurveyPlat) (outer places : ℕ → ℕ → ℕ → Bool) (area whole : Fraction)
    → ((section column row : ℕ) → IsSection section → column < places_across g → row < places_across g
    → places section column row ≡ true → outer section column row ≡ true)
    → IsLandArea g plat places area → IsLandArea g plat outer whole
    → (area.units ≤ whole.units)
    × IsLandArea g plat (λ section column row. outer section column row && not (places section column row))
    (record { units = whole.units - area.units; over = whole.over })
rest_within g fits plat outer places area whole inside is all =
    let in_set : ℕ → ℕ → ℕ → ℕ = λ section. piece_where_held g (all.pieces section) (places section) in
    let outside : ℕ → ℕ → ℕ → Bool =
    λ section column row. outer section column row && not (places section column row) in
    let in_others : ℕ → ℕ → ℕ → ℕ = λ section. piece_where_held g (all.pieces section) (outside section) in
    let sum : township_sum g all.pieces outer
    ≡ township_sum g all.pieces places + township_sum g all.pieces outside =
    township-ext g (λ section. piece_where_held g (all.pieces section) (outer section))
    (λ section column row. in_set section column row + in_others section column row)
    (λ section column row range in_column in_row.
    split (outer section column row) (places section column row)
    (all.pieces section (position_along g column) (position_along g row))
    (inside section column row range in_column in_row))
    ∙ township-both g in_set in_others in
    let same = one_sum g fits plat places is.pieces all.pieces is.are all.are in
    let rest =
    less (places_of_position g) area.units whole.units (township_sum g all.pieces places)
    (township_sum g all.pieces outside) (some_places g fits) (is.sum_is ∙ same) (all.sum_is ∙ sum) in
    (rest.0, record { pieces = all.pieces; are = all.are; over_is = all.over_is; sum_is = rest.1 })
  where
    split : (t a : Bool) (p : ℕ) → (a ≡ true → t ≡ true)
        → (if t then p else 0) ≡ (if a then p else 0) + (if t && not a then p else 0)
    split true true p is = omega arith
    split true false p is = omega arith
    split false true p is = cc (is refl)
    split false false p is = omega arith

    less : (n u w s r : ℕ) → 0 < n → n * u ≡ s → n * w ≡ s + r → (u ≤ w) × (n * (w - u) ≡ r)
    less n u w s r some e e' =
        let within : u ≤ w = le_of_mul-le-mul_left {m = u} {n = w} {k = n} (omega arith) some in
        (within, mul-sub n w u ∙ omega (arith, e, e'))

-- each place of a section is a place of the township
pub is_place_of : (g section column row : ℕ) → IsSection section → column < places_across g
    → row < places_across g → township_places g section column row ≡ true
is_place_of g section column row range in_column in_row = grind (arith, nat_tests)

-- the units of a set's places in the township are no more than the township's, and the other places
-- have the remaining units
pub rest_of_places : (g : ℕ) → POSITIONS_ACROSS ≤ places_across g
    → (plat : SurveyPlat) (places : ℕ → ℕ → ℕ → Bool) (area whole : Fraction)
    → IsLandArea g plat places area → IsLandArea g plat (township_places g) whole
    → (area.units ≤ whole.units)
    × IsLandArea g plat
    (λ section column row. township_places g section column row && not (places section column row))
    (record { units = whole.units - area.units; over = whole.over })
rest_of_places g fits plat places area whole =
    rest_within g fits plat (township_places g) places area whole
    (λ section column row range in_column in_row held.
    is_place_of g section column row range in_column in_row)

pub one_land_area : OneLandArea
one_land_area g fits plat places area area' is is' =
    let sum = one_sum g fits plat places is.pieces is'.pieces is.are is'.are in
    let units : area.units ≡ area'.units =
    cancelled area.units area'.units (places_of_position g) (some_places g fits)
    (order (places_of_position g) area.units
    ∙ is.sum_is
    ∙ sum
    ∙ sym is'.sum_is
    ∙ sym (order (places_of_position g) area'.units)) in
    let over : area.over ≡ area'.over = is.over_is ∙ sym is'.over_is in
    let make : ℕ → ℕ → Fraction = λ units over. record { units = units; over = over } in
    ap (λ u. make u area.over) units ∙ ap (make area'.units) over
  where
    order : (n u : ℕ) → u * n ≡ n * u
    order n u = omega arith

pub disjoint_sums_add : DisjointSumsAdd
disjoint_sums_add g pieces places more apart =
    let first : ℕ → ℕ → ℕ → ℕ = λ section. piece_where_held g (pieces section) (places section) in
    let second : ℕ → ℕ → ℕ → ℕ = λ section. piece_where_held g (pieces section) (more section) in
    township-ext g (λ section. piece_where_held g (pieces section) (union places more section))
    (λ section column row. first section column row + second section column row)
    (λ section column row range in_column in_row. either (places section column row) (more section column row)
    (pieces section (position_along g column) (position_along g row)) (apart section column row))
    ∙ township-both g first second
  where
    either : (a b : Bool) (p : ℕ) → (a ≡ true → b ≡ true → ⊥)
        → (if a || b then p else 0) ≡ (if a then p else 0) + (if b then p else 0)
    either true true p apart = absurd (apart refl refl)
    either true false p apart = omega arith
    either false true p apart = omega arith
    either false false p apart = omega arith

pub disjoint_areas_add : DisjointAreasAdd
disjoint_areas_add g fits plat places more area other apart is is' =
    let sum = disjoint_sums_add g is.pieces places more apart in
    let same = one_sum g fits plat more is.pieces is'.pieces is.are is'.are in
    record {
      pieces = is.pieces;
      are = is.are;
      over_is = is.over_is;
      sum_is =
          both (places_of_position g) area.units other.units (township_sum g is.pieces places)
          (township_sum g is.pieces more) is.sum_is (is'.sum_is ∙ sym same)
          ∙ sym sum;
    }
  where
    both : (n u u' s s' : ℕ) → n * u ≡ s → n * u' ≡ s' → n * (u + u') ≡ s + s'
    both n u u' s s' e e' = omega arith
