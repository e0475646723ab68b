-- Whole sections and the whole township: the sum over single places is the sum of the pieces.
use Rattle.std.proofs.Common.{◌≡◌, ◌≢◌, ℕ, ◌+◌, ◌-◌, ◌*◌, ◌<◌, ◌≤◌, Bool, true, false, ap, refl, sym, ◌∙◌}
use Rattle.std.proofs.Common.{arith, nat_le, nat_lt}
use Rattle.std.proofs.lemmas.Bool.{eq-eqb, ne_eqb}
use Rattle.std.proofs.lemmas.Bool.Decides.{nat_tests}
use Rattle.twp_grid.specs.Places.{PLACE_DIGITS, is_place}
use Rattle.twp_grid.specs.Spans.{position_block}
use Rattle.twp_grid.specs.Spans.{total, total_over, one_where, over_positions}
use Rattle.twp_grid.proofs.TotalFacts.{total-ext, total-same, total-scale, total-all_zero}
use Rattle.twp_land.specs.Storage.{is_section}
use Rattle.twp_plat.specs.LandAreas.{piece_where_held, section_sum}
use Rattle.twp_plat.specs.steps.Bounds.{ACROSS, TO_POSITION, OF_POSITION}
use Rattle.twp_plat.specs.LandAreaLaws.{section_places, township_places, SectionAreaIsOfLand}
use Rattle.twp_plat.specs.LandAreaLaws.{TownshipAreaIsOfLand}
use Rattle.twp_plat.proofs.PositionSums.{positions-ext, positions-scale, by_position, total_differs}
use Rattle.twp_plat.proofs.SectionSums.{held_of, position_sum}

-- the sum over a section's places by positions: each piece times the number of its places in the
-- set
by_pieces : (pieces : ℕ → ℕ → ℕ) (held : ℕ → ℕ → Bool)
    → section_sum PLACE_DIGITS pieces held
    ≡ over_positions (λ column row. pieces column row * held_of held column row)
by_pieces pieces held =
    by_position (piece_where_held PLACE_DIGITS pieces held)
    ∙ positions-ext (λ column row.
    total_over (position_block PLACE_DIGITS column row) (piece_where_held PLACE_DIGITS pieces held))
    (λ column row. pieces column row * held_of held column row)
    (λ column row _ _. position_sum held pieces column row)

-- if the set contains all places of a position, it contains as many as a position has
all_held : (held : ℕ → ℕ → Bool) (column row : ℕ) → column < 4 → row < 4
    → ((column row : ℕ) → column < ACROSS → row < ACROSS → held column row ≡ true)
    → held_of held column row ≡ OF_POSITION
all_held held column row in_column in_row all =
    total-ext TO_POSITION (λ up. total TO_POSITION (λ along.
    one_where (held (column * TO_POSITION + along) (row * TO_POSITION + up)))) (λ up. TO_POSITION)
    (λ up in_up.
    total-ext TO_POSITION (λ along. one_where (held (column * TO_POSITION + along) (row * TO_POSITION + up)))
    (λ along. 1)
    (λ along in_along.
    ap one_where (all (column * TO_POSITION + along) (row * TO_POSITION + up) (omega arith) (omega arith)))
    ∙ total-same TO_POSITION 1)
    ∙ total-same TO_POSITION TO_POSITION

-- the sum over a section that the set contains wholly
section_whole : (pieces : ℕ → ℕ → ℕ) (held : ℕ → ℕ → Bool)
    → ((column row : ℕ) → column < ACROSS → row < ACROSS → held column row ≡ true)
    → section_sum PLACE_DIGITS pieces held ≡ OF_POSITION * over_positions pieces
section_whole pieces held all =
    by_pieces pieces held
    ∙ positions-ext (λ column row. pieces column row * held_of held column row)
    (λ column row. OF_POSITION * pieces column row) (λ column row in_column in_row.
    let count = all_held held column row in_column in_row all in rw count (order (pieces column row)))
    ∙ positions-scale OF_POSITION pieces
  where
    order : (p : ℕ) → p * OF_POSITION ≡ OF_POSITION * p
    order p = omega arith

-- the sum over a section of which the set contains nothing
pub section_none : (pieces : ℕ → ℕ → ℕ) (held : ℕ → ℕ → Bool) → ((column row : ℕ) → held column row ≡ false)
    → section_sum PLACE_DIGITS pieces held ≡ 0
section_none pieces held none =
    total-all_zero ACROSS
    (λ up. total ACROSS (λ along. piece_where_held PLACE_DIGITS pieces held (0 + along) (0 + up))) (λ up _.
    total-all_zero ACROSS (λ along. piece_where_held PLACE_DIGITS pieces held (0 + along) (0 + up))
    (λ along _.
    rw (none (0 + along) (0 + up)) refl))

-- a place of the section
place_is : (column row : ℕ) → column < ACROSS → row < ACROSS → is_place PLACE_DIGITS column row ≡ true
place_is column row in_column in_row =
    let c : nat_lt column ACROSS ≡ true = grind (arith, nat_tests) in
    let r : nat_lt row ACROSS ≡ true = grind (arith, nat_tests) in
    rw (c, r) refl

pub section_area_is_of_land : SectionAreaIsOfLand
section_area_is_of_land plat section area range is =
    let sums : ℕ → ℕ = λ before.
    section_sum PLACE_DIGITS (is.pieces (before + 1)) (section_places PLACE_DIGITS section (before + 1)) in
    let here : section - 1 + 1 ≡ section = omega (arith, range.0) in
    let last : sums (section - 1) ≡ OF_POSITION * over_positions (is.pieces section) =
    rw here
    (section_whole (is.pieces section) (section_places PLACE_DIGITS section section)
    (λ column row in_column in_row.
    rw (eq-eqb section section refl) (place_is column row in_column in_row))) in
    let others : (before : ℕ) → before < 36 → before ≢ section - 1 → sums before ≡ 0 = λ before below other.
    section_none (is.pieces (before + 1)) (section_places PLACE_DIGITS section (before + 1))
    (λ column row. rw (ne_eqb section (before + 1) (λ same. other (omega arith))) refl) in
    let differs : total 36 sums + 0 ≡ total 36 (λ before. 0) + sums (section - 1) =
    total_differs 36 (section - 1) (λ before. 0) sums (omega (arith, range.1)) others in
    let none = total-same 36 0 in
    let sum : total 36 sums ≡ OF_POSITION * over_positions (is.pieces section) = omega arith in
    record {
      pieces = is.pieces;
      are = is.are;
      over_is = is.over_is;
      sum_is = ap (λ u. OF_POSITION * u) is.sum_is ∙ sym sum;
    }

pub township_area_is_of_land : TownshipAreaIsOfLand
township_area_is_of_land plat area is =
    let sums : ℕ → ℕ =
    λ before. section_sum PLACE_DIGITS (is.pieces (before + 1)) (township_places PLACE_DIGITS (before + 1)) in
    let each : total 36 sums ≡ total 36 (λ before. OF_POSITION * over_positions (is.pieces (before + 1))) =
    total-ext 36 sums (λ before. OF_POSITION * over_positions (is.pieces (before + 1))) (λ before below.
    section_whole (is.pieces (before + 1)) (township_places PLACE_DIGITS (before + 1))
    (λ column row in_column in_row.
    rw (number_is (before + 1) (omega arith) (omega arith)) (place_is column row in_column in_row))) in
    let sum = each ∙ total-scale 36 OF_POSITION (λ before. over_positions (is.pieces (before + 1))) in
    record {
      pieces = is.pieces;
      are = is.are;
      over_is = is.over_is;
      sum_is = ap (λ u. OF_POSITION * u) is.sum_is ∙ sym sum;
    }
  where
    number_is : (section : ℕ) → 1 ≤ section → section ≤ 36 → is_section section ≡ true
    number_is section least most =
        let l : nat_le 1 section ≡ true = grind (arith, nat_tests) in
        let m : nat_le section 36 ≡ true = grind (arith, nat_tests) in
        rw (l, m) refl
