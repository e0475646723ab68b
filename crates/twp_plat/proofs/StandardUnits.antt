-- The lots that a set contains by the standard lotting, and those of the table of lots.
use Rattle.std.proofs.Common.{◌≡◌, ◌==◌, ℕ, zero, suc, ◌+◌, ◌*◌, ◌<◌, ◌≤◌, ◌&&◌, Bool, true, false, Option}
use Rattle.std.proofs.Common.{Some, None}
use Rattle.std.proofs.Common.{refl, sym, ap, ◌∙◌, arith, inl, inr, nat_lt, if◌then◌else◌, is_none, IsSome}
use Rattle.std.specs.Prelude.{sum_by}
use Rattle.std.specs.Option.{option_map_or}
use Rattle.std.proofs.lemmas.Bool.{cases_Bool, cases_lt, eqb-true, eq-eqb}
use Rattle.std.proofs.lemmas.Bool.Decides.{nat_tests}
use Rattle.std.proofs.lemmas.Nat.{div-mul-add}
use Rattle.twp_grid.specs.Winding.{IsSection, SECTION_COUNT}
use Rattle.twp_grid.specs.Lots.{POSITIONS_ACROSS, Lot, lot, lots, lot_at_position, number_of_lots}
use Rattle.twp_grid.specs.Lots.{position_of_lot}
use Rattle.twp_grid.specs.Places.{IsPlace, is_place, places_across, places_to_position}
use Rattle.twp_grid.specs.Spans.{one_where, over_positions, position_block, total, total_over, whole_block}
use Rattle.twp_grid.specs.Lands.{LOT_NUMBER_MOST, count_held, intersection, lot_of_place, lot_places}
use Rattle.twp_grid.specs.Lands.{off_lots}
use Rattle.twp_grid.specs.Lands.{standard_lots}
use Rattle.twp_grid.proofs.PlaceTests.{test_of_place}
use Rattle.twp_grid.proofs.TotalFacts.{total-all_zero, total-ext, total-next, total-same, total-zero}
use Rattle.twp_land.specs.LotMaps.{land_off_lots}
use Rattle.twp_land.proofs.LotFacts.{few_lots, fills, has_lot}
use Rattle.twp_land.proofs.LottingFacts.{has_position}
use Rattle.twp_plat.specs.LandAreas.{places_of_position}
use Rattle.twp_plat.specs.PlatFigures.{PlatFigures}
use Rattle.twp_plat.specs.PlatAccounts.{holds_lot, lots_held, places_off_lots, printed_units}
use Rattle.twp_plat.specs.LotAreas.{contains_lot, count_of_lot, count_off_lots, returned_units, size_of_lot}
use Rattle.twp_plat.specs.LotAreas.{units_of_lots}
use Rattle.twp_plat.specs.LotAreaLaws.{HasFiguresOf}
use Rattle.twp_plat.proofs.AreaLaws.{some_places}
use Rattle.twp_plat.proofs.CountFacts.{count-ext}
use Rattle.twp_plat.proofs.LotSums.{at_lot, by_position, filtered, held_of, over_table}
use Rattle.twp_plat.proofs.PositionSums.{positions-ext, positions-zero, positions_differ}
use Rattle.twp_plat.proofs.SectionSums.{of_lots, of_lots-next, of_lots-none}
use Rattle.twp_plat.proofs.ContainedLots.{absent, total-rest, units_unless}

-- the lot has this number
abbrev is_number : ℕ → Option ℕ → Bool
is_number number found = option_map_or (λ k. number == k) found false

-- the places of a position are all in a lot, or none are
of_number : (g section number column row : ℕ) (held : ℕ → ℕ → Bool)
    → held_of g (λ c r. held c r && is_number number (lot_of_place g section c r)) column row
    ≡ (if is_number number (lot_at_position section column row) then held_of g held column row else 0)
of_number g section number column row held =
    let p : ℕ = places_to_position g in
    total-ext p (λ up. total p (λ along. one_where
    (held (column * p + along) (row * p + up)
    && is_number number (lot_of_place g section (column * p + along) (row * p + up)))))
    (λ up. total p (λ along. one_where
    (held (column * p + along) (row * p + up) && is_number number (lot_at_position section column row))))
    (λ up in_up.
    total-ext p
    (λ along. one_where
    (held (column * p + along) (row * p + up)
    && is_number number (lot_of_place g section (column * p + along) (row * p + up))))
    (λ along. one_where
    (held (column * p + along) (row * p + up) && is_number number (lot_at_position section column row)))
    (λ along in_along. rw (div-mul-add column p along in_along, div-mul-add row p up in_up) refl))
    ∙ by_test (is_number number (lot_at_position section column row))
  where
    both : (b : Bool) → one_where (b && true) ≡ one_where b
    both true = refl
    both false = refl

    neither : (b : Bool) → one_where (b && false) ≡ 0
    neither true = refl
    neither false = refl

    by_test : (test : Bool)
        → total (places_to_position g)
        (λ up. total (places_to_position g)
        (λ along. one_where (held (column * places_to_position g + along)
        (row * places_to_position g + up) && test))) ≡ (if test then held_of g held column row else 0)
    by_test true = total-ext (places_to_position g) _ _
        (λ up _. total-ext (places_to_position g) _ _
        (λ along _. both (held (column * places_to_position g + along) (row * places_to_position g + up))))
    by_test false = total-all_zero (places_to_position g) _
        (λ up _. total-all_zero (places_to_position g) _
        (λ along _. neither (held (column * places_to_position g + along)
        (row * places_to_position g + up))))

-- the places of a lot are those of its position
count_in_lot : (g : ℕ) → POSITIONS_ACROSS ≤ places_across g → (section number column row : ℕ)
    (held : ℕ → ℕ → Bool) → IsSection section → lot_at_position section column row ≡ Some number
    → count_held (λ c r. held c r && is_number number (lot_of_place g section c r)) (whole_block g)
    ≡ held_of g held column row
count_in_lot g fits section number column row held range is =
    let there = fills section column row number range is in
    let f : ℕ → ℕ → ℕ = λ c r.
    if is_number number (lot_at_position section c r) then held_of g held c r else 0 in
    let each : count_held (λ c r. held c r && is_number number (lot_of_place g section c r)) (whole_block g)
    ≡ over_positions f =
    by_position g fits (λ c r. one_where (held c r && is_number number (lot_of_place g section c r)))
    ∙ positions-ext _ f (λ c r _ _. of_number g section number c r held) in
    let zeros : over_positions (λ c r. 0) ≡ 0 = positions-zero (λ c r. 0) (λ c r _ _. refl) in
    let one =
    positions_differ column row (λ c r. 0) f there.in_column there.in_row (λ c r _ _ other.
    elsewhere c r (lot_at_position section c r) refl other) in
    let here : f column row ≡ held_of g held column row = rw (is, eq-eqb number number refl) refl in
    each ∙ omega (arith, zeros, one, here)
  where
    elsewhere : (c r : ℕ) (found : Option ℕ) → lot_at_position section c r ≡ found
        → ((c ≡ column) × (r ≡ row) → ⊥)
        → (if is_number number (lot_at_position section c r) then held_of g held c r else 0) ≡ 0
    elsewhere c r None at other = rw at refl
    elsewhere c r (Some k) at other = elim (cases_Bool (number == k)) [
      | inr differs ↦ rw (at, differs) refl
      | inl same ↦
          let equal : number ≡ k = eqb-true number k same in
          let first = fills section column row number range is in
          let second = fills section c r k range at in
          let place : position_of_lot section number ≡ Some (c, r) =
          ap (λ n. position_of_lot section n) equal ∙ second.position in
          let pair : (c, r) ≡ (column, row) = cc (sym place ∙ first.position) in
          absurd (other (ap (λ (p : ℕ × ℕ). p.0) pair, ap (λ (p : ℕ × ℕ). p.1) pair))
    ]

-- the set contains a standard lot if it contains the places of its position
pub contains_is : (g : ℕ) → POSITIONS_ACROSS ≤ places_across g → (places : ℕ → ℕ → ℕ → Bool)
    (section number column row : ℕ) → IsSection section → lot_at_position section column row ≡ Some number
    → contains_lot (standard_lots g) places section number
    ≡ holds_lot g places (lot section number column row)
contains_is g fits places section number column row range is =
    let all : size_of_lot (standard_lots g) section number ≡ places_of_position g =
    count-ext g (lot_places (standard_lots g) section number section)
    (λ c r. true && is_number number (lot_of_place g section c r)) of_lot
    ∙ count_in_lot g fits section number column row (λ c r. true) range is
    ∙ full in
    let held : count_of_lot (standard_lots g) places section number
    ≡ count_held (places section) (position_block g column row) =
    count-ext g (intersection places (lot_places (standard_lots g) section number) section)
    (λ c r. places section c r && is_number number (lot_of_place g section c r))
    (λ c r place. ap (λ b. places section c r && b) (of_lot c r place))
    ∙ count_in_lot g fits section number column row (places section) range is in
    let some : nat_lt 0 (places_of_position g) ≡ true = grind (arith, nat_tests, some_places g fits) in
    rw (all, held, some) refl
  where
    of_lot : (c r : ℕ) → IsPlace g c r → lot_places (standard_lots g) section number section c r
        ≡ (true && is_number number (lot_of_place g section c r))
    of_lot c r place = rw (test_of_place g c r place, eq-eqb section section refl) refl

    full : held_of g (λ c r. true) column row ≡ places_of_position g
    full =
        let p : ℕ = places_to_position g in
        total-ext p _ (λ up. p * 1) (λ up _. total-same p 1)
        ∙ total-same p (p * 1)
        ∙ square (places_to_position g)
      where
        square : (p : ℕ) → p * (p * 1) ≡ p * p
        square p = omega arith

-- the units of a section's lots, by number and by position
section_lots : (g : ℕ) → POSITIONS_ACROSS ≤ places_across g → (figure : ℕ → ℕ → ℕ) (figures : PlatFigures)
    (places : ℕ → ℕ → ℕ → Bool) (section : ℕ) → IsSection section → HasFiguresOf figure figures
    → over_positions (at_lot (λ l. if holds_lot g places l then printed_units figures l else 0) section)
    ≡ units_of_lots (standard_lots g) figure places section
section_lots g fits figure figures places section range has =
    let f = at_lot (λ l. if holds_lot g places l then printed_units figures l else 0) section in
    let few = few_lots section range in
    let last : number_of_lots section + 1 ≡ suc (number_of_lots section) = omega arith in
    positions-ext
    (at_lot (λ l. if holds_lot g places l then printed_units figures l else 0) section)
    (of_lots section (number_of_lots section + 1)
    (at_lot (λ l. if holds_lot g places l then printed_units figures l else 0) section))
    (λ c r _ _. all c r (lot_at_position section c r) refl)
    ∙ numbered (number_of_lots section) (omega arith)
    ∙ sym
    (total-rest (number_of_lots section) LOT_NUMBER_MOST
    (λ less. returned_units (standard_lots g) figure places section (less + 1)) (omega (arith, few))
    (λ k from _.
    units_unless (standard_lots g) figure places section (k + 1)
    (absent (standard_lots g) places section (k + 1) (λ lot.
    let there = fills section _ _ (k + 1) range lot.2 in
    absurd (omega (arith, there.most, from))))))
  where
    all : (c r : ℕ) (found : Option ℕ) → lot_at_position section c r ≡ found
        → at_lot (λ l. if holds_lot g places l then printed_units figures l else 0) section c r
        ≡ of_lots section (number_of_lots section + 1)
        (at_lot (λ l. if holds_lot g places l then printed_units figures l else 0) section) c r
    all c r None at = rw at refl
    all c r (Some k) at =
        let there = fills section c r k range at in
        let test : nat_lt k (number_of_lots section + 1) ≡ true = grind (arith, nat_tests, there.most) in
        rw (at, test) refl

    value : (number c r : ℕ) → number ≤ number_of_lots section → position_of_lot section number ≡ Some (c, r)
        → at_lot (λ l. if holds_lot g places l then printed_units figures l else 0) section c r
        ≡ returned_units (standard_lots g) figure places section number
    value number c r most is =
        let at = has_lot section number c r range most is in
        rw (at, contains_is g fits places section number c r range at, has section number c r range is) refl

    step : (n : ℕ) → suc n ≤ number_of_lots section
        → over_positions (of_lots section (n + 1)
        (at_lot (λ l. if holds_lot g places l then printed_units figures l else 0) section))
        ≡ total n (λ less. returned_units (standard_lots g) figure places section (less + 1))
        → (position : Option (ℕ × ℕ)) → position_of_lot section (n + 1) ≡ position → IsSome position
        → over_positions (of_lots section (n + 1 + 1)
        (at_lot (λ l. if holds_lot g places l then printed_units figures l else 0) section))
        ≡ total (n + 1) (λ less. returned_units (standard_lots g) figure places section (less + 1))
    step n most before None is some = cc some
    step n most before (Some (c, r)) is some =
        let at = has_lot section (n + 1) c r range (omega (arith, most)) is in
        let there = fills section c r (n + 1) range at in
        let more =
        of_lots-next section (n + 1) c r
        (at_lot (λ l. if holds_lot g places l then printed_units figures l else 0) section) range
        (omega (arith, most)) (there.in_column, there.in_row) is in
        let added = value (n + 1) c r (omega (arith, most)) is in
        let sum = total-next n (λ less. returned_units (standard_lots g) figure places section (less + 1)) in
        omega (arith, more, before, added, sum)

    numbered : (n : ℕ) → n ≤ number_of_lots section
        → over_positions (of_lots section (n + 1)
        (at_lot (λ l. if holds_lot g places l then printed_units figures l else 0) section))
        ≡ total n (λ less. returned_units (standard_lots g) figure places section (less + 1))
    numbered zero most =
        of_lots-none section
        (at_lot (λ l. if holds_lot g places l then printed_units figures l else 0) section)
        range
        ∙ sym (total-zero _)
    numbered (suc n) most =
        let next : suc n ≡ n + 1 = omega arith in
        rw next
        (step n most (numbered n (omega (arith, most))) (position_of_lot section (n + 1)) refl
        (has_position section (n + 1) range (omega arith) (omega (arith, most))))

-- the same for the township
pub units_alike : (g : ℕ) → POSITIONS_ACROSS ≤ places_across g → (figure : ℕ → ℕ → ℕ) (figures : PlatFigures)
    (places : ℕ → ℕ → ℕ → Bool) → HasFiguresOf figure figures
    → total SECTION_COUNT (λ before. units_of_lots (standard_lots g) figure places (before + 1))
    ≡ sum_by (printed_units figures) (lots_held g places)
units_alike g fits figure figures places has =
    sym
    (filtered (holds_lot g places) (printed_units figures) lots
    ∙ over_table (λ l. if holds_lot g places l then printed_units figures l else 0)
    ∙ total-ext SECTION_COUNT _ (λ before. units_of_lots (standard_lots g) figure places (before + 1))
    (λ before below.
    section_lots g fits figure figures places (before + 1) (omega arith, omega (arith, below)) has))

pub off_alike : (g : ℕ) (places : ℕ → ℕ → ℕ → Bool)
    → total SECTION_COUNT (λ before. count_off_lots (standard_lots g) places (before + 1))
    ≡ places_off_lots g places
off_alike g places =
    total-ext SECTION_COUNT _ _ (λ before _.
    count-ext g _ (off_lots (standard_lots g) (before + 1) (places (before + 1))) (λ c r _.
    land (off_lots (standard_lots g) (before + 1) (places (before + 1)) c r)))
  where
    land : (b : Bool) → (b && true) ≡ b
    land true = refl
    land false = refl
