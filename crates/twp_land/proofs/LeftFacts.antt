-- The places of a set that are left after blocks have been taken from it, one after another.
use Rattle.std.proofs.Common.{◌≡◌, ℕ, ◌+◌, ◌-◌, ◌<◌, ◌≤◌, ◌&&◌, ◌||◌, not, Bool, true, false, Option, Some}
use Rattle.std.proofs.Common.{None}
use Rattle.std.proofs.Common.{nat_lt, min, refl, sym, ap, ◌∙◌, inl, inr, arith}
use Rattle.std.specs.Option.{option_map_or}
use Rattle.std.proofs.lemmas.Bool.{and_parts, cases_Bool, cases_lt, false≢true}
use Rattle.std.proofs.lemmas.Bool.Decides.{nat_tests}
use Rattle.twp_grid.specs.Winding.{IsSection}
use Rattle.twp_grid.specs.Lots.{number_of_lots, position_of_lot}
use Rattle.twp_grid.specs.Places.{PLACE_DIGITS, IsPlace, places_across}
use Rattle.twp_grid.specs.Spans.{Interval, in_span, Rectangle, in_rectangle, whole_block, total, one_where}
use Rattle.twp_grid.specs.Lands.{STANDARD_LAYOUT, STANDARD_LOTS, HasLot, count_held, lot_of_place, lotting}
use Rattle.twp_grid.proofs.TotalFacts.{total-ext, total-both}
use Rattle.twp_grid.proofs.PlaceTests.{place_of_test}
use Rattle.twp_land.specs.LotMaps.{land_off_lots}
use Rattle.twp_land.specs.Storage.{held_without}
use Rattle.twp_land.specs.steps.StandardLots.{standard_are_lots}
use Rattle.twp_land.proofs.BlockFacts.{InSection, total_of_block}
use Rattle.twp_land.proofs.LotFacts.{block_of}
use Rattle.twp_land.proofs.LotBlocks.{in_lot_block, lot_is_place}
use Rattle.twp_land.proofs.LottingFacts.{standard_has, standard_number}

-- how many places of the section the set contains
abbrev pub count : (ℕ → ℕ → Bool) → ℕ
count held = count_held held (whole_block PLACE_DIGITS)

-- a block is in the section if its places are, and there is one
pub in_section_by_places : (block : Rectangle) (c r : ℕ) → in_rectangle block c r ≡ true
    → ((column row : ℕ) → in_rectangle block column row ≡ true → IsPlace PLACE_DIGITS column row)
    → InSection block
in_section_by_places block c r inside within =
    let parts = and_parts (in_span block.columns c) (in_span block.rows r) inside in
    let along =
    within (block.columns.start + block.columns.len - 1) r
    (rw (last block.columns c parts.0, parts.1) refl) in
    let upward =
    within c (block.rows.start + block.rows.len - 1) (rw (parts.0, last block.rows r parts.1) refl) in
    let west : block.columns.start + block.columns.len - 1 < 32 = along.0 in
    let north : block.rows.start + block.rows.len - 1 < 32 = upward.1 in
    record { rows = omega (arith, north); columns = omega (arith, west) }
  where
    last : (span : Interval) (k : ℕ) → in_span span k ≡ true
        → in_span span (span.start + span.len - 1) ≡ true
    last span k there = grind (arith, nat_tests, there)

-- the count as a sum over all columns and rows
over_places : (held : ℕ → ℕ → Bool)
    → count held ≡ total (places_across PLACE_DIGITS) (λ row.
    total (places_across PLACE_DIGITS) (λ column. one_where (held column row)))
over_places held =
    total-ext (places_across PLACE_DIGITS) _ _ (λ row _.
    total-ext (places_across PLACE_DIGITS) _ _ (λ column _. same column row))
  where
    first : (n : ℕ) → 0 + n ≡ n
    first n = omega arith

    same : (column row : ℕ) → one_where (held (0 + column) (0 + row)) ≡ one_where (held column row)
    same column row = rw (first column, first row) refl

-- sets that differ at no place have the same count
pub same_count : (held more : ℕ → ℕ → Bool)
    → ((c r : ℕ) → IsPlace PLACE_DIGITS c r → held c r ≡ more c r) → count held ≡ count more
same_count held more same =
    over_places held
    ∙ total-ext (places_across PLACE_DIGITS) _ _ (λ row north.
    total-ext (places_across PLACE_DIGITS) _ _ (λ column west. ap one_where (same column row (west, north))))
    ∙ sym (over_places more)

-- with a block, what is left loses the block's places
pub left_next : (held taken more : ℕ → ℕ → Bool) (block : Rectangle) → InSection block
    → ((c r : ℕ) → in_rectangle block c r ≡ true → taken c r ≡ false)
    → ((c r : ℕ) → IsPlace PLACE_DIGITS c r → (taken c r || in_rectangle block c r) ≡ more c r)
    → count (held_without held taken) ≡ count (held_without held more) + count_held held block
left_next held taken more block lies apart next =
    over_places (held_without held taken)
    ∙ total-ext (places_across PLACE_DIGITS) _
    (λ row.
    total (places_across PLACE_DIGITS) (λ column. one_where (held_without held more column row))
    + total (places_across PLACE_DIGITS) (λ column.
    min (one_where (held column row)) (one_where (in_rectangle block column row))))
    (λ row north.
    total-ext (places_across PLACE_DIGITS) _
    (λ column. one_where (held_without held more column row)
    + min (one_where (held column row)) (one_where (in_rectangle block column row)))
    (λ column west.
    at (held column row) (taken column row) (more column row) (in_rectangle block column row)
    (apart column row) (next column row (west, north)))
    ∙ total-both (places_across PLACE_DIGITS) (λ column. one_where (held_without held more column row))
    (λ column. min (one_where (held column row)) (one_where (in_rectangle block column row))))
    ∙ total-both (places_across PLACE_DIGITS)
    (λ row. total (places_across PLACE_DIGITS) (λ column. one_where (held_without held more column row)))
    (λ row. total (places_across PLACE_DIGITS) (λ column.
    min (one_where (held column row)) (one_where (in_rectangle block column row))))
    ∙ sums (sym (over_places (held_without held more))) (total_of_block held block lies)
  where
    sums : {a b c d : ℕ} → a ≡ b → c ≡ d → a + c ≡ b + d
    sums first second = rw (first, second) refl

    one : (h t b : Bool) → (b ≡ true → t ≡ false)
        → one_where (h && not t) ≡ one_where (h && not (t || b)) + min (one_where h) (one_where b)
    one true true true apart = cc (apart refl)
    one true true false apart = refl
    one true false true apart = refl
    one true false false apart = refl
    one false true true apart = refl
    one false true false apart = refl
    one false false true apart = refl
    one false false false apart = refl

    at : (h t m b : Bool) → (b ≡ true → t ≡ false) → (t || b) ≡ m
        → one_where (h && not t) ≡ one_where (h && not m) + min (one_where h) (one_where b)
    at h t m b apart is = rw (sym is) (one h t b apart)

-- the places of lots with numbers below this
abbrev pub numbered_below : ℕ → ℕ → ℕ → ℕ → Bool
numbered_below section number column row =
    option_map_or (λ lot. nat_lt lot number) (lot_of_place PLACE_DIGITS section column row) false

all_of : (h : Bool) → h ≡ (h && true)
all_of true = refl
all_of false = refl

-- before the standard lots, each place is left
pub left_first : (section : ℕ) (held : ℕ → ℕ → Bool)
    → count held ≡ count (held_without held (numbered_below section 1))
left_first section held =
    same_count held (held_without held (numbered_below section 1)) (λ c r _.
    at c r (lot_of_place PLACE_DIGITS section c r) refl)
  where
    at : (c r : ℕ) (lot : Option ℕ) → lot_of_place PLACE_DIGITS section c r ≡ lot
        → held c r ≡ held_without held (numbered_below section 1) c r
    at c r None is = rw is (all_of (held c r))
    at c r (Some lot) is =
        let least = (standard_are_lots.numbered section lot c r is).0 in
        let test : nat_lt lot 1 ≡ false = grind (arith, nat_tests, least) in
        rw (is, test) (all_of (held c r))

-- with each of them, its block is taken
pub left_lot : (section number : ℕ) (held : ℕ → ℕ → Bool) (block : Rectangle) → IsSection section → 1 ≤ number
    → number ≤ number_of_lots section → block_of (position_of_lot section number) ≡ Some block
    → count (held_without held (numbered_below section number))
    ≡ count (held_without held (numbered_below section (number + 1))) + count_held held block
left_lot section number held block range least most is =
    left_next held (numbered_below section number) (numbered_below section (number + 1)) block
    (in_section_by_places block has.0 has.1
    ((in_lot_block section number block range most is has.0 has.1).1 has.2)
    (λ c r inside.
    place_of_test PLACE_DIGITS c r
    (lot_is_place section number c r range ((in_lot_block section number block range most is c r).0 inside))))
    (λ c r inside. apart c r ((in_lot_block section number block range most is c r).0 inside))
    (λ c r _. at c r (lot_of_place PLACE_DIGITS section c r) refl)
  where
    has : HasLot STANDARD_LOTS section number
    has = standard_has section number range least most

    apart : (c r : ℕ) → lot_of_place PLACE_DIGITS section c r ≡ Some number
        → numbered_below section number c r ≡ false
    apart c r there = rw there (grind (arith, nat_tests))

    at : (c r : ℕ) (lot : Option ℕ) → lot_of_place PLACE_DIGITS section c r ≡ lot
        → (numbered_below section number c r || in_rectangle block c r)
        ≡ numbered_below section (number + 1) c r
    at c r lot there = elim (cases_Bool (in_rectangle block c r)) [
      | inl inside ↦
          let of_lot = (in_lot_block section number block range most is c r).0 inside in
          let before : nat_lt number number ≡ false = grind (arith, nat_tests) in
          let after : nat_lt number (number + 1) ≡ true = grind (arith, nat_tests) in
          rw (of_lot, inside, before, after) refl
      | inr outside ↦ other c r lot there outside
    ]
      where
        other : (c r : ℕ) (lot : Option ℕ) → lot_of_place PLACE_DIGITS section c r ≡ lot
            → in_rectangle block c r ≡ false
            → (numbered_below section number c r || in_rectangle block c r)
            ≡ numbered_below section (number + 1) c r
        other c r None there outside = rw (there, outside) refl
        other c r (Some k) there outside = elim (cases_lt k number) [
          | inl less ↦
              let before : nat_lt k number ≡ true = grind (arith, nat_tests, less) in
              let after : nat_lt k (number + 1) ≡ true = grind (arith, nat_tests, less) in
              rw (there, outside, before, after) refl
          | inr more ↦ elim (cases_lt number k) [
            | inl great ↦
                let before : nat_lt k number ≡ false = grind (arith, nat_tests, great) in
                let after : nat_lt k (number + 1) ≡ false = grind (arith, nat_tests, great) in
                rw (there, outside, before, after) refl
            | inr few ↦
                let same : k ≡ number = omega (arith, more, few) in
                absurd
                (false≢true
                (sym outside
                ∙ (in_lot_block section number block range most is c r).1 (there ∙ ap (λ n. Some n) same)))
          ]
        ]

-- after the last of them, the places in no lot are left
pub left_last : (section number : ℕ) (held : ℕ → ℕ → Bool) → IsSection section
    → number_of_lots section < number
    → count (held_without held (numbered_below section number))
    ≡ count (land_off_lots (lotting STANDARD_LAYOUT) section held)
left_last section number held range beyond =
    same_count (held_without held (numbered_below section number))
    (land_off_lots (lotting STANDARD_LAYOUT) section held)
    (λ c r _. at c r (lot_of_place PLACE_DIGITS section c r) refl)
  where
    at : (c r : ℕ) (lot : Option ℕ) → lot_of_place PLACE_DIGITS section c r ≡ lot
        → held_without held (numbered_below section number) c r
        ≡ land_off_lots (lotting STANDARD_LAYOUT) section held c r
    at c r None there = rw there (all_of (held c r && true))
    at c r (Some k) there =
        let most = standard_number section k range (c, r, there) in
        let before : nat_lt k number ≡ true = grind (arith, nat_tests, most.1, beyond) in
        rw (there, before) (all_of (held c r && false))
