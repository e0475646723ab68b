-- The places of a section in the order of their numbers, and the blocks of those with marks in a range.
use Rattle.std.proofs.Common.{◌≡◌, ℕ, ◌+◌, ◌-◌, ◌*◌, ◌/◌, ◌%◌, ◌<◌, ◌≤◌, ◌&&◌, true, false, List}
use Rattle.std.proofs.Common.{get_or}
use Rattle.std.proofs.Common.{nat_le, refl, sym, ap, ◌∙◌, inl, inr, arith}
use Rattle.std.proofs.lemmas.Bool.{and_parts, cases_lt}
use Rattle.std.proofs.lemmas.Bool.Decides.{nat_tests}
use Rattle.twp_grid.specs.Places.{PLACE_DIGITS, IsPlace, is_place}
use Rattle.twp_grid.specs.Spans.{in_rectangle, place_block, position_block}
use Rattle.twp_grid.proofs.PlaceTests.{place_of_test, test_of_place}
use Rattle.twp_land.specs.LotMaps.{mark_in, mark_of, place_number}
use Rattle.twp_land.specs.steps.Marked.{PLACES, marked, IsNextBlock}

-- the places of a section are numbered from 0, and those of a position one after another
pub number_of : (c r : ℕ) → IsPlace PLACE_DIGITS c r
    → (place_number c r < PLACES) × (place_number c r / 64 ≡ r / 8 * 4 + c / 8)
    × (place_number c r % 64 ≡ r % 8 * 8 + c % 8)
number_of c r place =
    let along : c < 32 = place.0 in
    let upward : r < 32 = place.1 in
    (omega arith, omega arith, omega arith)

-- what is marked
pub marked_parts : (positions divided : List ℕ) (s least most c r : ℕ)
    → marked positions divided s least most c r ≡ true
    → IsPlace PLACE_DIGITS c r × (least ≤ mark_of positions divided s (place_number c r))
    × (mark_of positions divided s (place_number c r) ≤ most)
marked_parts positions divided s least most c r is =
    let mark = mark_of positions divided s (place_number c r) in
    let parts = and_parts (is_place PLACE_DIGITS c r) (nat_le least mark && nat_le mark most) is in
    let range = and_parts (nat_le least mark) (nat_le mark most) parts.1 in (
      place_of_test PLACE_DIGITS c r parts.0,
      grind (arith, nat_tests, range.0),
      grind (arith, nat_tests, range.1),
    )

pub is_marked : (positions divided : List ℕ) (s least most c r : ℕ) → IsPlace PLACE_DIGITS c r
    → least ≤ mark_of positions divided s (place_number c r)
    → mark_of positions divided s (place_number c r) ≤ most
    → marked positions divided s least most c r ≡ true
is_marked positions divided s least most c r place low high =
    let mark = mark_of positions divided s (place_number c r) in
    let lower : nat_le least mark ≡ true = grind (arith, nat_tests, low) in
    let upper : nat_le mark most ≡ true = grind (arith, nat_tests, high) in
    rw (test_of_place PLACE_DIGITS c r place, lower, upper) refl

-- a place of the position that contains another
pub position_mark : (positions divided : List ℕ) (s at position number : ℕ)
    → position ≡ get_or positions ((s - 1) * 16 + at / 64) 0 → number / 64 ≡ at / 64
    → mark_of positions divided s number ≡ mark_in divided position (number % 64)
position_mark positions divided s at position number is same =
    ap (λ n. mark_in divided (get_or positions ((s - 1) * 16 + n) 0) (number % 64)) same
    ∙ ap (λ b. mark_in divided b (number % 64)) (sym is)

-- a single place
place_mark : (positions divided : List ℕ) (s at position : ℕ)
    → position ≡ get_or positions ((s - 1) * 16 + at / 64) 0
    → mark_of positions divided s at ≡ mark_in divided position (at % 64)
place_mark positions divided s at position is = ap (λ n. mark_in divided n (at % 64)) (sym is)

-- the marked places from a number on are not before another
abbrev pub ArePassed : List ℕ → List ℕ → ℕ → ℕ → ℕ → ℕ → ℕ → Type 0
ArePassed positions divided s least most from at = (c r : ℕ)
    → marked positions divided s least most c r ≡ true → from ≤ place_number c r → at ≤ place_number c r

-- the marks of a position are from a least to a greatest, or none is
abbrev pub AreMarks : List ℕ → ℕ → ℕ → ℕ → Type 0
AreMarks divided position least most = (within : ℕ) → within < 64
    → (least ≤ mark_in divided position within) × (mark_in divided position within ≤ most)

abbrev pub AreOtherMarks : List ℕ → ℕ → ℕ → ℕ → Type 0
AreOtherMarks divided position least most = (within : ℕ) → within < 64
    → least ≤ mark_in divided position within → ¬ (mark_in divided position within ≤ most)

pub position_passed : (positions divided : List ℕ) (s least most from at position : ℕ) → at % 64 ≡ 0
    → position ≡ get_or positions ((s - 1) * 16 + at / 64) 0 → AreOtherMarks divided position least most
    → ArePassed positions divided s least most from at
    → ArePassed positions divided s least most from (at + 64)
position_passed positions divided s least most from at position first is other passed c r here after =
    let parts = marked_parts positions divided s least most c r here in
    let number = place_number c r in
    let least-is = passed c r here after in
    elim (cases_lt number (at + 64)) [
      | inr beyond ↦ omega arith
      | inl inside ↦
          let same : number / 64 ≡ at / 64 = omega arith in
          let mark = position_mark positions divided s at position number is same in
          absurd
          (other (number % 64) (omega arith) (omega (arith, parts.1, mark)) (omega (arith, parts.2, mark)))
    ]

pub place_passed : (positions divided : List ℕ) (s least most from at position : ℕ)
    → position ≡ get_or positions ((s - 1) * 16 + at / 64) 0
    → (nat_le least (mark_in divided position (at % 64)) && nat_le (mark_in divided position (at % 64)) most)
    ≡ false
    → ArePassed positions divided s least most from at
    → ArePassed positions divided s least most from (at + 1)
place_passed positions divided s least most from at position is other passed c r here after =
    let parts = marked_parts positions divided s least most c r here in
    let number = place_number c r in
    let least-is = passed c r here after in
    elim (cases_lt at number) [
      | inl beyond ↦ omega arith
      | inr inside ↦
          let same : number ≡ at = omega arith in
          let mark : mark_of positions divided s number ≡ mark_in divided position (at % 64) =
          ap (λ n. mark_of positions divided s n) same ∙ place_mark positions divided s at position is in
          absurd (grind (arith, nat_tests, parts.1, parts.2, mark, other))
    ]

-- the places of a position
in_position : (at c r : ℕ) → at < PLACES
    → in_rectangle (position_block PLACE_DIGITS (at / 64 % 4) (at / 64 / 4)) c r ≡ true
    → IsPlace PLACE_DIGITS c r × (place_number c r / 64 ≡ at / 64)
in_position at c r less inside =
    let range = position_range (at / 64 % 4) (at / 64 / 4) c r inside in
    let place : IsPlace PLACE_DIGITS c r = (omega (arith, range), omega (arith, range)) in
    (place, omega (arith, range, number_of c r place))
  where
    position_range : (p q c r : ℕ) → in_rectangle (position_block PLACE_DIGITS p q) c r ≡ true
        → (p * 8 ≤ c) × (c < p * 8 + 8) × (q * 8 ≤ r) × (r < q * 8 + 8)
    position_range p q c r inside = grind (arith, nat_tests, inside)

number_in_position : (at c r : ℕ) → at < PLACES → IsPlace PLACE_DIGITS c r → place_number c r / 64 ≡ at / 64
    → in_rectangle (position_block PLACE_DIGITS (at / 64 % 4) (at / 64 / 4)) c r ≡ true
number_in_position at c r less place same =
    let number = number_of c r place in
    let across : c / 8 ≡ at / 64 % 4 = omega (arith, number.1, same, place.0) in
    let upward : r / 8 ≡ at / 64 / 4 = omega (arith, number.1, same, place.0) in
    within (at / 64 % 4) (at / 64 / 4) across upward
  where
    within : (p q : ℕ) → c / 8 ≡ p → r / 8 ≡ q
        → in_rectangle (position_block PLACE_DIGITS p q) c r ≡ true
    within p q across upward =
        let west : c < p * 8 + 8 = omega (arith, across) in
        let east : p * 8 ≤ c = omega (arith, across) in
        let north : r < q * 8 + 8 = omega (arith, upward) in
        let south : q * 8 ≤ r = omega (arith, upward) in
        grind (arith, nat_tests, west, east, north, south)

-- the place with a number
abbrev pub column_at : ℕ → ℕ
column_at at = at / 64 % 4 * 8 + at % 8

abbrev pub row_at : ℕ → ℕ
row_at at = at / 64 / 4 * 8 + at % 64 / 8

in_place : (at c r : ℕ) → in_rectangle (place_block (column_at at) (row_at at)) c r ≡ true
    → (c ≡ column_at at) × (r ≡ row_at at)
in_place at c r inside = only (column_at at) (row_at at) inside
  where
    only : (p q : ℕ) → in_rectangle (place_block p q) c r ≡ true → (c ≡ p) × (r ≡ q)
    only p q inside = grind (arith, nat_tests, inside)

pub place_at_number : (at : ℕ) → at < PLACES
    → IsPlace PLACE_DIGITS (column_at at) (row_at at) × (place_number (column_at at) (row_at at) ≡ at)
place_at_number at less = ((omega arith, omega arith), omega arith)

number_at_place : (at c r : ℕ) → IsPlace PLACE_DIGITS c r → place_number c r ≡ at
    → in_rectangle (place_block (column_at at) (row_at at)) c r ≡ true
number_at_place at c r place same =
    let along : c < 32 = place.0 in
    let across : c ≡ column_at at = omega arith in
    let upward : r ≡ row_at at = omega arith in
    only (column_at at) (row_at at) across upward
  where
    only : (p q : ℕ) → c ≡ p → r ≡ q → in_rectangle (place_block p q) c r ≡ true
    only p q across upward = grind (arith, nat_tests, across, upward)

-- a position whose marks are in the range
pub position_next : (positions divided : List ℕ) (s least most from at position : ℕ) → at < PLACES
    → at % 64 ≡ 0 → position ≡ get_or positions ((s - 1) * 16 + at / 64) 0
    → AreMarks divided position least most → from ≤ at
    → ArePassed positions divided s least most from at
    → IsNextBlock (marked positions divided s least most) from
    (position_block PLACE_DIGITS (at / 64 % 4) (at / 64 / 4)) (at + 64)
position_next positions divided s least most from at position less first is marks order passed =
    record {
      more = omega arith;
      within = omega arith;
      some =
          let place : IsPlace PLACE_DIGITS (at / 64 % 4 * 8) (at / 64 / 4 * 8) = (omega arith, omega arith) in
          let number : place_number (at / 64 % 4 * 8) (at / 64 / 4 * 8) / 64 ≡ at / 64 = omega arith in
          number_in_position at (at / 64 % 4 * 8) (at / 64 / 4 * 8) less place number;
      is_set = λ c r inside.
          let there = in_position at c r less inside in
          let mark = position_mark positions divided s at position (place_number c r) is there.1 in
          let range = marks (place_number c r % 64) (omega arith) in
          is_marked positions divided s least most c r there.0 (omega (arith, mark, range.0))
          (omega (arith, mark, range.1));
      numbered = λ c r inside.
          let there = in_position at c r less inside in
          (omega (arith, there.1), omega (arith, there.1));
      all = λ c r here after before.
          let place = (marked_parts positions divided s least most c r here).0 in
          let start = passed c r here after in
          number_in_position at c r less place (omega arith);
    }

-- a place whose mark is in the range
pub place_next : (positions divided : List ℕ) (s least most from at position : ℕ) → at < PLACES
    → position ≡ get_or positions ((s - 1) * 16 + at / 64) 0
    → least ≤ mark_in divided position (at % 64) → mark_in divided position (at % 64) ≤ most → from ≤ at
    → ArePassed positions divided s least most from at
    → IsNextBlock (marked positions divided s least most) from (place_block (column_at at) (row_at at))
    (at + 1)
place_next positions divided s least most from at position less is low high order passed =
    let place = place_at_number at less in
    record {
      more = omega arith;
      within = omega arith;
      some = number_at_place at (column_at at) (row_at at) place.0 place.1;
      is_set = λ c r inside.
          let there = in_place at c r inside in
          rw (there.0, there.1) here;
      numbered = λ c r inside.
          let there = in_place at c r inside in
          rw (there.0, there.1) (omega (arith, place.1), omega (arith, place.1));
      all = λ c r marks after before.
          let is_place = (marked_parts positions divided s least most c r marks).0 in
          let start = passed c r marks after in
          number_at_place at c r is_place (omega arith);
    }
  where
    here : marked positions divided s least most (column_at at) (row_at at) ≡ true
    here =
        let place = place_at_number at less in
        let mark : mark_of positions divided s (place_number (column_at at) (row_at at))
        ≡ mark_in divided position (at % 64) =
        ap (λ n. mark_of positions divided s n) place.1 ∙ place_mark positions divided s at position is in
        is_marked positions divided s least most (column_at at) (row_at at) place.0
        (omega (arith, mark, low)) (omega (arith, mark, high))
