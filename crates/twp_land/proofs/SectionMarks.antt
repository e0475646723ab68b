-- The marks of a section's places, as the bytes of its positions show them.
use Rattle.std.proofs.Common.{◌≡◌, ◌==◌, ℕ, ◌+◌, ◌-◌, ◌*◌, ◌/◌, ◌%◌, ◌<◌, ◌≤◌, ◌&&◌, ◌↔◌, Bool, true, false}
use Rattle.std.proofs.Common.{IsTrue, List, get_or, nat_le, nat_lt, refl, sym, ap, subst, ◌∙◌, inl, inr}
use Rattle.std.proofs.Common.{arith}
use Rattle.std.proofs.Math.Path.{fun_ext}
use Rattle.std.proofs.lemmas.Bool.{and_parts, cases_Bool, cases_lt, eqb-true}
use Rattle.std.proofs.lemmas.Bool.Decides.{nat_tests}
use Rattle.twp_grid.specs.Places.{PLACE_DIGITS, IsPlace, is_place}
use Rattle.twp_grid.specs.Spans.{IsDyadic, Rectangle, in_rectangle, in_span, whole_block}
use Rattle.twp_grid.specs.Lands.{HasLot, HoldsAll, HoldsEach, IsLastLot, IsNextLot, Meets, SharePlace}
use Rattle.twp_grid.specs.Lands.{block_places, lotting, section_places}
use Rattle.twp_grid.proofs.PlaceTests.{place_of_test, test_of_place, whole_is_place}
use Rattle.twp_land.specs.LotMaps.{NO_LAND, layout_of_bytes, mark_in, mark_of, place_number}
use Rattle.twp_land.specs.steps.LotBytes.{IsLowestBelow, mark_at}
use Rattle.twp_land.specs.steps.Marked.{PLACES, marked, NoneLeft}
use Rattle.twp_land.proofs.LotBlocks.{along_position, first_in, meets_of_share, share_of_meets}
use Rattle.twp_land.proofs.MarkedFacts.{column_at, is_marked, marked_parts, number_of, place_at_number}
use Rattle.twp_land.proofs.MarkedFacts.{AreMarks, ArePassed, position_mark, row_at}
use Rattle.twp_land.proofs.MarkedLots.{at_lot, lot_at, place_in_block}

-- the mark of each place of a position that isn't divided
pub whole_mark : (divided : List ℕ) (byte within : ℕ) → byte ≤ 100 → mark_in divided byte within ≡ byte
whole_mark divided byte within whole =
    let low : nat_lt 100 byte ≡ false = grind (arith, nat_tests, whole) in
    rw low refl

-- that of a place of a divided position
pub divided_mark : (divided : List ℕ) (byte first within : ℕ) → 100 < byte → first ≡ (byte - 101) * 64
    → mark_in divided byte within ≡ mark_at divided (first + within)
divided_mark divided byte first within great is =
    let high : nat_lt 100 byte ≡ true = grind (arith, nat_tests, great) in
    rw (high, is) refl

-- each place has a lower mark than any that is greater than all bytes of the positions
pub none_from : (positions divided : List ℕ) (s least most : ℕ)
    → ((index : ℕ) → index < 16 → get_or positions ((s - 1) * 16 + index) 0 ≤ most)
    → most < least → least ≤ 100
    → (number : ℕ) → number < PLACES → mark_of positions divided s number < least
none_from positions divided s least most bound less few number below =
    let byte = bound (number / 64) (omega (arith, below)) in
    let mark =
    whole_mark divided (get_or positions ((s - 1) * 16 + number / 64) 0) (number % 64)
    (omega (arith, byte, less, few)) in
    omega (arith, mark, byte, less)

-- each place of the section has a lower mark than this
abbrev pub AreBelow : List ℕ → List ℕ → ℕ → ℕ → Type 0
AreBelow positions divided s least =
    (number : ℕ) → number < PLACES → mark_of positions divided s number < least

pub none_marked : (positions divided : List ℕ) (s least most c r : ℕ) → AreBelow positions divided s least
    → ¬ (marked positions divided s least most c r ≡ true)
none_marked positions divided s least most c r below is =
    let parts = marked_parts positions divided s least most c r is in
    absurd (omega (arith, parts.1, below (place_number c r) (number_of c r parts.0).0))

pub none_left : (positions divided : List ℕ) (s least most from : ℕ) → AreBelow positions divided s least
    → NoneLeft (marked positions divided s least most) from
none_left positions divided s least most from below c r is =
    absurd (none_marked positions divided s least most c r below is)

-- so a section without marks from 100 on is land
all_land : (positions divided : List ℕ) (s c r : ℕ) → AreBelow positions divided s 100
    → IsPlace PLACE_DIGITS c r
    → (layout_of_bytes positions divided).has_land s c r ≡ true
all_land positions divided s c r below place =
    let less : nat_le NO_LAND (mark_of positions divided s (place_number c r)) ≡ false =
    grind (arith, nat_tests, below (place_number c r) (number_of c r place).0) in
    rw (test_of_place PLACE_DIGITS c r place, less) refl

pub whole_section : (positions divided : List ℕ) (s : ℕ) (block : Rectangle)
    → block ≡ whole_block PLACE_DIGITS
    → AreBelow positions divided s 100
    → block_places s block ≡ section_places (lotting (layout_of_bytes positions divided)) s
whole_section positions divided s block is below = fun_ext (λ o. fun_ext (λ c. fun_ext (λ r.
    ap (λ b. (s == o) && in_rectangle b c r) is ∙ rw (whole_is_place c r) (by o c r))))
  where
    by : (o c r : ℕ) → ((s == o) && is_place PLACE_DIGITS c r)
        ≡ (is_place PLACE_DIGITS c r && ((s == o) && (layout_of_bytes positions divided).has_land o c r))
    by o c r = elim (cases_Bool (is_place PLACE_DIGITS c r)) [
      | inr out ↦ rw out (none (s == o))
      | inl place ↦ elim (cases_Bool (s == o)) [
        | inr other ↦ rw (place, other) refl
        | inl here ↦
            let same : s ≡ o = eqb-true s o here in
            let land : (layout_of_bytes positions divided).has_land o c r ≡ true =
            ap (λ n. (layout_of_bytes positions divided).has_land n c r) (sym same)
            ∙ all_land positions divided s c r below (place_of_test PLACE_DIGITS c r place) in
            joined (s == o) (is_place PLACE_DIGITS c r) ((layout_of_bytes positions divided).has_land o c r)
            here place land
      ]
    ]
      where
        none : (a : Bool) → (a && false) ≡ false
        none true = refl
        none false = refl

        joined : (a b d : Bool) → a ≡ true → b ≡ true → d ≡ true → (a && b) ≡ (b && (a && d))
        joined true true true x y z = refl
        joined true true false x y z = cc z
        joined true false d x y z = cc y
        joined false b d x y z = cc x

pub whole_apart : (positions divided : List ℕ) (places : ℕ → ℕ → ℕ → Bool) (s : ℕ) (block : Rectangle)
    → block ≡ whole_block PLACE_DIGITS → AreBelow positions divided s 100 → ¬ Meets (places s) block
    → ¬ SharePlace places (section_places (lotting (layout_of_bytes positions divided)) s)
whole_apart positions divided places s block is below apart shared =
    apart (meets_of_share places s block
    (subst (λ p. SharePlace places p) (sym (whole_section positions divided s block is below)) shared))

pub whole_met : (positions divided : List ℕ) (places : ℕ → ℕ → ℕ → Bool) (s : ℕ) (block : Rectangle)
    → block ≡ whole_block PLACE_DIGITS → AreBelow positions divided s 100 → Meets (places s) block
    → SharePlace places (section_places (lotting (layout_of_bytes positions divided)) s)
whole_met positions divided places s block is below met =
    subst (λ p. SharePlace places p) (whole_section positions divided s block is below)
    (share_of_meets places s block met)

pub whole_held : (positions divided : List ℕ) (s : ℕ) (held : ℕ → ℕ → Bool) (block : Rectangle)
    → block ≡ whole_block PLACE_DIGITS → AreBelow positions divided s 100
    → HoldsAll held block ↔ HoldsEach (lotting (layout_of_bytes positions divided)) s held
whole_held positions divided s held block is below = (
  λ all column row place land. all column row
      (ap (λ b. in_rectangle b column row) is ∙ whole_is_place column row
      ∙ test_of_place PLACE_DIGITS column row place),
  λ each column row there.
      let place =
      place_of_test PLACE_DIGITS column row
      (sym (whole_is_place column row) ∙ sym (ap (λ b. in_rectangle b column row) is) ∙ there) in
      each column row place (all_land positions divided s column row below place),
)

-- the lots of a section are its marks from 1 to 99
pub mark_of_lot : (positions divided : List ℕ) (s lot : ℕ)
    → HasLot (lotting (layout_of_bytes positions divided)) s lot
    → (number : ℕ) × (number < PLACES) × (mark_of positions divided s number ≡ lot) × (lot < 100)
mark_of_lot positions divided s lot has =
    let there = lot_at positions divided s lot has.0 has.1 has.2 in
    (place_number has.0 has.1, (number_of has.0 has.1 there.0).0, there.1.0, there.1.2)

pub lot_of_number : (positions divided : List ℕ) (s lot number : ℕ) → number < PLACES
    → mark_of positions divided s number ≡ lot → 0 < lot → lot < 100
    → HasLot (lotting (layout_of_bytes positions divided)) s lot
lot_of_number positions divided s lot number below is some few =
    let place = place_at_number number below in (
      column_at number,
      row_at number,
      at_lot positions divided s lot (column_at number) (row_at number) place.0
          (ap (λ n. mark_of positions divided s n) place.1 ∙ is) some few,
    )

pub last_lot : (positions divided : List ℕ) (s after : ℕ) → AreBelow positions divided s (after + 1)
    → IsLastLot (lotting (layout_of_bytes positions divided)) s after
last_lot positions divided s after below lot has =
    let mark = mark_of_lot positions divided s lot has in
    omega (arith, below mark.0 mark.1, mark.2)

-- the lowest mark that is greater than a number
abbrev pub IsLowestMark : List ℕ → List ℕ → ℕ → ℕ → ℕ → Type 0
IsLowestMark positions divided s after lowest = (number : ℕ) → number < PLACES
    → after < mark_of positions divided s number → lowest ≤ mark_of positions divided s number

pub no_lot : (positions divided : List ℕ) (s after lowest : ℕ) → lowest ≡ 100
    → IsLowestMark positions divided s after lowest
    → IsLastLot (lotting (layout_of_bytes positions divided)) s after
no_lot positions divided s after lowest none least lot has =
    let mark = mark_of_lot positions divided s lot has in
    elim (cases_lt after lot) [
      | inr few ↦ few
      | inl more ↦
          absurd
          (omega (arith, none, mark.2, mark.3, least mark.0 mark.1 (omega (arith, more, mark.2))))
    ]

pub next_lot : (positions divided : List ℕ) (s after lowest : ℕ) → after < lowest → lowest < 100
    → ((number : ℕ) × (number < PLACES) × (mark_of positions divided s number ≡ lowest))
    → IsLowestMark positions divided s after lowest
    → IsNextLot (lotting (layout_of_bytes positions divided)) s after lowest
next_lot positions divided s after lowest more few is least = record {
  has = lot_of_number positions divided s lowest is.0 is.1 is.2 (omega (arith, more)) few;
  after = more;
  first = λ other has later.
      let mark = mark_of_lot positions divided s other has in
      omega (arith, mark.2, least mark.0 mark.1 (omega (arith, later, mark.2)));
}

-- a block within a position that isn't divided has its mark at each place
pub small_marked : (positions divided : List ℕ) (s least most position first : ℕ) (block : Rectangle)
    → IsDyadic PLACE_DIGITS block.columns → IsDyadic PLACE_DIGITS block.rows
    → block.columns.len ≤ 8 → block.rows.len ≤ 8
    → first ≡ place_number block.columns.start block.rows.start
    → position ≡ get_or positions ((s - 1) * 16 + first / 64) 0 → position ≤ 100
    → IsTrue (nat_le least position && nat_le position most)
    ↔ Meets (marked positions divided s least most) block
small_marked positions divided s least most position first block across upward wide high number is whole = (
  λ yes.
      let inside : in_rectangle block block.columns.start block.rows.start ≡ true =
      rw (first_in block.columns across.some, first_in block.rows upward.some) refl in
      let place = place_in_block block block.columns.start block.rows.start across upward inside in
      let mark = mark_here block.columns.start block.rows.start inside in
      let range = and_parts (nat_le least position) (nat_le position most) yes in
      record {
        column = block.columns.start;
        row = block.rows.start;
        inside = inside;
        is_held =
            is_marked positions divided s least most block.columns.start block.rows.start place
            (grind (arith, nat_tests, range.0, mark)) (grind (arith, nat_tests, range.1, mark));
      },
  λ met.
      let parts = marked_parts positions divided s least most met.column met.row met.is_held in
      let mark = mark_here met.column met.row met.inside in
      grind (arith, nat_tests, parts.1, parts.2, mark),
)
  where
    mark_here : (c r : ℕ) → in_rectangle block c r ≡ true
        → mark_of positions divided s (place_number c r) ≡ position
    mark_here c r inside =
        let both = and_parts (in_span block.columns c) (in_span block.rows r) inside in
        let place = place_in_block block c r across upward inside in
        let east : c / 8 ≡ block.columns.start / 8 = along_position block.columns c across wide both.0 in
        let north : r / 8 ≡ block.rows.start / 8 = along_position block.rows r upward high both.1 in
        let here = number_of c r place in
        let at_first : first / 64 ≡ block.rows.start / 8 * 4 + block.columns.start / 8 =
        omega (arith, number, across.within) in
        let same : place_number c r / 64 ≡ first / 64 = omega (arith, here.1, at_first, east, north) in
        position_mark positions divided s first position (place_number c r) is same
        ∙ whole_mark divided position (place_number c r % 64) whole

-- the marks of a section's next position
in_next : (positions divided : List ℕ) (s index position number : ℕ)
    → position ≡ get_or positions ((s - 1) * 16 + index * 64 / 64) 0 → index * 64 ≤ number
    → number < (index + 1) * 64 → mark_of positions divided s number ≡ mark_in divided position (number % 64)
in_next positions divided s index position number is least less =
    position_mark positions divided s (index * 64) position number is (omega (arith, least, less))

pub lower_next : (positions divided : List ℕ) (s after index position lowest here : ℕ)
    → position ≡ get_or positions ((s - 1) * 16 + index * 64 / 64) 0
    → IsLowestBelow positions divided s after (index * 64) lowest → after < here → here ≤ 100
    → (here < 100 → (within : ℕ) × (within < 64) × (mark_in divided position within ≡ here))
    → ((within : ℕ) → within < 64 → after < mark_in divided position within
    → here ≤ mark_in divided position within)
    → here < lowest → IsLowestBelow positions divided s after ((index + 1) * 64) here
lower_next positions divided s after index position lowest here is so_far more most has least lower = record {
  more = more;
  most = most;
  is = λ few.
      let place = has few in
      let less : place.0 < 64 = place.1 in
      let within : (index * 64 + place.0) % 64 ≡ place.0 = omega (arith, less) in (
        index * 64 + place.0,
        omega (arith, less),
        in_next positions divided s index position (index * 64 + place.0) is (omega arith)
            (omega (arith, less))
            ∙ ap (λ n. mark_in divided position n) within
            ∙ place.2,
      );
  least = λ number less later. elim (cases_lt number (index * 64)) [
    | inl before ↦ omega (arith, so_far.least number before later, lower)
    | inr from ↦
        let mark = in_next positions divided s index position number is (omega (arith, from)) less in
        omega (arith, mark, least (number % 64) (omega arith) (omega (arith, mark, later)))
  ];
}

pub not_lower_next : (positions divided : List ℕ) (s after index position lowest here : ℕ)
    → position ≡ get_or positions ((s - 1) * 16 + index * 64 / 64) 0
    → IsLowestBelow positions divided s after (index * 64) lowest
    → ((within : ℕ) → within < 64 → after < mark_in divided position within
    → here ≤ mark_in divided position within)
    → lowest ≤ here → IsLowestBelow positions divided s after ((index + 1) * 64) lowest
not_lower_next positions divided s after index position lowest here is so_far least lower = record {
  more = so_far.more;
  most = so_far.most;
  is = λ few.
      let place = so_far.is few in
      let less : place.0 < index * 64 = place.1 in
      (place.0, omega (arith, less), place.2);
  least = λ number less later. elim (cases_lt number (index * 64)) [
    | inl before ↦ so_far.least number before later
    | inr from ↦
        let mark = in_next positions divided s index position number is (omega (arith, from)) less in
        omega (arith, mark, lower, least (number % 64) (omega arith) (omega (arith, mark, later)))
  ];
}

-- the columns and rows of a block's places
pub inside_of : (block : Rectangle) (c r : ℕ) → block.columns.start ≤ c
    → c < block.columns.start + block.columns.len → block.rows.start ≤ r
    → r < block.rows.start + block.rows.len → in_rectangle block c r ≡ true
inside_of block c r east west south north = grind (arith, nat_tests, east, west, south, north)

pub range_of : (block : Rectangle) (c r : ℕ) → in_rectangle block c r ≡ true
    → (block.columns.start ≤ c) × (c < block.columns.start + block.columns.len)
    × (block.rows.start ≤ r) × (r < block.rows.start + block.rows.len)
range_of block c r inside = grind (arith, nat_tests, inside)

-- a position with the lowest number that the next lot can have
pub next_byte : (positions divided : List ℕ) (s after index : ℕ) → index < 16
    → get_or positions ((s - 1) * 16 + index) 0 ≡ after + 1 → after < 99
    → IsNextLot (lotting (layout_of_bytes positions divided)) s after (after + 1)
next_byte positions divided s after index less is few = record {
  has =
      let here : index * 64 / 64 ≡ index = omega arith in
      let mark : mark_of positions divided s (index * 64) ≡ after + 1 =
      ap (λ n. mark_in divided (get_or positions ((s - 1) * 16 + n) 0) (index * 64 % 64)) here
      ∙ ap (λ b. mark_in divided b (index * 64 % 64)) is
      ∙ whole_mark divided (after + 1) (index * 64 % 64) (omega (arith, few)) in
      lot_of_number positions divided s (after + 1) (index * 64) (omega (arith, less)) mark (omega arith)
      (omega (arith, few));
  after = omega arith;
  first = λ other has later. omega (arith, later);
}

-- the places of the positions from one on, up to another, whose bytes are out of a range
pub passed_places : (positions divided : List ℕ) (s least most start end : ℕ)
    → ((index : ℕ) → start ≤ index → index < end → get_or positions ((s - 1) * 16 + index) 0 < 101)
    → ((index : ℕ) → start ≤ index → index < end → least ≤ get_or positions ((s - 1) * 16 + index) 0
    → ¬ (get_or positions ((s - 1) * 16 + index) 0 ≤ most))
    → (number : ℕ) → start * 64 ≤ number → number < end * 64
    → least ≤ mark_of positions divided s number → ¬ (mark_of positions divided s number ≤ most)
passed_places positions divided s least most start end whole out number least' less low high =
    let mark =
    whole_mark divided (get_or positions ((s - 1) * 16 + number / 64) 0) (number % 64)
    (omega (arith, whole (number / 64) (omega (arith, least')) (omega (arith, less)))) in
    out (number / 64) (omega (arith, least')) (omega (arith, less)) (omega (arith, mark, low))
    (omega (arith, mark, high))

-- the marked places that are left are not before one up to which no place is marked
pub are_passed : (positions divided : List ℕ) (s least most from at : ℕ)
    → ((number : ℕ) → from ≤ number → number < at → least ≤ mark_of positions divided s number
    → ¬ (mark_of positions divided s number ≤ most))
    → ArePassed positions divided s least most from at
are_passed positions divided s least most from at none c r is after =
    let parts = marked_parts positions divided s least most c r is in
    elim (cases_lt (place_number c r) at) [
      | inr not_before ↦ not_before
      | inl before ↦ absurd (none (place_number c r) after before parts.1 parts.2)
    ]

-- a position with a mark from a least to a greatest
pub whole_marks : (divided : List ℕ) (position least most : ℕ) → position ≤ 100 → least ≤ position
    → position ≤ most → AreMarks divided position least most
whole_marks divided position least most whole low high within _ =
    let mark = whole_mark divided position within whole in
    (omega (arith, mark, low), omega (arith, mark, high))
