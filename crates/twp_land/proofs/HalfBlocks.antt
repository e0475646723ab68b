-- Halves of positions, and their columns in the east and the west, as blocks of a section.
use Rattle.std.proofs.Common.{◌≡◌, ℕ, ◌+◌, ◌-◌, ◌*◌, ◌/◌, ◌%◌, ◌<◌, ◌≤◌, ◌&&◌, true, List, get_or, nat_le}
use Rattle.std.proofs.Common.{◌∙◌, ap, refl, sym, inl, inr, arith}
use Rattle.std.proofs.lemmas.Bool.{and_parts, cases_lt}
use Rattle.std.proofs.lemmas.Bool.Decides.{nat_tests}
use Rattle.twp_grid.specs.Places.{PLACE_DIGITS, IsPlace}
use Rattle.twp_grid.specs.Spans.{Rectangle, in_rectangle}
use Rattle.twp_land.specs.LotMaps.{mark_in, mark_of, place_number}
use Rattle.twp_land.specs.declared.lot_map.bytes.Columns.{Columns}
use Rattle.twp_land.specs.declared.lot_map.bytes.Columns.TheVariants.{All, East, West}
use Rattle.twp_land.specs.steps.LotBytes.{column_count, first_column, in_columns}
use Rattle.twp_land.specs.steps.Marked.{PLACES, marked, IsNextBlock}
use Rattle.twp_land.proofs.MarkedFacts.{ArePassed, is_marked, marked_parts, number_of, position_mark}
use Rattle.twp_land.proofs.SectionMarks.{inside_of, range_of}

-- the marked places that are left are not before one up to which no more is marked
pub passed_on : (positions divided : List ℕ) (s least most from at next : ℕ)
    → ArePassed positions divided s least most from at
    → ((number : ℕ) → at ≤ number → number < next → least ≤ mark_of positions divided s number
    → ¬ (mark_of positions divided s number ≤ most))
    → ArePassed positions divided s least most from next
passed_on positions divided s least most from at next passed none c r is after =
    let parts = marked_parts positions divided s least most c r is in
    elim (cases_lt (place_number c r) next) [
      | inr not_before ↦ not_before
      | inl before ↦ absurd (none (place_number c r) (passed c r is after) before parts.1 parts.2)
    ]

-- a place of half a position, by the number of the first one of the half
half_mark : (positions divided : List ℕ) (s at position number : ℕ) → at % 32 ≡ 0
    → position ≡ get_or positions ((s - 1) * 16 + at / 64) 0 → at ≤ number → number < at + 32
    → mark_of positions divided s number ≡ mark_in divided position (at % 64 + (number - at))
half_mark positions divided s at position number half is least less =
    let same : number / 64 ≡ at / 64 = omega (arith, half, least, less) in
    let within : number % 64 ≡ at % 64 + (number - at) = omega (arith, half, least, less) in
    position_mark positions divided s at position number is same ∙ ap (λ n. mark_in divided position n) within

-- no mark of half a position is in the range
pub half_passed : (positions divided : List ℕ) (s least most from at position : ℕ) → at % 32 ≡ 0
    → position ≡ get_or positions ((s - 1) * 16 + at / 64) 0
    → ((within : ℕ) → within < 32 → least ≤ mark_in divided position (at % 64 + within)
    → ¬ (mark_in divided position (at % 64 + within) ≤ most))
    → ArePassed positions divided s least most from at
    → ArePassed positions divided s least most from (at + 32)
half_passed positions divided s least most from at position half is other passed =
    passed_on positions divided s least most from at (at + 32) passed
    (λ number least' less low high.
    let mark = half_mark positions divided s at position number half is least' less in
    other (number - at) (omega (arith, least', less)) (omega (arith, mark, low)) (omega (arith, mark, high)))

-- the columns
count_some : (columns : Columns) → 0 < column_count columns
count_some All = omega arith
count_some East = omega arith
count_some West = omega arith

columns_fit : (columns : Columns) → first_column columns + column_count columns ≤ 8
columns_fit All = omega arith
columns_fit East = omega arith
columns_fit West = omega arith

column_range : (columns : Columns) (p c within : ℕ) → within % 8 ≡ c % 8 → c / 8 ≡ p
    → in_columns columns within ≡ true
    → (p * 8 + first_column columns ≤ c) × (c < p * 8 + first_column columns + column_count columns)
column_range All p c within same at is = (omega (arith, at), omega (arith, at))
column_range East p c within same at is =
    let few : within % 8 < 4 = grind (arith, nat_tests, is) in
    (omega (arith, at), omega (arith, at, few, same))
column_range West p c within same at is =
    let many : 4 ≤ within % 8 = grind (arith, nat_tests, is) in
    (omega (arith, at, many, same), omega (arith, at))

column_in : (columns : Columns) (p c within : ℕ) → within % 8 ≡ c % 8
    → p * 8 + first_column columns ≤ c → c < p * 8 + first_column columns + column_count columns
    → in_columns columns within ≡ true
column_in All p c within same east west = refl
column_in East p c within same east west =
    let few : within % 8 < 4 = omega (arith, east, west, same) in
    grind (arith, nat_tests, few)
column_in West p c within same east west =
    let many : 4 ≤ within % 8 = omega (arith, east, west, same) in
    grind (arith, nat_tests, many)

-- the number of a place of half a position
half_number : (at c r : ℕ) → at < PLACES → at % 32 ≡ 0 → at / 64 % 4 * 8 ≤ c → c < at / 64 % 4 * 8 + 8
    → at / 64 / 4 * 8 + at % 64 / 8 ≤ r → r < at / 64 / 4 * 8 + at % 64 / 8 + 4
    → IsPlace PLACE_DIGITS c r × (at ≤ place_number c r) × (place_number c r < at + 32)
    × ((place_number c r - at) % 8 ≡ c % 8)
half_number at c r less half east west south north =
    let place : IsPlace PLACE_DIGITS c r = (omega (arith, less, west), omega (arith, less, half, north)) in
    let number = number_of c r place in
    let across : c / 8 ≡ at / 64 % 4 = omega (arith, east, west) in
    let upward : r / 8 ≡ at / 64 / 4 = omega (arith, half, south, north) in
    let same : place_number c r / 64 ≡ at / 64 = omega (arith, number.1, across, upward) in
    let row : (at % 64 / 8 ≤ r % 8) × (r % 8 < at % 64 / 8 + 4) =
    (omega (arith, upward, south, half), omega (arith, upward, north, half)) in
    let low : at % 64 ≤ place_number c r % 64 = omega (arith, number.2, row.0, half) in
    let high : place_number c r % 64 < at % 64 + 32 = omega (arith, number.2, row.1, half) in
    let least : at ≤ place_number c r = omega (arith, same, low) in
    (place, least, omega (arith, same, high), omega (arith, number.2, same, half, least))

-- the columns and rows of such a place
half_range : (at c r : ℕ) → at < PLACES → at % 32 ≡ 0 → IsPlace PLACE_DIGITS c r → at ≤ place_number c r
    → place_number c r < at + 32
    → (c / 8 ≡ at / 64 % 4) × (at / 64 / 4 * 8 + at % 64 / 8 ≤ r) × (r < at / 64 / 4 * 8 + at % 64 / 8 + 4)
    × ((place_number c r - at) % 8 ≡ c % 8)
half_range at c r less half place least short =
    let number = number_of c r place in
    let same : place_number c r / 64 ≡ at / 64 = omega (arith, half, least, short) in
    let across : c / 8 ≡ at / 64 % 4 = omega (arith, number.1, same, place.0) in
    let upward : r / 8 ≡ at / 64 / 4 = omega (arith, number.1, same, place.0) in
    let low : at % 64 / 8 ≤ r % 8 = omega (arith, number.2, same, least, half) in
    let high : r % 8 < at % 64 / 8 + 4 = omega (arith, number.2, same, short, half) in (
      across,
      omega (arith, upward, low),
      omega (arith, upward, high),
      omega (arith, number.2, same, half, least),
    )

-- the marked places of half a position are those of a block
pub half_next : (positions divided : List ℕ) (s least most from at position : ℕ) (columns : Columns)
    (block : Rectangle) → at < PLACES → at % 32 ≡ 0
    → position ≡ get_or positions ((s - 1) * 16 + at / 64) 0
    → ((within : ℕ) → within < 32 → (nat_le least (mark_in divided position (at % 64 + within))
    && nat_le (mark_in divided position (at % 64 + within)) most) ≡ in_columns columns within)
    → block.columns.start ≡ at / 64 % 4 * 8 + first_column columns → block.columns.len ≡ column_count columns
    → block.rows.start ≡ at / 64 / 4 * 8 + at % 64 / 8 → block.rows.len ≡ 4 → from ≤ at
    → ArePassed positions divided s least most from at
    → IsNextBlock (marked positions divided s least most) from block (at + 32)
half_next positions divided s least most from at position columns block less half is held start len row high
    order passed = record {
      more = omega (arith, order);
      within = omega (arith, less, half);
      some =
          inside_of block block.columns.start block.rows.start (omega arith)
          (omega (arith, len, count_some columns)) (omega arith) (omega (arith, high));
      is_set = λ c r inside.
          let there = of_block c r inside in
          let mark = half_mark positions divided s at position (place_number c r) half is there.1 there.2 in
          let test = held (place_number c r - at) (omega (arith, there.1, there.2)) ∙ there.3 in
          let range =
          and_parts (nat_le least (mark_in divided position (at % 64 + (place_number c r - at))))
          (nat_le (mark_in divided position (at % 64 + (place_number c r - at))) most) test in
          is_marked positions divided s least most c r there.0
          (grind (arith, nat_tests, range.0, mark)) (grind (arith, nat_tests, range.1, mark));
      numbered = λ c r inside.
          let there = of_block c r inside in
          (omega (arith, there.1, order), there.2);
      all = λ c r here after before.
          let parts = marked_parts positions divided s least most c r here in
          let least' = passed c r here after in
          let mark = half_mark positions divided s at position (place_number c r) half is least' before in
          let range = half_range at c r less half parts.0 least' before in
          let test : (nat_le least (mark_in divided position (at % 64 + (place_number c r - at)))
          && nat_le (mark_in divided position (at % 64 + (place_number c r - at))) most) ≡ true =
          grind (arith, nat_tests, parts.1, parts.2, mark) in
          let across =
          column_range columns (at / 64 % 4) c (place_number c r - at) range.3 range.0
          (sym (held (place_number c r - at) (omega (arith, least', before))) ∙ test) in
          inside_of block c r (omega (arith, start, across.0)) (omega (arith, start, len, across.1))
          (omega (arith, row, range.1)) (omega (arith, row, high, range.2));
    }
  where
    of_block : (c r : ℕ) → in_rectangle block c r ≡ true
        → IsPlace PLACE_DIGITS c r × (at ≤ place_number c r) × (place_number c r < at + 32)
        × (in_columns columns (place_number c r - at) ≡ true)
    of_block c r inside =
        let range = range_of block c r inside in
        let fit = columns_fit columns in
        let there =
        half_number at c r less half (omega (arith, range.0, start)) (omega (arith, range.1, start, len, fit))
        (omega (arith, range.2, row)) (omega (arith, range.3, row, high)) in (
          there.0,
          there.1,
          there.2,
          column_in columns (at / 64 % 4) c (place_number c r - at) there.3 (omega (arith, range.0, start))
              (omega (arith, range.1, start, len)),
        )
