-- Quarter-quarters that lots and land that is not there do not fill, by the marks of places.
use Rattle.std.proofs.Common.{◌≡◌, ◌⊎◌, ℕ, ◌+◌, ◌-◌, ◌*◌, ◌/◌, ◌%◌, ◌<◌, List, Option}
use Rattle.std.proofs.Common.{Some}
use Rattle.std.proofs.Common.{None, length, get_or, min, inl, inr, sym, ap, subst, ◌∙◌, arith}
use Rattle.std.proofs.lemmas.Bool.{cases_lt}
use Rattle.twp_grid.specs.Places.{PLACE_DIGITS, IsPlace, position_along}
use Rattle.twp_land.specs.LotMaps.{place_number}
use Rattle.twp_land.specs.LotMarks.{mark_at, marks_of}
use Rattle.twp_notes.specs.Records.{Fields, record_at}
use Rattle.twp_plat.specs.LotTables.{entered_for}
use Rattle.twp_plat.specs.LotRecords.{IsRowNumber}
use Rattle.twp_plat.specs.LandRecords.{IsForLot, HoldsPlace}
use Rattle.twp_plat.specs.LandFaults.{IsInNoPart, IsUnfilled}
use Rattle.twp_plat.specs.steps.LandEntries.{IsForSection, IsMarkOf, AreLandEntered}
use Rattle.twp_plat.specs.steps.Unfilled.{IsLeast, earlier_of, mark_within}
use Rattle.twp_plat.specs.steps.Unfilled.{IsUnfilledRecord, AreMarksOfLots}
use Rattle.twp_plat.specs.declared.lots.land_entries.LotEntries.{LotEntries}
use Rattle.twp_plat.proofs.lots.LandRowFacts.{lot_or_none, one_lot}
use Rattle.twp_plat.proofs.lots.RowCounts.{fewer_before, fewer}
use Rattle.twp_plat.proofs.lots.RowMarks.{held_mark, in_no_part, lot_at_row, no_land_at_row}
use Rattle.twp_plat.proofs.lots.RowPlaces.{AreRows, IsPlaced, is_row, placed}

-- the same property
pub least-same : (found : Option ℕ) (Has Is : ℕ → Type 0) → ((n : ℕ) → Has n → Is n)
    → ((n : ℕ) → Is n → Has n)
    → IsLeast found Has → IsLeast found Is
least-same None Has Is to from none = λ number is. none number (from number is)
least-same (Some least) Has Is to from (has, first) =
    (to least has, λ number is. first number (from number is))

-- the earlier of two is the least with either property
pub least_either : (first second : Option ℕ) (Has Is : ℕ → Type 0) → IsLeast first Has → IsLeast second Is
    → IsLeast (earlier_of first second) (λ n. Has n ⊎ Is n)
least_either None None Has Is none none' = λ number either. elim either [
  | inl has ↦ none number has
  | inr is ↦ none' number is
]
least_either None (Some other) Has Is none (is, least) = (
  inr is,
  λ number either. elim either [
    | inl has ↦ absurd (none number has)
    | inr is' ↦ least number is'
  ],
)
least_either (Some one) None Has Is (has, least) none = (
  inl has,
  λ number either. elim either [
    | inl has' ↦ least number has'
    | inr is ↦ absurd (none number is)
  ],
)
least_either (Some one) (Some other) Has Is (has, least) (is, least') = (
  (elim (cases_lt one other) [
    | inl less ↦
        let smaller : min one other ≡ one = omega (arith, less) in
        subst (λ n. Has n ⊎ Is n) (sym smaller) (inl has)
    | inr most ↦
        let smaller : min one other ≡ other = omega (arith, most) in
        subst (λ n. Has n ⊎ Is n) (sym smaller) (inr is)
  ]),
  λ number either. elim either [
    | inl has' ↦ omega (arith, least number has')
    | inr is' ↦ omega (arith, least' number is')
  ],
)

-- one more number, as places and positions are searched one after another
pub least_next : (first second : Option ℕ) (Has : ℕ → ℕ → Type 0) (index : ℕ)
    → IsLeast first (λ n. (k : ℕ) × (k < index) × Has k n) → IsLeast second (Has index)
    → IsLeast (earlier_of first second) (λ n. (k : ℕ) × (k < index + 1) × Has k n)
least_next first second Has index so_far here =
    least-same (earlier_of first second) (λ n. ((k : ℕ) × (k < index) × Has k n) ⊎ Has index n)
    (λ n. (k : ℕ) × (k < index + 1) × Has k n)
    (λ n either. elim either [
      | inl (k, less, has) ↦ (k, omega (arith, less), has)
      | inr has ↦ (index, omega arith, has)
    ])
    (λ n one. elim (cases_lt one.0 index) [
      | inl before ↦ inl (one.0, before, one.2)
      | inr after ↦
          let last : one.0 ≡ index = let less = one.1 in omega (arith, less, after) in
          inr (subst (λ k. Has k n) last one.2)
    ])
    (least_either first second (λ n. (k : ℕ) × (k < index) × Has k n) (Has index) so_far here)

-- a place of a position, by its number
abbrev column_of : ℕ → ℕ → ℕ
column_of position within = position % 4 * 8 + within % 8

abbrev row_of : ℕ → ℕ → ℕ
row_of position within = position / 4 * 8 + within / 8

place_of : (position within : ℕ) → position < 16 → within < 64
    → IsPlace PLACE_DIGITS (column_of position within) (row_of position within)
    × (place_number (column_of position within) (row_of position within) ≡ position * 64 + within)
place_of position within few few' = ((omega arith, omega arith), omega arith)

mark_there : (marks : List (List ℕ)) (section position within : ℕ) → position < 16 → within < 64
    → mark_at (marks_of marks section) (column_of position within) (row_of position within)
    ≡ mark_within marks section position within
mark_there marks section position within few few' =
    ap (λ n. get_or (marks_of marks section) n 0) (place_of position within few few').1

-- a record that was found is that of a lot in a quarter-quarter that isn't filled
pub unfilled_is : (records rows : List Fields) (marks : List (List ℕ)) (entries : LotEntries) (number : ℕ)
    → AreRows records rows → AreLandEntered rows (length rows) marks entries
    → IsUnfilledRecord marks entries.records number
    → IsRowNumber records number × IsUnfilled records number
unfilled_is records rows marks entries number are entered
    (section, range, (position, few, ((other, less', free), (within, less, ((some, lot), number_is))))) =
    by (entered.marked section column row range.0 place.0)
  where
    column : ℕ
    column = column_of position within

    row : ℕ
    row = row_of position within

    column' : ℕ
    column' = column_of position other

    row' : ℕ
    row' = row_of position other

    place : IsPlace PLACE_DIGITS column row × (place_number column row ≡ position * 64 + within)
    place = place_of position within few less

    place' : IsPlace PLACE_DIGITS column' row' × (place_number column' row' ≡ position * 64 + other)
    place' = place_of position other few less'

    mark : ℕ
    mark = mark_within marks section position within

    is : mark_at (marks_of marks section) column row ≡ mark
    is = mark_there marks section position within few less

    is' : mark_at (marks_of marks section) column' row' ≡ 0
    is' = mark_there marks section position other few less' ∙ free

    nowhere : IsMarkOf rows (length rows) section column' row' (mark_at (marks_of marks section) column' row')
        → IsInNoPart records section column' row'
    nowhere (inl marked) = elim marked.is_for [
      | inl lot' ↦ let least = lot'.least in absurd (omega (arith, least, is'))
      | inr (none, mark_is) ↦ absurd (omega (arith, mark_is, is'))
    ]
    nowhere (inr (none, empty)) = in_no_part records rows section column' row' are empty

    by : IsMarkOf rows (length rows) section column row (mark_at (marks_of marks section) column row)
        → IsRowNumber records number × IsUnfilled records number
    by (inr (none, empty)) = absurd (omega (arith, none, is, some))
    by (inl marked) = elim marked.is_for [
      | inr (none, mark_is) ↦ absurd (omega (arith, mark_is, is, lot))
      | inl named ↦
          let for_lot : IsForLot (record_at rows marked.index) section mark =
          subst (IsForLot (record_at rows marked.index) section) is named in
          let same : marked.index + 3 ≡ number =
          sym (entered.numbered marked.index section mark marked.within for_lot) ∙ number_is in
          subst (λ n. IsRowNumber records n × IsUnfilled records n) same (
            is_row records rows marked.index are marked.within,
            record {
              section = section;
              lot = mark;
              is_for =
                  subst (λ (f : Fields). IsForLot f section mark) (sym (are.each marked.index)) for_lot;
              column = column;
              row = row;
              holds =
                  subst (λ (f : Fields). HoldsPlace f section column row) (sym (are.each marked.index))
                  marked.holds;
              column' = column';
              row' = row';
              place' = place'.0;
              same_column = along position within other few less less';
              same_row = upward position within other few less less';
              free = nowhere (entered.marked section column' row' range.0 place'.0);
            },
          )
    ]
      where
        along : (p w o : ℕ) → p < 16 → w < 64 → o < 64
            → position_along PLACE_DIGITS (column_of p o) ≡ position_along PLACE_DIGITS (column_of p w)
        along p w o few less less' = omega arith

        upward : (p w o : ℕ) → p < 16 → w < 64 → o < 64
            → position_along PLACE_DIGITS (row_of p o) ≡ position_along PLACE_DIGITS (row_of p w)
        upward p w o few less less' = omega arith

-- each such record is found
pub unfilled_found : (records rows : List Fields) (marks : List (List ℕ)) (entries : LotEntries) (number : ℕ)
    → AreRows records rows → AreLandEntered rows (length rows) marks entries → IsRowNumber records number
    → IsUnfilled records number → IsUnfilledRecord marks entries.records number
unfilled_found records rows marks entries number are entered is unfilled = (
  unfilled.section,
  holds.section_is.1,
  (
    position,
    position_most unfilled.column unfilled.row holds.place.0 holds.place.1,
    (
      (
        within unfilled.column' unfilled.row',
        within_most unfilled.column' unfilled.row',
        subst (λ p.
            get_or (marks_of marks unfilled.section) (p * 64 + within unfilled.column' unfilled.row') 0 ≡ 0)
            same_position free,
      ),
      (
        within unfilled.column unfilled.row,
        within_most unfilled.column unfilled.row,
        ((mark_some, mark_few), number_is),
      ),
    ),
  ),
)
  where
    by : IsPlaced records rows number
    by = placed records rows number are is

    holds : HoldsPlace (record_at rows by.place) unfilled.section unfilled.column unfilled.row
    holds =
        subst (λ (f : Fields). HoldsPlace f unfilled.section unfilled.column unfilled.row) by.is
        unfilled.holds

    is_for : IsForLot (record_at rows by.place) unfilled.section unfilled.lot
    is_for = subst (λ (f : Fields). IsForLot f unfilled.section unfilled.lot) by.is unfilled.is_for

    position : ℕ
    position = unfilled.row / 8 * 4 + unfilled.column / 8

    within : ℕ → ℕ → ℕ
    within c r = r % 8 * 8 + c % 8

    within_most : (c r : ℕ) → within c r < 64
    within_most c r = omega arith

    position_most : (c r : ℕ) → c < 32 → r < 32 → r / 8 * 4 + c / 8 < 16
    position_most c r less less' = omega arith

    same_position : unfilled.row' / 8 * 4 + unfilled.column' / 8 ≡ position
    same_position =
        let along : unfilled.column' / 8 ≡ unfilled.column / 8 = unfilled.same_column in
        let upward : unfilled.row' / 8 ≡ unfilled.row / 8 = unfilled.same_row in
        omega (arith, along, upward)

    mark : ℕ
    mark = mark_at (marks_of marks unfilled.section) unfilled.column unfilled.row

    mark_is : mark ≡ unfilled.lot
    mark_is =
        elim
        (held_mark rows (length rows) marks entries by.place unfilled.section unfilled.column unfilled.row
        entered
        by.within holds) [
          | inl named ↦
              (one_lot (record_at rows by.place) unfilled.section mark unfilled.section unfilled.lot named
              is_for).1
          | inr (none, _) ↦
              absurd (lot_or_none (record_at rows by.place) unfilled.section unfilled.lot is_for none.0)
        ]

    mark_some : 0 < mark
    mark_some = let least = is_for.least in omega (arith, mark_is, least)

    mark_few : mark < 100
    mark_few = let most = is_for.most in omega (arith, mark_is, most)

    number_is : entered_for entries.records unfilled.section mark ≡ number
    number_is =
        ap (entered_for entries.records unfilled.section) mark_is
        ∙ entered.numbered by.place unfilled.section unfilled.lot by.within is_for
        ∙ sym by.number_is

    free : mark_at (marks_of marks unfilled.section) unfilled.column' unfilled.row' ≡ 0
    free = no_mark (entered.marked unfilled.section unfilled.column' unfilled.row' holds.section_is.1.0
        unfilled.place')
      where
        no_mark : IsMarkOf rows (length rows) unfilled.section unfilled.column' unfilled.row'
            (mark_at (marks_of marks unfilled.section) unfilled.column' unfilled.row')
            → mark_at (marks_of marks unfilled.section) unfilled.column' unfilled.row' ≡ 0
        no_mark (inr (none, empty)) = none
        no_mark (inl marked) = elim marked.is_for [
          | inl lot ↦
              absurd (unfilled.free.0 _ (lot_at_row records rows marked.index unfilled.section _
              unfilled.column' unfilled.row' are marked.within lot marked.holds))
          | inr (none, _) ↦
              absurd (unfilled.free.1 (no_land_at_row records rows marked.index unfilled.section
              unfilled.column' unfilled.row' are marked.within none marked.holds))
        ]

-- sections without lots have no marks of lots
pub marks_of_lots : (rows : List Fields) (marks : List (List ℕ)) (entries : LotEntries)
    → AreLandEntered rows (length rows) marks entries → AreMarksOfLots marks entries
marks_of_lots rows marks entries entered section range none number less (some, few) =
    let c : ℕ = number / 64 % 4 * 8 + number % 8 in
    let r : ℕ = number / 64 / 4 * 8 + number % 64 / 8 in
    let place : IsPlace PLACE_DIGITS c r = (omega arith, omega arith) in
    let there : place_number c r ≡ number = omega arith in
    let is : mark_at (marks_of marks section) c r ≡ get_or (marks_of marks section) number 0 =
    ap (λ n. get_or (marks_of marks section) n 0) there in
    by c r is (entered.marked section c r range.0 place)
  where
    by : (c r : ℕ) → mark_at (marks_of marks section) c r ≡ get_or (marks_of marks section) number 0
        → IsMarkOf rows (length rows) section c r (mark_at (marks_of marks section) c r) → ⊥
    by c r is (inr (free, _)) = absurd (omega (arith, is, free, some))
    by c r is (inl marked) = elim marked.is_for [
      | inr (no_land, mark_is) ↦ absurd (omega (arith, is, mark_is, few))
      | inl lot ↦
          let counted = entered.counts section range.0 in
          let before =
          fewer (IsForSection rows section) marked.index (length rows) _
          (let within = marked.within in omega (arith, within)) counted in
          let some_lots =
          fewer_before (IsForSection rows section) marked.index (length rows) _ before.0 marked.within
          (_, lot)
          counted before.2 in
          absurd (omega (arith, some_lots, none))
    ]
