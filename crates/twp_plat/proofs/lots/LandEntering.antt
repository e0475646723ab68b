-- Records of a lot table with land that are entered one after another.
use Rattle.std.proofs.Common.{◌≡◌, ◌≢◌, ◌⊎◌, ℕ, suc, ◌+◌, ◌≤◌, ◌<◌, List, length, inl, inr}
use Rattle.std.proofs.Common.{sym}
use Rattle.std.proofs.Common.{ap, subst, ◌∙◌, arith, if◌then◌else◌}
use Rattle.std.proofs.lemmas.Bool.{cases_lt, cases_eq}
use Rattle.twp_grid.specs.Places.{PLACE_DIGITS, IsPlace}
use Rattle.twp_grammar.specs.declared.item.Step.{Step}
use Rattle.twp_land.specs.LotMarks.{mark_at, marks_of}
use Rattle.twp_notes.specs.Records.{Fields, field, record_at}
use Rattle.twp_plat.specs.LotRecords.{IsAcresText}
use Rattle.twp_plat.specs.LandTexts.{AreAliquotParts, parts_at}
use Rattle.twp_plat.specs.LandRecords.{IsForLot, HasNoLot, HoldsPlace, IsCount}
use Rattle.twp_plat.specs.steps.LandPaints.{ArePainted}
use Rattle.twp_plat.specs.LotTables.{entered_count, entered_for}
use Rattle.twp_plat.specs.steps.LandEntries.{lots_in, AreNoEntries}
use Rattle.twp_plat.specs.steps.LandEntries.{IsForMark, IsAdded}
use Rattle.twp_plat.specs.steps.LandEntries.{EntersLand, IsLandRow, IsForSection, IsForSome}
use Rattle.twp_plat.specs.steps.LandEntries.{IsMarkOf}
use Rattle.twp_plat.specs.steps.LandEntries.{AreLandEntered, AreUnmarked, IsLandNotEntered}
use Rattle.twp_plat.specs.steps.LandEntries.{IsLandRefusedAfter}
use Rattle.twp_plat.specs.declared.lots.fault.LotsFault.{LotsFault}
use Rattle.twp_plat.specs.declared.lots.fault.LotsFault.TheVariants as fault
use Rattle.twp_plat.specs.declared.lots.land_entries.LotEntries.{LotEntries}
use Rattle.twp_plat.proofs.lots.CountedEntries.{none_counted, one_counted}
use Rattle.twp_plat.proofs.lots.PaintedParts.{if_some, if_none}
use Rattle.twp_plat.proofs.lots.LandRowFacts.{one_number, one_lot, lot_or_none, mark_section, entered_mark}
use Rattle.twp_plat.proofs.lots.LandRowFacts.{held_in, had_mark}

-- before any record was entered
pub none_entered : (rows : List Fields) (marks : List (List ℕ)) (entries : LotEntries) → AreUnmarked marks
    → AreNoEntries entries → AreLandEntered rows 0 marks entries
none_entered rows marks entries clear none = record {
  each = λ index below. absurd (omega (arith, below));
  once = λ index later section lot order below. absurd (omega (arith, below));
  apart = λ index later section column row order below. absurd (omega (arith, below));
  marked = λ section column row range place.
      inr (clear section column row, λ index below. absurd (omega (arith, below)));
  returned = λ index section lot below. absurd (omega (arith, below));
  numbered = λ index section lot below. absurd (omega (arith, below));
  named = λ section lot range least some. absurd (omega (arith, some, none.figures section lot));
  counts = λ section range. none.counts section;
  count_is = none.count;
  few = λ section range. omega (arith, none.counts section);
  few_in_all = omega (arith, none.count);
  all_counted = none_counted entries.figures none.figures ∙ sym none.count;
}

-- the next record is refused
pub refused_next : (rows : List Fields) (count : ℕ) (marks : List (List ℕ)) (entries : LotEntries)
    (is : LotsFault)
    → count < length rows → AreLandEntered rows count marks entries
    → IsLandNotEntered (record_at rows count) (count + 3) marks entries is → IsLandRefusedAfter rows is
refused_next rows count marks entries fault.Memory within entered not = tt
refused_next rows count marks entries _ within entered not = record {
  count = count;
  marks = marks;
  entries = entries;
  within = within;
  entered = entered;
  not_entered = not;
}

-- the acreage of an entered lot
acres_some : (fields : Fields) (section lot : ℕ) → IsForLot fields section lot → IsLandRow fields
    → (hundredths : ℕ) × IsAcresText (field fields 2) hundredths
acres_some fields section lot is row = elim row.acres [
  | inl none ↦ absurd (lot_or_none fields section lot is none)
  | inr some ↦ some
]

-- an earlier lot is another one than the next
other_lot : (rows : List Fields) (count : ℕ) (marks : List (List ℕ)) (entries : LotEntries)
    (index section lot mark_section mark : ℕ)
    → AreLandEntered rows count marks entries → index < count → IsForLot (record_at rows index) section lot
    → entered_for entries.figures mark_section mark ≡ 0
    → (section ≢ mark_section) ⊎ (lot ≢ mark)
other_lot rows count marks entries index section lot mark_section mark entered below is free =
    elim (cases_eq section mark_section) [
      | inr apart ↦ inl apart
      | inl same ↦ elim (cases_eq lot mark) [
        | inr apart ↦ inr apart
        | inl same' ↦
            let some = (entered.returned index section lot below is).some in
            let here : entered_for entries.figures section lot ≡ 0 =
            (λ i. entered_for entries.figures (same i) (same' i)) ∙ free in
            absurd (omega (arith, some, here))
      ]
    ]

-- one more record was entered
pub entered_more : (rows : List Fields) (count : ℕ) (was now : List (List ℕ)) (old new : LotEntries)
    → AreLandEntered rows count was old → EntersLand (record_at rows count) (count + 3) was now old new
    → AreLandEntered rows (count + 1) now new
entered_more rows count was now old new entered enters = record {
  each = λ index below. elim (cases_lt index count) [
    | inl before ↦ entered.each index before
    | inr over ↦
        let last : index ≡ count = omega (arith, below, over) in
        rw last row
  ];
  once = λ index later section lot order below is is'. elim (cases_lt later count) [
    | inl before ↦ entered.once index later section lot order before is is'
    | inr over ↦
        let last : later ≡ count = omega (arith, below, over) in
        not_again enters.added index section lot (omega (arith, order, last)) is
        (subst (λ n. IsForLot (record_at rows n) section lot) last is')
  ];
  apart = λ index later section column row' order below holds holds'. elim (cases_lt later count) [
    | inl before ↦ entered.apart index later section column row' order before holds holds'
    | inr over ↦
        let last : later ≡ count = omega (arith, below, over) in
        let here = subst (λ n. HoldsPlace (record_at rows n) section column row') last holds' in
        let in_part = held_in next enters.section enters.mark section column row' parts is_for are here in
        let free =
        painted.free column row' here.place in_part.1 in
        let mark =
        had_mark rows count section column row' _
        (entered.marked section column row' (omega (arith, here.section_is.1)) here.place) index
        (omega (arith, order, last)) holds in
        let same : mark_at (marks_of was section) column row'
        ≡ mark_at (marks_of was enters.section) column row' =
        ap (λ n. mark_at (marks_of was n) column row') in_part.0 in
        absurd (omega (arith, free, mark, same))
  ];
  marked = λ section column row' range place. elim (cases_eq section enters.section) [
    | inl same ↦ rw same (marked_here column row' place)
    | inr other ↦
        let kept : mark_at (marks_of now section) column row' ≡ mark_at (marks_of was section) column row' =
        ap (λ (marks : List ℕ). mark_at marks column row') (painted.others section other range) in
        rw kept (still section column row' _ (entered.marked section column row' range place)
        (λ here. other (held_in next enters.section enters.mark section column row' parts is_for are here).0))
  ];
  returned = λ index section lot below is. elim (cases_lt index count) [
    | inl before ↦
        rw (figure_kept enters.added index section lot before is)
        (entered.returned index section lot before is)
    | inr over ↦
        let last : index ≡ count = omega (arith, below, over) in
        rw last (returned_here enters.added section lot (subst (λ n. IsForLot (record_at rows n) section lot)
        last is))
  ];
  numbered = λ index section lot below is. elim (cases_lt index count) [
    | inl before ↦
        number_kept enters.added index section lot before is ∙ entered.numbered index section lot before is
    | inr over ↦
        let last : index ≡ count = omega (arith, below, over) in
        rw last (numbered_here enters.added section lot (subst (λ n. IsForLot (record_at rows n) section lot)
        last is))
  ];
  named = λ section lot range least some. named_by enters.added section lot range least some;
  counts = λ section range.
      subst (λ n. IsCount (IsForSection rows section) n (lots_in new section)) next_is
      (count_in enters.added section range (entered.counts section range));
  count_is =
      subst (λ n. IsCount (IsForSome rows) n new.count) next_is (count_all enters.added entered.count_is);
  few = λ section range. few_in enters.added section range;
  few_in_all = few_of_all enters.added;
  all_counted = all_counted_of enters.added;
}
  where
    next : Fields
    next = record_at rows count

    parts : List (List Step)
    parts = enters.painted.0

    are : AreAliquotParts (field next 3) parts
    are = enters.painted.1

    painted : ArePainted enters.section parts enters.mark was now
    painted = enters.painted.2

    is_for : IsForMark next enters.section enters.mark
    is_for = entered_mark next enters.section enters.mark (count + 3) old new enters.added

    next_is : suc count ≡ count + 1
    next_is = omega arith

    acres : IsAdded next enters.section enters.mark (count + 3) old new
        → HasNoLot next ⊎ ((hundredths : ℕ) × IsAcresText (field next 2) hundredths)
    acres (inl (is, free, (hundredths, text, adds))) = inr (hundredths, text)
    acres (inr (none, is, same)) = inl none.0

    row : IsLandRow next
    row = record {
      columns = enters.columns;
      section = enters.section;
      mark = enters.mark;
      is_for = is_for;
      acres = acres enters.added;
      parts = parts;
      are = are;
      fine = painted.fine;
      apart = painted.apart;
    }

    not_again : IsAdded next enters.section enters.mark (count + 3) old new
        → (index section lot : ℕ) → index < count → IsForLot (record_at rows index) section lot
        → IsForLot next section lot → ⊥
    not_again (inl (is, free, adds)) index section lot below before here =
        let same = one_lot next section lot enters.section enters.mark here is in
        elim
        (other_lot rows count was old index section lot enters.section enters.mark entered below before
        free) [
          | inl apart ↦ apart same.0
          | inr apart ↦ apart same.1
        ]
    not_again (inr (none, is, same)) index section lot below before here =
        lot_or_none next section lot here none.0

    still : (section column row' mark : ℕ) → IsMarkOf rows count section column row' mark
        → ¬ HoldsPlace next section column row' → IsMarkOf rows (count + 1) section column row' mark
    still section column row' mark (inl by) not = inl (record {
      index = by.index;
      within = omega (arith, by.within);
      is_for = by.is_for;
      holds = by.holds;
    })
    still section column row' mark (inr (zero_is, none)) not = inr (
      zero_is,
      λ index below holds. elim (cases_lt index count) [
        | inl before ↦ none index before holds
        | inr over ↦
            let last : index ≡ count = omega (arith, below, over) in
            not (subst (λ n. HoldsPlace (record_at rows n) section column row') last holds)
      ],
    )

    marked_here : (column row' : ℕ) → IsPlace PLACE_DIGITS column row'
        → IsMarkOf rows (count + 1) enters.section column row'
        (mark_at (marks_of now enters.section) column row')
    marked_here column row' place = elim (cases_lt 0 (parts_at parts column row')) [
      | inl some ↦
          let is : mark_at (marks_of now enters.section) column row' ≡ enters.mark =
          painted.marks column row' place
          ∙ if_some (parts_at parts column row') enters.mark
          (mark_at (marks_of was enters.section) column row') some in
          rw is (inl (record {
            index = count;
            within = omega arith;
            is_for = is_for;
            holds = record {
              section_is = (mark_section next enters.section enters.mark is_for, section_range is_for);
              place = place;
              parts = parts;
              are = are;
              some = some;
            };
          }))
      | inr none ↦
          let is : mark_at (marks_of now enters.section) column row'
          ≡ mark_at (marks_of was enters.section) column row' =
          painted.marks column row' place
          ∙ if_none (parts_at parts column row') enters.mark
          (mark_at (marks_of was enters.section) column row') (omega (arith, none)) in
          rw is (still enters.section column row' _
          (entered.marked enters.section column row' (omega (arith, section_range is_for)) place)
          (λ here.
          let held =
          held_in next enters.section enters.mark enters.section column row' parts is_for are here in
          absurd (omega (arith, none, held.1))))
    ]
      where
        section_range : IsForMark next enters.section enters.mark
            → (1 ≤ enters.section) × (enters.section ≤ 36)
        section_range (inl lot) = lot.section_is.1
        section_range (inr (no_land, is)) = no_land.1.1

    figure_kept : IsAdded next enters.section enters.mark (count + 3) old new
        → (index section lot : ℕ) → index < count → IsForLot (record_at rows index) section lot
        → entered_for new.figures section lot ≡ entered_for old.figures section lot
    figure_kept (inl (is, free, (hundredths, text, adds))) index section lot below before =
        adds.figures section lot before.section_is.1.0 before.least
        (other_lot rows count was old index section lot enters.section enters.mark entered below before free)
    figure_kept (inr (none, is, same)) index section lot below before =
        ap (λ (entries : LotEntries). entered_for entries.figures section lot) same

    number_kept : IsAdded next enters.section enters.mark (count + 3) old new
        → (index section lot : ℕ) → index < count → IsForLot (record_at rows index) section lot
        → entered_for new.records section lot ≡ entered_for old.records section lot
    number_kept (inl (is, free, (hundredths, text, adds))) index section lot below before =
        adds.records section lot before.section_is.1.0 before.least
        (other_lot rows count was old index section lot enters.section enters.mark entered below before free)
    number_kept (inr (none, is, same)) index section lot below before =
        ap (λ (entries : LotEntries). entered_for entries.records section lot) same

    returned_here : IsAdded next enters.section enters.mark (count + 3) old new
        → (section lot : ℕ) → IsForLot next section lot
        → IsAcresText (field next 2) (entered_for new.figures section lot)
    returned_here (inl (is, free, (hundredths, text, adds))) section lot here =
        let same = one_lot next section lot enters.section enters.mark here is in
        rw (same.0, same.1, adds.figure) text
    returned_here (inr (none, is, same)) section lot here = absurd (lot_or_none next section lot here none.0)

    numbered_here : IsAdded next enters.section enters.mark (count + 3) old new
        → (section lot : ℕ) → IsForLot next section lot → entered_for new.records section lot ≡ count + 3
    numbered_here (inl (is, free, (hundredths, text, adds))) section lot here =
        let same = one_lot next section lot enters.section enters.mark here is in
        rw (same.0, same.1) adds.number_is
    numbered_here (inr (none, is, same)) section lot here = absurd (lot_or_none next section lot here none.0)

    earlier : (section lot : ℕ) → 0 < entered_for old.figures section lot → 1 ≤ section → 1 ≤ lot
        → (index : ℕ) × (index < count + 1) × IsForLot (record_at rows index) section lot
    earlier section lot some range least =
        let by = entered.named section lot range least some in
        (by.0, omega (arith, by.1), by.2)

    named_by : IsAdded next enters.section enters.mark (count + 3) old new
        → (section lot : ℕ) → 1 ≤ section → 1 ≤ lot → 0 < entered_for new.figures section lot
        → (index : ℕ) × (index < count + 1) × IsForLot (record_at rows index) section lot
    named_by (inl (is, free, (hundredths, text, adds))) section lot range least some =
        elim (cases_eq section enters.section) [
          | inr apart ↦
              earlier section lot (rw (adds.figures section lot range least (inl apart)) at some) range least
          | inl same ↦ elim (cases_eq lot enters.mark) [
            | inr apart ↦
                earlier section lot (rw (adds.figures section lot range least (inr apart)) at some) range
                least
            | inl same' ↦ (count, omega arith, rw (same, same') is)
          ]
        ]
    named_by (inr (none, is, same)) section lot range least some =
        earlier section lot (rw same at some) range least

    count_in : IsAdded next enters.section enters.mark (count + 3) old new → (section : ℕ) → 1 ≤ section
        → IsCount (IsForSection rows section) count (lots_in old section)
        → IsCount (IsForSection rows section) (suc count) (lots_in new section)
    count_in (inl (is, free, (hundredths, text, adds))) section range so_far =
        elim (cases_eq section enters.section) [
          | inl same ↦ inl (
            (enters.mark, rw same is),
            (
              lots_in old section,
              (let more = adds.count_of in
                  rw same (omega (arith, more))),
              so_far,
            ),
          )
          | inr apart ↦ inr (
            λ some.
                apart (one_number (field next 0) section enters.section some.1.section_is.0 is.section_is.0),
            rw (adds.counts section range apart) so_far,
          )
        ]
    count_in (inr (none, is, same)) section range so_far =
        inr (λ some. lot_or_none next section some.0 some.1 none.0, rw same so_far)

    count_all : IsAdded next enters.section enters.mark (count + 3) old new
        → IsCount (IsForSome rows) count old.count → IsCount (IsForSome rows) (suc count) new.count
    count_all (inl (is, free, (hundredths, text, adds))) so_far = inl (
      (enters.section, enters.mark, is),
      (old.count, (let more = adds.count in omega (arith, more)), so_far),
    )
    count_all (inr (none, is, same)) so_far =
        inr (λ some. lot_or_none next some.0 some.1 some.2 none.0, rw same so_far)

    few_in : IsAdded next enters.section enters.mark (count + 3) old new → (section : ℕ) → 1 ≤ section
        → lots_in new section ≤ 64
    few_in (inl (is, free, (hundredths, text, adds))) section range = elim (cases_eq section enters.section) [
      | inl same ↦ rw same (let more = adds.count_of in let room = adds.room in omega (arith, more, room))
      | inr apart ↦ rw (adds.counts section range apart) (entered.few section range)
    ]
    few_in (inr (none, is, same)) section range = rw same (entered.few section range)

    few_of_all : IsAdded next enters.section enters.mark (count + 3) old new → new.count ≤ 1024
    few_of_all (inl (is, free, (hundredths, text, adds))) =
        let more = adds.count in let room = adds.room_in_all in omega (arith, more, room)
    few_of_all (inr (none, is, same)) = rw same entered.few_in_all

    all_counted_of : IsAdded next enters.section enters.mark (count + 3) old new
        → entered_count new.figures ≡ new.count
    all_counted_of (inl (is, free, (hundredths, text, adds))) =
        let some = text.some in
        one_counted old.figures new.figures enters.section enters.mark is.section_is.1 is.least is.most free
        (let figure = adds.figure in omega (arith, figure, some)) adds.figures
        ∙ ap (λ n. n + 1) entered.all_counted
        ∙ sym adds.count
    all_counted_of (inr (none, is, same)) = rw same entered.all_counted
