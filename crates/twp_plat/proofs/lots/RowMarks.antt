-- The marks of places by all rows of a lot table with land.
use Rattle.std.proofs.Common.{◌≡◌, ◌==◌, ◌&&◌, ℕ, zero, suc, ◌+◌, ◌-◌, ◌*◌, ◌/◌, ◌%◌, ◌<◌}
use Rattle.std.proofs.Common.{Bool}
use Rattle.std.proofs.Common.{not, List, [], length, get_or, inl, inr, refl, sym, ap, subst, ◌∙◌, arith}
use Rattle.std.proofs.lemmas.Bool.{cases_lt}
use Rattle.twp_grid.specs.Winding.{IsSection, SECTION_COUNT}
use Rattle.twp_grid.specs.Lots.{POSITIONS}
use Rattle.twp_grid.specs.Places.{PLACE_DIGITS, IsPlace}
use Rattle.twp_grid.specs.Spans.{one_where}
use Rattle.twp_grid.proofs.TotalFacts.{total-ext}
use Rattle.twp_land.specs.LotMaps.{place_number}
use Rattle.twp_land.specs.LotMarks.{all_below, are_alike, divided_count, is_divided, mark_at, marks_of}
use Rattle.twp_notes.specs.Records.{Fields, record_at}
use Rattle.twp_plat.specs.LandRecords.{IsForLot, IsForNoLand, HoldsPlace, IsLotAt, IsNoLandAt}
use Rattle.twp_plat.specs.LandFaults.{IsInNoPart, IsMark, AreMarks}
use Rattle.twp_plat.specs.steps.LandEntries.{IsForMark, IsMarkOf, AreLandEntered}
use Rattle.twp_plat.specs.declared.lots.land_entries.LotEntries.{LotEntries}
use Rattle.twp_plat.proofs.lots.LandRowFacts.{lot_or_none, one_lot}
use Rattle.twp_plat.proofs.lots.RowPlaces.{AreRows, IsPlaced, is_row, placed}

-- a place that a row holds has the row's mark
pub held_mark : (rows : List Fields) (count : ℕ) (marks : List (List ℕ)) (entries : LotEntries)
    (index section c r : ℕ)
    → AreLandEntered rows count marks entries → index < count → HoldsPlace (record_at rows index) section c r
    → IsForMark (record_at rows index) section (mark_at (marks_of marks section) c r)
held_mark rows count marks entries index section c r entered within holds =
    by (entered.marked section c r holds.section_is.1.0 holds.place)
  where
    by : IsMarkOf rows count section c r (mark_at (marks_of marks section) c r)
        → IsForMark (record_at rows index) section (mark_at (marks_of marks section) c r)
    by (inr (none, free)) = absurd (free index within holds)
    by (inl marked) = elim (cases_lt index marked.index) [
      | inl before ↦
          absurd (entered.apart index marked.index section c r before marked.within holds marked.holds)
      | inr from ↦ elim (cases_lt marked.index index) [
        | inl after ↦ absurd (entered.apart marked.index index section c r after within marked.holds holds)
        | inr to ↦
            let same : marked.index ≡ index = omega (arith, from, to) in
            subst (λ i. IsForMark (record_at rows i) section (mark_at (marks_of marks section) c r)) same
            marked.is_for
      ]
    ]

-- a row's lot and its land, by the number of its record
pub lot_at_row : (records rows : List Fields) (index section lot c r : ℕ) → AreRows records rows
    → index < length rows → IsForLot (record_at rows index) section lot
    → HoldsPlace (record_at rows index) section c r → IsLotAt records section lot c r
lot_at_row records rows index section lot c r are within is holds = record {
  number = index + 3;
  is_row = is_row records rows index are within;
  is_for = subst (λ (f : Fields). IsForLot f section lot) (sym (are.each index)) is;
  holds = subst (λ (f : Fields). HoldsPlace f section c r) (sym (are.each index)) holds;
}

pub no_land_at_row : (records rows : List Fields) (index section c r : ℕ) → AreRows records rows
    → index < length rows → IsForNoLand (record_at rows index) section
    → HoldsPlace (record_at rows index) section c r → IsNoLandAt records section c r
no_land_at_row records rows index section c r are within is holds = record {
  number = index + 3;
  is_row = is_row records rows index are within;
  is_for = subst (λ (f : Fields). IsForNoLand f section) (sym (are.each index)) is;
  holds = subst (λ (f : Fields). HoldsPlace f section c r) (sym (are.each index)) holds;
}

-- a place that no row holds is in no part
pub in_no_part : (records rows : List Fields) (section c r : ℕ) → AreRows records rows
    → ((index : ℕ) → index < length rows → ¬ HoldsPlace (record_at rows index) section c r)
    → IsInNoPart records section c r
in_no_part records rows section c r are free = (
  λ lot at.
      let by : IsPlaced records rows at.number = placed records rows at.number are at.is_row in
      free by.place by.within (subst (λ (f : Fields). HoldsPlace f section c r) by.is at.holds),
  λ at.
      let by : IsPlaced records rows at.number = placed records rows at.number are at.is_row in
      free by.place by.within (subst (λ (f : Fields). HoldsPlace f section c r) by.is at.holds),
)

-- when all rows were entered, the marks are those of the records
pub marks_are : (records rows : List Fields) (marks : List (List ℕ)) (entries : LotEntries)
    → AreRows records rows → AreLandEntered rows (length rows) marks entries → AreMarks records marks
marks_are records rows marks entries are entered section c r range place =
    by (entered.marked section c r range.0 place)
  where
    by : IsMarkOf rows (length rows) section c r (mark_at (marks_of marks section) c r)
        → IsMark records section c r (mark_at (marks_of marks section) c r)
    by (inl marked) = elim marked.is_for [
      | inl lot ↦
          inl (lot_at_row records rows marked.index section _ c r are marked.within lot marked.holds)
      | inr (none, is) ↦
          inr
          (inl (no_land_at_row records rows marked.index section c r are marked.within none marked.holds, is))
    ]
    by (inr (none, free)) = inr (inr (in_no_part records rows section c r are free, none))

-- a place has only one mark
pub mark_is : (records rows : List Fields) (marks : List (List ℕ)) (entries : LotEntries)
    (section c r mark : ℕ)
    → AreRows records rows → AreLandEntered rows (length rows) marks entries → IsSection section
    → IsPlace PLACE_DIGITS c r → IsMark records section c r mark
    → mark ≡ mark_at (marks_of marks section) c r
mark_is records rows marks entries section c r mark are entered range place (inl at) =
    let by : IsPlaced records rows at.number = placed records rows at.number are at.is_row in
    let holds = subst (λ (f : Fields). HoldsPlace f section c r) by.is at.holds in
    let lot = subst (λ (f : Fields). IsForLot f section mark) by.is at.is_for in
    elim (held_mark rows (length rows) marks entries by.place section c r entered by.within holds) [
      | inl lot' ↦ (one_lot (record_at rows by.place) section mark section _ lot lot').1
      | inr (none, is) ↦ absurd (lot_or_none (record_at rows by.place) section mark lot none.0)
    ]
mark_is records rows marks entries section c r mark are entered range place (inr (inl (at, is))) =
    let by : IsPlaced records rows at.number = placed records rows at.number are at.is_row in
    let holds = subst (λ (f : Fields). HoldsPlace f section c r) by.is at.holds in
    let none = subst (λ (f : Fields). IsForNoLand f section) by.is at.is_for in
    elim (held_mark rows (length rows) marks entries by.place section c r entered by.within holds) [
      | inl lot ↦ absurd (lot_or_none (record_at rows by.place) section _ lot none.0)
      | inr (none', is') ↦ is ∙ sym is'
    ]
mark_is records rows marks entries section c r mark are entered range place (inr (inr (free, none))) =
    elim (marks_are records rows marks entries are entered section c r range place) [
      | inl at ↦ absurd (free.0 _ at)
      | inr rest ↦ elim rest [
        | inl (at, is) ↦ absurd (free.1 at)
        | inr (free', none') ↦ none ∙ sym none'
      ]
    ]

-- other marks of the records are these
same_number : (records rows : List Fields) (marks marks' : List (List ℕ)) (entries : LotEntries)
    (section number : ℕ)
    → AreRows records rows → AreLandEntered rows (length rows) marks entries → AreMarks records marks'
    → IsSection section → number < 1024
    → get_or (marks_of marks' section) number 0 ≡ get_or (marks_of marks section) number 0
same_number records rows marks marks' entries section number are entered marks_are' range less =
    let c : ℕ = number / 64 % 4 * 8 + number % 8 in
    let r : ℕ = number / 64 / 4 * 8 + number % 64 / 8 in
    let place : IsPlace PLACE_DIGITS c r = (omega arith, omega arith) in
    let there : place_number c r ≡ number = omega arith in
    let same : mark_at (marks_of marks' section) c r ≡ mark_at (marks_of marks section) c r =
    mark_is records rows marks entries section c r _ are entered range place
    (marks_are' section c r range place) in
    subst (λ n. get_or (marks_of marks' section) n 0 ≡ get_or (marks_of marks section) n 0) there same

all_below-ext : (k : ℕ) (f g : ℕ → Bool) → ((n : ℕ) → n < k → f n ≡ g n) → all_below k f ≡ all_below k g
all_below-ext zero f g same = refl
all_below-ext (suc k) f g same =
    let rest = all_below-ext k f g (λ n less. same n (omega (arith, less))) in
    let last = same k (omega arith) in
    (λ i. rest i && last i)

-- so they divide as many positions
pub same_divided : (records rows : List Fields) (marks marks' : List (List ℕ)) (entries : LotEntries)
    → AreRows records rows → AreLandEntered rows (length rows) marks entries → AreMarks records marks'
    → divided_count marks' ≡ divided_count marks
same_divided records rows marks marks' entries are entered marks_are' =
    total-ext (SECTION_COUNT * POSITIONS) (λ index. one_where (is_divided marks' index))
    (λ index. one_where (is_divided marks index)) (λ index less.
    ap (λ b. one_where (not b)) (alike index less))
  where
    alike : (index : ℕ) → index < 576
        → are_alike (get_or marks' (index / 16) []) (index % 16 * 64)
        ≡ are_alike (get_or marks (index / 16) []) (index % 16 * 64)
    alike index less = all_below-ext 64 _ _ (λ n few.
        let first = entry (index % 16 * 64 + n) (omega (arith, few)) in
        let second = entry (index % 16 * 64) (omega arith) in
        (λ i. first i == second i))
      where
        entry : (number : ℕ) → number < 1024
            → get_or (get_or marks' (index / 16) []) number 0 ≡ get_or (get_or marks (index / 16) []) number 0
        entry number few =
            let section : ℕ = index / 16 + 1 in
            let back : index / 16 + 1 - 1 ≡ index / 16 = omega arith in
            subst (λ s. get_or (get_or marks' s []) number 0 ≡ get_or (get_or marks s []) number 0) back
            (same_number records rows marks marks' entries section number are entered marks_are'
            (omega arith, omega (arith, less)) few)
