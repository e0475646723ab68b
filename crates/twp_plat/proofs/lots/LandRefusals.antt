-- The record with land that is not entered has the first fault.
use Rattle.std.proofs.Common.{◌≡◌, ◌≢◌, ℕ, ◌+◌, ◌≤◌, ◌<◌, List, length, inl, inr}
use Rattle.std.proofs.Common.{ap, subst, sym, arith}
use Rattle.twp_grammar.specs.declared.item.Step.{Step}
use Rattle.twp_grid.specs.Winding.{IsSection}
use Rattle.twp_land.specs.LotMarks.{mark_at, marks_of}
use Rattle.twp_notes.specs.Records.{Fields, field, record_at}
use Rattle.twp_plat.specs.LandTexts.{AreAliquotParts, parts_at}
use Rattle.twp_plat.specs.LandRecords.{LAND_FIELDS, IsForLot, HoldsPlace}
use Rattle.twp_plat.specs.LandFaults.{IsForNothing, LacksAcres, IsSameLotAgain, HasNoParts, HasTooFinePart}
use Rattle.twp_plat.specs.LandFaults.{HasPlaceTwice, HasPlaceOfEarlier, SharesPlace, IsOneTooMany}
use Rattle.twp_plat.specs.LandFaults.{HasLandFault}
use Rattle.twp_plat.specs.LotsFaults.{IsFrom}
use Rattle.twp_plat.specs.steps.LandPaints.{AreFine, ArePainted, IsPlaceShared}
use Rattle.twp_plat.specs.steps.LandEntries.{IsFullOfLots, IsForLand, IsForMark, IsMarkOf, lots_in}
use Rattle.twp_plat.specs.steps.LandEntries.{AreLandEntered, IsLandRefusedNext}
use Rattle.twp_plat.specs.declared.lots.fault.LotsFault.{LotsFault}
use Rattle.twp_plat.specs.declared.lots.fault.LotsFault.TheVariants as fault
use Rattle.twp_plat.specs.declared.lots.land_entries.LotEntries.{LotEntries}
use Rattle.twp_plat.proofs.lots.LandReading.{one_parts}
use Rattle.twp_plat.proofs.lots.LandRowFacts.{had_mark, held_in, land_mark, lot_or_none, mark_range}
use Rattle.twp_plat.proofs.lots.LandRowFacts.{mark_section}
use Rattle.twp_plat.proofs.lots.FirstLandFaults.{none_before, count_in_section, count_in_all}
use Rattle.twp_plat.proofs.lots.GoodRows.{good_for_land, good_with_parts, good_with_fine, good_with_places}
use Rattle.twp_plat.proofs.lots.RowPlaces.{AreRows, IsPlaced, is_row, on_row, placed}

-- the first fault of the records after the township's
pub record IsFirstOfLand (records : List Fields) (at number : ℕ) (is : LotsFault) : Type 0 where
  pub has : HasLandFault records is
  pub first : (other : LotsFault) → HasLandFault records other → IsFrom 1 at number other

-- the next record is an earlier one's lot again
same_lot_again : (records rows : List Fields) (count index section lot : ℕ) → AreRows records rows
    → count < length rows → index < count → IsForLot (record_at rows index) section lot
    → IsForLot (record_at rows count) section lot → IsSameLotAgain records (count + 3)
same_lot_again records rows count index section lot are within below before here = record {
  earlier = index + 3;
  section = section;
  lot = lot;
  is_earlier = omega (arith, below);
  earlier_is_row = is_row records rows index are (omega (arith, below, within));
  earlier_is_for = subst (λ (f : Fields). IsForLot f section lot) (sym (are.each index)) before;
  is_for = subst (λ (f : Fields). IsForLot f section lot) (sym (are.each count)) here;
}

-- it has not the fields of its kind
pub first_of_columns : (records rows : List Fields) (number : ℕ) → AreRows records rows
    → IsLandRefusedNext rows (fault.Columns number) → IsFirstOfLand records number 89 (fault.Columns number)
first_of_columns records rows number are next =
    let (at_is, wrong) = next.not_entered in
    subst (λ n. IsFirstOfLand records n 89 (fault.Columns n)) (sym at_is) (record {
      has =
          on_row (λ (f : Fields). length f ≢ LAND_FIELDS) records rows next.count are next.within wrong;
      first = none_before records rows next.count 89 next.marks next.entries are next.entered (record {
        columns = λ less. absurd (omega (arith, less));
        names = λ less. absurd (omega (arith, less));
        acres = λ less. absurd (omega (arith, less));
        again = λ less. absurd (omega (arith, less));
        parts = λ less. absurd (omega (arith, less));
        fine = λ less. absurd (omega (arith, less));
        shared = λ less. absurd (omega (arith, less));
      }) (omega arith);
    })

-- it is for nothing
pub first_of_no_lot : (records rows : List Fields) (number : ℕ) → AreRows records rows
    → IsLandRefusedNext rows (fault.NoLot number) → IsFirstOfLand records number 91 (fault.NoLot number)
first_of_no_lot records rows number are next =
    let (at_is, columns, nothing) = next.not_entered in
    subst (λ n. IsFirstOfLand records n 91 (fault.NoLot n)) (sym at_is) (record {
      has = on_row IsForNothing records rows next.count are next.within nothing;
      first = none_before records rows next.count 91 next.marks next.entries are next.entered (record {
        columns = λ less not. not columns;
        names = λ less. absurd (omega (arith, less));
        acres = λ less. absurd (omega (arith, less));
        again = λ less. absurd (omega (arith, less));
        parts = λ less. absurd (omega (arith, less));
        fine = λ less. absurd (omega (arith, less));
        shared = λ less. absurd (omega (arith, less));
      }) (omega arith);
    })

-- it has no acres
pub first_of_acres : (records rows : List Fields) (number : ℕ) → AreRows records rows
    → IsLandRefusedNext rows (fault.Acres number) → IsFirstOfLand records number 92 (fault.Acres number)
first_of_acres records rows number are next =
    let (at_is, columns, (section, lot, is, none)) = next.not_entered in
    subst (λ n. IsFirstOfLand records n 92 (fault.Acres n)) (sym at_is) (record {
      has =
          on_row LacksAcres records rows next.count are next.within
          (lot_or_none (record_at rows next.count) section lot is, none);
      first = none_before records rows next.count 92 next.marks next.entries are next.entered (record {
        columns = λ less not. not columns;
        names = λ less nothing. nothing.0 section lot is;
        acres = λ less. absurd (omega (arith, less));
        again = λ less. absurd (omega (arith, less));
        parts = λ less. absurd (omega (arith, less));
        fine = λ less. absurd (omega (arith, less));
        shared = λ less. absurd (omega (arith, less));
      }) (omega arith);
    })

-- it is for an earlier record's lot
pub first_of_repeated : (records rows : List Fields) (number : ℕ) → AreRows records rows
    → IsLandRefusedNext rows (fault.Repeated number) → IsFirstOfLand records number 93 (fault.Repeated number)
first_of_repeated records rows number are next =
    let (at_is, columns, (section, lot, is, acres, some)) = next.not_entered in
    let earlier = next.entered.named section lot is.section_is.1.0 is.least some in
    subst (λ n. IsFirstOfLand records n 93 (fault.Repeated n)) (sym at_is) (record {
      has = (
        is_row records rows next.count are next.within,
        same_lot_again records rows next.count earlier.0 section lot are next.within earlier.1 earlier.2 is,
      );
      first = none_before records rows next.count 93 next.marks next.entries are next.entered (record {
        columns = λ less not. not columns;
        names = λ less nothing. nothing.0 section lot is;
        acres = λ less lacks. acres lacks.1;
        again = λ less. absurd (omega (arith, less));
        parts = λ less. absurd (omega (arith, less));
        fine = λ less. absurd (omega (arith, less));
        shared = λ less. absurd (omega (arith, less));
      }) (omega arith);
    })

-- its land is no sequence of parts
pub first_of_land : (records rows : List Fields) (number : ℕ) → AreRows records rows
    → IsLandRefusedNext rows (fault.Land number) → IsFirstOfLand records number 96 (fault.Land number)
first_of_land records rows number are next =
    let (at_is, columns, (section, mark, for_land, none)) = next.not_entered in
    subst (λ n. IsFirstOfLand records n 96 (fault.Land n)) (sym at_is) (record {
      has = on_row HasNoParts records rows next.count are next.within none;
      first =
          none_before records rows next.count 96 next.marks next.entries are next.entered
          (good_for_land records rows next.count section mark next.marks next.entries are next.entered columns
          for_land)
          (omega arith);
    })

-- one of its parts is too small
pub first_of_too_fine : (records rows : List Fields) (number : ℕ) → AreRows records rows
    → IsLandRefusedNext rows (fault.TooFine number) → IsFirstOfLand records number 97 (fault.TooFine number)
first_of_too_fine records rows number are next =
    let (at_is, columns, (section, mark, for_land, (parts, is, (part, among, not)))) = next.not_entered in
    let fields : Fields = record_at rows next.count in
    let bad : HasTooFinePart fields =
    record { parts = parts; are = is; part = part; is_one = among; too_fine = not } in
    subst (λ n. IsFirstOfLand records n 97 (fault.TooFine n)) (sym at_is) (record {
      has = on_row HasTooFinePart records rows next.count are next.within bad;
      first =
          none_before records rows next.count 97 next.marks next.entries are next.entered
          (good_with_parts records (next.count + 3) fields
          (good_for_land records rows next.count section mark next.marks next.entries are next.entered columns
          for_land)
          (λ none. none parts is))
          (omega arith);
    })

-- a record whose parts are fine has none that is too small
not_too_fine : (fields : Fields) (parts : List (List Step)) → AreAliquotParts (field fields 3) parts
    → AreFine parts → ¬ HasTooFinePart fields
not_too_fine fields parts are fine has =
    let same = one_parts (field fields 3) has.parts parts has.are are in
    has.too_fine (fine has.part (rw same at has.is_one))

-- a place of the next record's parts is in two of them, or has a mark
shares : (records rows : List Fields) (count section mark : ℕ) (marks : List (List ℕ)) (entries : LotEntries)
    (parts : List (List Step))
    → AreRows records rows → count < length rows → AreLandEntered rows count marks entries
    → IsForLand (record_at rows count) section mark entries
    → AreAliquotParts (field (record_at rows count) 3) parts → IsPlaceShared section parts marks
    → SharesPlace records (count + 3)
shares records rows count section mark marks entries parts are within entered for_land aliquot is =
    elim is.shared [
      | inl twice ↦ inl (subst HasPlaceTwice (sym (are.each count)) (record {
        parts = parts;
        are = aliquot;
        column = is.column;
        row = is.row;
        place = is.place;
        twice = twice;
      }))
      | inr (some, marked) ↦
          inr (earlier some marked (entered.marked section is.column is.row range.0 is.place))
    ]
  where
    is_for : IsForMark (record_at rows count) section mark
    is_for = land_mark (record_at rows count) section mark entries for_land

    range : IsSection section
    range = mark_range (record_at rows count) section mark is_for

    earlier : 0 < parts_at parts is.column is.row → mark_at (marks_of marks section) is.column is.row ≢ 0
        → IsMarkOf rows count section is.column is.row (mark_at (marks_of marks section) is.column is.row)
        → HasPlaceOfEarlier records (count + 3)
    earlier some marked (inl by) = record {
      earlier = by.index + 3;
      is_earlier = let below = by.within in omega (arith, below);
      earlier_is_row =
          is_row records rows by.index are (let below = by.within in omega (arith, below, within));
      section = section;
      column = is.column;
      row = is.row;
      earlier_holds =
          subst (λ (f : Fields). HoldsPlace f section is.column is.row) (sym (are.each by.index)) by.holds;
      holds =
          subst (λ (f : Fields). HoldsPlace f section is.column is.row) (sym (are.each count)) (record {
            section_is = (mark_section (record_at rows count) section mark is_for, range);
            place = is.place;
            parts = parts;
            are = aliquot;
            some = some;
          });
    }
    earlier some marked (inr (none, _)) = absurd (marked none)

-- a place of its parts is in another part
pub first_of_shared : (records rows : List Fields) (number : ℕ) → AreRows records rows
    → IsLandRefusedNext rows (fault.Shared number) → IsFirstOfLand records number 98 (fault.Shared number)
first_of_shared records rows number are next =
    let (at_is, columns, (section, mark, for_land, (parts, is, fine, shared))) = next.not_entered in
    let fields : Fields = record_at rows next.count in
    subst (λ n. IsFirstOfLand records n 98 (fault.Shared n)) (sym at_is) (record {
      has = (
        is_row records rows next.count are next.within,
        shares records rows next.count section mark next.marks next.entries parts are next.within
            next.entered for_land is shared,
      );
      first =
          none_before records rows next.count 98 next.marks next.entries are next.entered
          (good_with_fine records (next.count + 3) fields
          (good_with_parts records (next.count + 3) fields
          (good_for_land records rows next.count section mark next.marks next.entries are next.entered columns
          for_land)
          (λ none. none parts is))
          (not_too_fine fields parts is fine))
          (omega arith);
    })

-- the places of parts that were painted are in no others
not_shared : (records rows : List Fields) (count section mark : ℕ) (marks now : List (List ℕ))
    (entries : LotEntries) (parts : List (List Step))
    → AreRows records rows → AreLandEntered rows count marks entries
    → IsForMark (record_at rows count) section mark
    → AreAliquotParts (field (record_at rows count) 3) parts → ArePainted section parts mark marks now
    → ¬ SharesPlace records (count + 3)
not_shared records rows count section mark marks now entries parts are entered is_for aliquot painted =
    λ shares. by shares
  where
    next : Fields
    next = record_at rows count

    by : ¬ SharesPlace records (count + 3)
    by (inl there) =
        let twice : HasPlaceTwice next = subst HasPlaceTwice (are.each count) there in
        let same = one_parts (field next 3) twice.parts parts twice.are aliquot in
        let two : 2 ≤ parts_at parts twice.column twice.row =
        subst (λ (ps : List (List Step)). 2 ≤ parts_at ps twice.column twice.row) same twice.twice in
        absurd (omega (arith, two, painted.apart twice.column twice.row twice.place))
    by (inr held) =
        let earlier : IsPlaced records rows held.earlier =
        placed records rows held.earlier are held.earlier_is_row in
        let holds =
        subst (λ (f : Fields). HoldsPlace f held.section held.column held.row) (are.each count) held.holds in
        let before =
        subst (λ (f : Fields). HoldsPlace f held.section held.column held.row) earlier.is
        held.earlier_holds in
        let in_part =
        held_in next section mark held.section held.column held.row parts is_for aliquot holds in
        let some =
        had_mark rows count held.section held.column held.row _
        (entered.marked held.section held.column held.row holds.section_is.1.0 holds.place) earlier.place
        (omega (arith, earlier.number_is, held.is_earlier)) before in
        let free = painted.free held.column held.row holds.place in_part.1 in
        let same : mark_at (marks_of marks held.section) held.column held.row
        ≡ mark_at (marks_of marks section) held.column held.row =
        ap (λ n. mark_at (marks_of marks n) held.column held.row) in_part.0 in
        absurd (omega (arith, some, free, same))

-- it is one too many
one_too_many : (records rows : List Fields) (count section lot : ℕ) (marks : List (List ℕ))
    (entries : LotEntries)
    → AreRows records rows → AreLandEntered rows count marks entries
    → IsForLot (record_at rows count) section lot → IsFullOfLots section entries
    → IsOneTooMany records (count + 3)
one_too_many records rows count section lot marks entries are entered is (inl full) = record {
  section = section;
  lot = lot;
  is_for = subst (λ (f : Fields). IsForLot f section lot) (sym (are.each count)) is;
  count = lots_in entries section;
  full =
      inl (
        count_in_section records rows section count (lots_in entries section) are
            (entered.counts section is.section_is.1.0),
        full,
      );
}
one_too_many records rows count section lot marks entries are entered is (inr full) = record {
  section = section;
  lot = lot;
  is_for = subst (λ (f : Fields). IsForLot f section lot) (sym (are.each count)) is;
  count = entries.count;
  full = inr (count_in_all records rows count entries.count are entered.count_is, full);
}

pub first_of_too_many : (records rows : List Fields) (number : ℕ) → AreRows records rows
    → IsLandRefusedNext rows (fault.TooMany number) → IsFirstOfLand records number 99 (fault.TooMany number)
first_of_too_many records rows number are next =
    let (at_is, columns, (section, lot, now, is, for_land, (parts, aliquot, painted), full)) =
    next.not_entered in
    let fields : Fields = record_at rows next.count in
    subst (λ n. IsFirstOfLand records n 99 (fault.TooMany n)) (sym at_is) (record {
      has = (
        is_row records rows next.count are next.within,
        one_too_many records rows next.count section lot next.marks next.entries are next.entered is full,
      );
      first =
          none_before records rows next.count 99 next.marks next.entries are next.entered
          (good_with_places records (next.count + 3) fields
          (good_with_fine records (next.count + 3) fields
          (good_with_parts records (next.count + 3) fields
          (good_for_land records rows next.count section lot next.marks next.entries are next.entered columns
          for_land)
          (λ none. none parts aliquot))
          (not_too_fine fields parts aliquot painted.fine))
          (not_shared records rows next.count section lot next.marks now next.entries parts are next.entered
          (inl is) aliquot painted))
          (omega arith);
    })
