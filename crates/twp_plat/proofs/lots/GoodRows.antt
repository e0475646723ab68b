-- Faults that the next record of a lot table with land does not have.
use Rattle.std.proofs.Common.{◌≡◌, ℕ, ◌+◌, List, length, inl, inr, subst, sym, arith}
use Rattle.twp_notes.specs.Records.{Fields, record_at}
use Rattle.twp_plat.specs.LandRecords.{LAND_FIELDS, IsForLot}
use Rattle.twp_plat.specs.LandFaults.{IsSameLotAgain, HasNoParts, HasTooFinePart, SharesPlace}
use Rattle.twp_plat.specs.steps.LandEntries.{IsForLand, AreLandEntered}
use Rattle.twp_plat.specs.declared.lots.land_entries.LotEntries.{LotEntries}
use Rattle.twp_plat.proofs.lots.LandRowFacts.{lot_or_none, one_lot}
use Rattle.twp_plat.proofs.lots.FirstLandFaults.{IsGoodBefore}
use Rattle.twp_plat.proofs.lots.RowPlaces.{AreRows, IsPlaced, placed}

-- a record that is for land, and not for an earlier lot, has no fault with a number less than 96
pub good_for_land : (records rows : List Fields) (count section mark : ℕ) (marks : List (List ℕ))
    (entries : LotEntries)
    → AreRows records rows → AreLandEntered rows count marks entries
    → length (record_at rows count) ≡ LAND_FIELDS → IsForLand (record_at rows count) section mark entries
    → IsGoodBefore records (count + 3) (record_at rows count) 96
good_for_land records rows count section mark marks entries are entered columns for_land = record {
  columns = λ less not. not columns;
  names = λ less nothing. elim for_land [
    | inl (is, free, text) ↦ nothing.0 section mark is
    | inr (none, is) ↦ nothing.1 section none
  ];
  acres = λ less lacks. elim for_land [
    | inl (is, free, text) ↦ lacks.1 text.0 text.1
    | inr (none, is) ↦ lacks.0 none.0
  ];
  again = λ less. not_again for_land;
  parts = λ less. absurd (omega (arith, less));
  fine = λ less. absurd (omega (arith, less));
  shared = λ less. absurd (omega (arith, less));
}
  where
    not_again : IsForLand (record_at rows count) section mark entries → ¬ IsSameLotAgain records (count + 3)
    not_again (inl (is, free, text)) again =
        let earlier : IsPlaced records rows again.earlier =
        placed records rows again.earlier are again.earlier_is_row in
        let here = subst (λ (f : Fields). IsForLot f again.section again.lot) (are.each count) again.is_for in
        let before =
        subst (λ (f : Fields). IsForLot f again.section again.lot) earlier.is again.earlier_is_for in
        let same = one_lot (record_at rows count) again.section again.lot section mark here is in
        let some =
        (entered.returned earlier.place again.section again.lot
        (omega (arith, earlier.number_is, again.is_earlier)) before).some in
        let none = rw (sym same.0, sym same.1) at free in
        absurd (omega (arith, some, none))
    not_again (inr (none, is)) again =
        let here = subst (λ (f : Fields). IsForLot f again.section again.lot) (are.each count) again.is_for in
        lot_or_none (record_at rows count) again.section again.lot here none.0

-- one fault less
pub good_with_parts : (records : List Fields) (at : ℕ) (fields : Fields) → IsGoodBefore records at fields 96
    → ¬ HasNoParts fields → IsGoodBefore records at fields 97
good_with_parts records at fields good some = record {
  columns = λ _. good.columns (omega arith);
  names = λ _. good.names (omega arith);
  acres = λ _. good.acres (omega arith);
  again = λ _. good.again (omega arith);
  parts = λ _. some;
  fine = λ less. absurd (omega (arith, less));
  shared = λ less. absurd (omega (arith, less));
}

pub good_with_fine : (records : List Fields) (at : ℕ) (fields : Fields) → IsGoodBefore records at fields 97
    → ¬ HasTooFinePart fields → IsGoodBefore records at fields 98
good_with_fine records at fields good fine = record {
  columns = λ _. good.columns (omega arith);
  names = λ _. good.names (omega arith);
  acres = λ _. good.acres (omega arith);
  again = λ _. good.again (omega arith);
  parts = λ _. good.parts (omega arith);
  fine = λ _. fine;
  shared = λ less. absurd (omega (arith, less));
}

pub good_with_places : (records : List Fields) (at : ℕ) (fields : Fields) → IsGoodBefore records at fields 98
    → ¬ SharesPlace records at → IsGoodBefore records at fields 99
good_with_places records at fields good apart = record {
  columns = λ _. good.columns (omega arith);
  names = λ _. good.names (omega arith);
  acres = λ _. good.acres (omega arith);
  again = λ _. good.again (omega arith);
  parts = λ _. good.parts (omega arith);
  fine = λ _. good.fine (omega arith);
  shared = λ _. apart;
}
