-- The first fault of a lot table with land whose records are checked one after another.
use Rattle.std.proofs.Common.{◌≢◌, ℕ, ◌+◌, ◌≤◌, ◌<◌, List, length, inl, inr}
use Rattle.std.proofs.Common.{subst, sym, arith}
use Rattle.twp_grammar.specs.declared.item.Step.{Step}
use Rattle.twp_notes.specs.Records.{Fields, field, record_at}
use Rattle.twp_plat.specs.LotRecords.{IsRowNumber}
use Rattle.twp_plat.specs.LandTexts.{parts_at}
use Rattle.twp_plat.specs.LandRecords.{LAND_FIELDS, IsForLot, HoldsPlace, IsCount}
use Rattle.twp_plat.specs.LandFaults.{IsForNothing, LacksAcres, IsSameLotAgain, HasNoParts, HasTooFinePart}
use Rattle.twp_plat.specs.LandFaults.{HasPlaceTwice, SharesPlace, IsOneTooMany}
use Rattle.twp_plat.specs.LandFaults.{HasLandFault, IsRowOfLot, IsRowOfSection}
use Rattle.twp_plat.specs.LotsFaults.{IsFrom}
use Rattle.twp_plat.specs.steps.LandEntries.{IsForSection, IsForSome, IsLandRow, AreLandEntered}
use Rattle.twp_plat.specs.declared.lots.fault.LotsFault.{LotsFault}
use Rattle.twp_plat.specs.declared.lots.fault.LotsFault.TheVariants as fault
use Rattle.twp_plat.specs.declared.lots.land_entries.LotEntries.{LotEntries}
use Rattle.twp_plat.proofs.lots.LandReading.{one_parts}
use Rattle.twp_plat.proofs.lots.FaultOrder.{from_here, on_record}
use Rattle.twp_plat.proofs.lots.RowCounts.{one_count, fewer, fewer_before, count_of_rows}
use Rattle.twp_plat.proofs.lots.RowPlaces.{AreRows, IsPlaced, placed}

-- a valid record is for a lot or for land that is not there
not_nothing : (fields : Fields) → IsLandRow fields → ¬ IsForNothing fields
not_nothing fields row nothing = elim row.is_for [
  | inl lot ↦ nothing.0 row.section row.mark lot
  | inr none ↦ nothing.1 row.section none.0
]

not_lacking : (fields : Fields) → IsLandRow fields → ¬ LacksAcres fields
not_lacking fields row lacks = elim row.acres [
  | inl none ↦ lacks.0 none
  | inr some ↦ lacks.1 some.0 some.1
]

not_too_fine : (fields : Fields) → IsLandRow fields → ¬ HasTooFinePart fields
not_too_fine fields row has =
    let same = one_parts (field fields 3) has.parts row.parts has.are row.are in
    has.too_fine (row.fine has.part (rw same at has.is_one))

not_twice : (fields : Fields) → IsLandRow fields → ¬ HasPlaceTwice fields
not_twice fields row has =
    let same = one_parts (field fields 3) has.parts row.parts has.are row.are in
    let once = row.apart has.column has.row has.place in
    let twice : 2 ≤ parts_at row.parts has.column has.row =
    subst (λ (ps : List (List Step)). 2 ≤ parts_at ps has.column has.row) same has.twice in
    absurd (omega (arith, once, twice))

-- what rows are for, by their numbers among the records
row_of_section : (records rows : List Fields) (section index : ℕ) → AreRows records rows
    → IsForSection rows section index → IsRowOfSection records section (index + 3)
row_of_section records rows section index are (lot, is) =
    (omega arith, (lot, subst (λ (f : Fields). IsForLot f section lot) (sym (are.each index)) is))

section_of_row : (records rows : List Fields) (section index : ℕ) → AreRows records rows
    → IsRowOfSection records section (index + 3) → IsForSection rows section index
section_of_row records rows section index are (_, (lot, is)) =
    (lot, subst (λ (f : Fields). IsForLot f section lot) (are.each index) is)

row_of_lot : (records rows : List Fields) (index : ℕ) → AreRows records rows → IsForSome rows index
    → IsRowOfLot records (index + 3)
row_of_lot records rows index are (section, lot, is) = (
  omega arith,
  (section, lot, subst (λ (f : Fields). IsForLot f section lot) (sym (are.each index)) is),
)

lot_of_row : (records rows : List Fields) (index : ℕ) → AreRows records rows → IsRowOfLot records (index + 3)
    → IsForSome rows index
lot_of_row records rows index are (_, (section, lot, is)) =
    (section, lot, subst (λ (f : Fields). IsForLot f section lot) (are.each index) is)

-- the counts of rows are those of records
pub count_in_section : (records rows : List Fields) (section n count : ℕ) → AreRows records rows
    → IsCount (IsForSection rows section) n count → IsCount (IsRowOfSection records section) (n + 3) count
count_in_section records rows section n count are is =
    count_of_rows (IsRowOfSection records section) (IsForSection rows section) (λ number has. has.0)
    (λ index. section_of_row records rows section index are)
    (λ index. row_of_section records rows section index are) n count is

pub count_in_all : (records rows : List Fields) (n count : ℕ) → AreRows records rows
    → IsCount (IsForSome rows) n count → IsCount (IsRowOfLot records) (n + 3) count
count_in_all records rows n count are is =
    count_of_rows (IsRowOfLot records) (IsForSome rows) (λ number has. has.0)
    (λ index. lot_of_row records rows index are) (λ index. row_of_lot records rows index are) n count is

-- of the rows that were entered, none is for the lot of an earlier one
not_again : (records rows : List Fields) (count : ℕ) (marks : List (List ℕ)) (entries : LotEntries) (at : ℕ)
    → AreRows records rows → AreLandEntered rows count marks entries → at < count + 3
    → IsRowNumber records at → ¬ IsSameLotAgain records at
not_again records rows count marks entries at are entered below is again =
    let by : IsPlaced records rows at = placed records rows at are is in
    let earlier : IsPlaced records rows again.earlier =
    placed records rows again.earlier are again.earlier_is_row in
    entered.once earlier.place by.place again.section again.lot
    (omega (arith, earlier.number_is, by.number_is, again.is_earlier)) (omega (arith, by.number_is, below))
    (subst (λ (f : Fields). IsForLot f again.section again.lot) earlier.is again.earlier_is_for)
    (subst (λ (f : Fields). IsForLot f again.section again.lot) by.is again.is_for)

-- none of them has a place of another part
not_shared : (records rows : List Fields) (count : ℕ) (marks : List (List ℕ)) (entries : LotEntries) (at : ℕ)
    → AreRows records rows → AreLandEntered rows count marks entries → at < count + 3
    → IsRowNumber records at → ¬ SharesPlace records at
not_shared records rows count marks entries at are entered below is (inl twice) =
    let by : IsPlaced records rows at = placed records rows at are is in
    not_twice (record_at rows by.place) (entered.each by.place (omega (arith, by.number_is, below)))
    (subst HasPlaceTwice by.is twice)
not_shared records rows count marks entries at are entered below is (inr held) =
    let by : IsPlaced records rows at = placed records rows at are is in
    let earlier : IsPlaced records rows held.earlier =
    placed records rows held.earlier are held.earlier_is_row in
    entered.apart earlier.place by.place held.section held.column held.row
    (omega (arith, earlier.number_is, by.number_is, held.is_earlier)) (omega (arith, by.number_is, below))
    (subst (λ (f : Fields). HoldsPlace f held.section held.column held.row) earlier.is held.earlier_holds)
    (subst (λ (f : Fields). HoldsPlace f held.section held.column held.row) by.is held.holds)

-- none of them is one too many
not_too_many : (records rows : List Fields) (count : ℕ) (marks : List (List ℕ)) (entries : LotEntries)
    (at : ℕ)
    → AreRows records rows → AreLandEntered rows count marks entries → at < count + 3
    → IsRowNumber records at → ¬ IsOneTooMany records at
not_too_many records rows count marks entries at are entered below is many = elim many.full [
  | inl (counted, full) ↦
      let before =
      fewer (IsForSection rows many.section) by.place count _ (omega (arith, within))
      (entered.counts many.section least) in
      let less =
      fewer_before (IsForSection rows many.section) by.place count _ before.0 within (many.lot, is_for)
      (entered.counts many.section least) before.2 in
      let there = count_in_section records rows many.section by.place before.0 are before.2 in
      let same =
      one_count (IsRowOfSection records many.section) (by.place + 3) many.count before.0
      (subst (λ n. IsCount (IsRowOfSection records many.section) n many.count) by.number_is counted) there in
      let few = entered.few many.section least in
      absurd (omega (arith, less, same, few, full))
  | inr (counted, full) ↦
      let before =
      fewer (IsForSome rows) by.place count _ (omega (arith, within)) entered.count_is in
      let less =
      fewer_before (IsForSome rows) by.place count _ before.0 within (many.section, many.lot, is_for)
      entered.count_is before.2 in
      let there = count_in_all records rows by.place before.0 are before.2 in
      let same =
      one_count (IsRowOfLot records) (by.place + 3) many.count before.0
      (subst (λ n. IsCount (IsRowOfLot records) n many.count) by.number_is counted) there in
      let few = entered.few_in_all in
      absurd (omega (arith, less, same, few, full))
]
  where
    by : IsPlaced records rows at
    by = placed records rows at are is

    within : by.place < count
    within = let number = by.number_is in omega (arith, number, below)

    is_for : IsForLot (record_at rows by.place) many.section many.lot
    is_for = subst (λ (f : Fields). IsForLot f many.section many.lot) by.is many.is_for

    least : 1 ≤ many.section
    least = many.is_for.section_is.1.0

-- the next record has no fault with a smaller number than this
pub record IsGoodBefore (records : List Fields) (at : ℕ) (fields : Fields) (number : ℕ) : Type 0 where
  pub columns : 89 < number → length fields ≢ LAND_FIELDS → ⊥
  pub names : 91 < number → ¬ IsForNothing fields
  pub acres : 92 < number → ¬ LacksAcres fields
  pub again : 93 < number → ¬ IsSameLotAgain records at
  pub parts : 96 < number → ¬ HasNoParts fields
  pub fine : 97 < number → ¬ HasTooFinePart fields
  pub shared : 98 < number → ¬ SharesPlace records at

-- no fault comes before those of the next record, and that record has none with a number less than
-- `number`
pub none_before : (records rows : List Fields) (count number : ℕ) (marks : List (List ℕ))
    (entries : LotEntries)
    → AreRows records rows → AreLandEntered rows count marks entries
    → IsGoodBefore records (count + 3) (record_at rows count) number → number ≤ 99 → (other : LotsFault)
    → HasLandFault records other → IsFrom 1 (count + 3) number other
none_before records rows count number marks entries are entered good most (fault.Columns at) (is, bad) =
    on_record (λ (f : Fields). length f ≢ LAND_FIELDS) records rows count number 89 at are
    (λ place below wrong. wrong (entered.each place below).columns) good.columns is bad
none_before records rows count number marks entries are entered good most (fault.NoLot at) (is, bad) =
    on_record IsForNothing records rows count number 91 at are
    (λ place below. not_nothing (record_at rows place) (entered.each place below)) good.names is bad
none_before records rows count number marks entries are entered good most (fault.Acres at) (is, bad) =
    on_record LacksAcres records rows count number 92 at are
    (λ place below. not_lacking (record_at rows place) (entered.each place below)) good.acres is bad
none_before records rows count number marks entries are entered good most (fault.Repeated at) (is, again) =
    from_here count number 93 at
    (λ below. not_again records rows count marks entries at are entered below is again)
    (λ less same. good.again less (subst (IsSameLotAgain records) same again))
none_before records rows count number marks entries are entered good most (fault.Land at) (is, bad) =
    on_record HasNoParts records rows count number 96 at are
    (λ place below none. none (entered.each place below).parts (entered.each place below).are) good.parts is
    bad
none_before records rows count number marks entries are entered good most (fault.TooFine at) (is, bad) =
    on_record HasTooFinePart records rows count number 97 at are
    (λ place below. not_too_fine (record_at rows place) (entered.each place below)) good.fine is bad
none_before records rows count number marks entries are entered good most (fault.Shared at) (is, shares) =
    from_here count number 98 at
    (λ below. not_shared records rows count marks entries at are entered below is shares)
    (λ less same. good.shared less (subst (SharesPlace records) same shares))
none_before records rows count number marks entries are entered good most (fault.TooMany at) (is, many) =
    from_here count number 99 at
    (λ below. not_too_many records rows count marks entries at are entered below is many)
    (λ less same. absurd (omega (arith, most, less)))
none_before records rows count number marks entries are entered good most (fault.Unfilled at) has =
    inl (omega arith)
none_before records rows count number marks entries are entered good most (fault.Divided at) has =
    inl (omega arith)
none_before records rows count number marks entries are entered good most _ has = absurd has
