-- The first fault of a lot table with a fault in its first two records, and the faults of one without.
use Rattle.std.proofs.Common.{◌≡◌, ◌≢◌, ◌⊎◌, ℕ, ◌+◌, ◌≤◌, ◌<◌, List, [], ◌∷◌, length, inl, inr, refl}
use Rattle.std.proofs.Common.{ap, subst, sym, ◌∙◌, arith, Err, IfSome}
use Rattle.twp_notes.specs.Records.{Fields, records_of, record_numbered}
use Rattle.twp_notes.specs.FieldNotes.{FIELDS}
use Rattle.twp_notes.specs.declared.reading.ReadFault.{ReadFault}
use Rattle.twp_notes.specs.declared.reading.ReadFault.TheVariants as reading
use Rattle.twp_plat.specs.LotRecords.{LOTS_TEXT_MOST, lots_heading}
use Rattle.twp_plat.specs.LandRecords.{land_heading}
use Rattle.twp_plat.specs.LandFaults.{HasLandFault}
use Rattle.twp_plat.specs.LotsFaults.{AnswersLots, HasFault, HasLotFault, HasRowFault, IsFirstLotsFault}
use Rattle.twp_plat.specs.LotsFaults.{IsFrom}
use Rattle.twp_plat.specs.LotsFaults.{refusal_of}
use Rattle.twp_plat.specs.steps.LotReading.{heading_fields, IsPlatFault}
use Rattle.twp_plat.specs.steps.PassedLotFaults.{lots_fault_of}
use Rattle.twp_plat.specs.declared.lots.fault.LotsFault.{LotsFault}
use Rattle.twp_plat.specs.declared.lots.fault.LotsFault.TheVariants as fault
use Rattle.twp_plat.specs.declared.lots.heading.Heading.{Heading}
use Rattle.twp_plat.specs.declared.lots.heading.Heading.TheVariants as heading
use Rattle.twp_plat.proofs.lots.FaultOrder.{IsAfter, row_fault_after}
use Rattle.twp_plat.proofs.lots.RowPlaces.{AreAfter}

-- the two headings differ
pub headings_differ : lots_heading ≡ land_heading → ⊥
headings_differ same =
    let count : 3 ≡ 4 = ap length same in
    absurd (omega (arith, count))

-- a failure to read is not a refusal
pub answers_reading : (bytes : List ℕ) (fault : ReadFault) → AnswersLots bytes (Err (lots_fault_of fault))
answers_reading bytes reading.Read = tt
answers_reading bytes reading.Memory = tt

-- too many bytes are the first fault
pub too_large_first : (bytes : List ℕ) → LOTS_TEXT_MOST < length bytes → IsFirstLotsFault bytes fault.TooLarge
too_large_first bytes large = record { is = large; first = λ other has. before other }
  where
    before : (other : LotsFault) → IsFrom 0 LOTS_TEXT_MOST 86 other
    before fault.TooLarge = inr (inr (refl, refl, omega arith))
    before fault.Empty = inl (omega arith)
    before fault.Heading = inl (omega arith)
    before (fault.Columns at) = inl (omega arith)
    before fault.Township = inl (omega arith)
    before (fault.NoLot at) = inl (omega arith)
    before (fault.Acres at) = inl (omega arith)
    before (fault.Repeated at) = inl (omega arith)
    before fault.Date = inl (omega arith)
    before (fault.Land at) = inl (omega arith)
    before (fault.TooFine at) = inl (omega arith)
    before (fault.Shared at) = inl (omega arith)
    before (fault.TooMany at) = inl (omega arith)
    before (fault.Unfilled at) = inl (omega arith)
    before (fault.Divided at) = inl (omega arith)
    before fault.Read = inl (omega arith)
    before fault.Memory = inl (omega arith)

-- a fault of the second record, which comes after this one
at_two : (place number own : ℕ) → (place < 2) ⊎ ((place ≡ 2) × (number ≤ own)) → IsAfter place number 2 own
at_two place number own (inl before) = inr (inl (refl, before))
at_two place number own (inr (here, most)) = inr (inr (refl, here, most))

-- what is not wrong with the first two records before this place and number
pub record IsGoodUntil (bytes : List ℕ) (place number : ℕ) : Type 0 where
  pub size : length bytes ≤ LOTS_TEXT_MOST
  pub early : place < 3
  pub some : records_of bytes ≡ [] → (place ≡ 1) × (number ≤ 87)
  pub heading_is : HasFault bytes fault.Heading → (place ≡ 1) × (number ≤ 88)
  pub columns : length (record_numbered (records_of bytes) 2) ≢ FIELDS
      → length (record_numbered (records_of bytes) 2) ≢ FIELDS + 1 → 2 ≤ length (records_of bytes)
      → (place < 2) ⊎ ((place ≡ 2) × (number ≤ 89))
  pub township : HasFault bytes fault.Township → (place < 2) ⊎ ((place ≡ 2) × (number ≤ 90))
  pub date : HasFault bytes fault.Date → (place < 2) ⊎ ((place ≡ 2) × (number ≤ 95))

-- no fault comes before this place and number
pub none_before : (bytes : List ℕ) (place number : ℕ) → IsGoodUntil bytes place number
    → (other : LotsFault) → HasFault bytes other → IsFrom 1 place number other
none_before bytes place number good fault.TooLarge has = absurd (omega (arith, has, good.size))
none_before bytes place number good fault.Empty has =
    let at = good.some has in inr (inr (refl, at.0, at.1))
none_before bytes place number good fault.Heading has =
    let at = good.heading_is has in inr (inr (refl, at.0, at.1))
none_before bytes place number good (fault.Columns at) (inl (is, two, not_five, not_six)) =
    subst (λ n. IsFrom 1 place number (fault.Columns n)) (sym is)
    (at_two place number 89 (good.columns not_five not_six two))
none_before bytes place number good (fault.Columns at) (inr has) =
    row_fault_after (records_of bytes) place number (fault.Columns at) good.early has
none_before bytes place number good fault.Township has = at_two place number 90 (good.township has)
none_before bytes place number good fault.Date has = at_two place number 95 (good.date has)
none_before bytes place number good (fault.NoLot at) has =
    row_fault_after (records_of bytes) place number (fault.NoLot at) good.early has
none_before bytes place number good (fault.Acres at) has =
    row_fault_after (records_of bytes) place number (fault.Acres at) good.early has
none_before bytes place number good (fault.Repeated at) has =
    row_fault_after (records_of bytes) place number (fault.Repeated at) good.early has
none_before bytes place number good (fault.Land at) has =
    row_fault_after (records_of bytes) place number (fault.Land at) good.early has
none_before bytes place number good (fault.TooFine at) has =
    row_fault_after (records_of bytes) place number (fault.TooFine at) good.early has
none_before bytes place number good (fault.Shared at) has =
    row_fault_after (records_of bytes) place number (fault.Shared at) good.early has
none_before bytes place number good (fault.TooMany at) has =
    row_fault_after (records_of bytes) place number (fault.TooMany at) good.early has
none_before bytes place number good (fault.Unfilled at) has =
    row_fault_after (records_of bytes) place number (fault.Unfilled at) good.early has
none_before bytes place number good (fault.Divided at) has =
    row_fault_after (records_of bytes) place number (fault.Divided at) good.early has
none_before bytes place number good fault.Read has =
    row_fault_after (records_of bytes) place number fault.Read good.early has
none_before bytes place number good fault.Memory has =
    row_fault_after (records_of bytes) place number fault.Memory good.early has

-- a heading is no fault
no_heading_fault : (bytes : List ℕ) (kind : Heading) (first : Fields) (rest : List Fields)
    → records_of bytes ≡ first ∷ rest → first ≡ heading_fields kind → HasFault bytes fault.Heading → ⊥
no_heading_fault bytes heading.Standard first rest split is has = has.0 (rw split is)
no_heading_fault bytes heading.Land first rest split is has = has.1 (rw split is)

-- the second record is not that of a plat
plat_first : (bytes : List ℕ) (kind : Heading) (first second : Fields) (rest : List Fields)
    (is : LotsFault)
    → length bytes ≤ LOTS_TEXT_MOST → records_of bytes ≡ first ∷ second ∷ rest → first ≡ heading_fields kind
    → IsPlatFault second is → IsFirstLotsFault bytes is
plat_first bytes kind first second rest is size split named = by is
  where
    two : record_numbered (records_of bytes) 2 ≡ second
    two = rw split refl

    long : 2 ≤ length (records_of bytes)
    long =
        let all : length (records_of bytes) ≡ 2 + length rest = rw split (omega arith) in
        omega (arith, all)

    by : (is : LotsFault) → IsPlatFault second is → IsFirstLotsFault bytes is
    by (fault.Columns number) (at, not_five, not_six) =
        subst (λ n. IsFirstLotsFault bytes (fault.Columns n)) (sym at) (record {
          is = inl (refl, long, rw two not_five, rw two not_six);
          first = none_before bytes 2 89 (record {
            size = size;
            early = omega arith;
            some = λ empty. absurd (cc (sym split ∙ empty));
            heading_is = λ has. absurd (no_heading_fault bytes kind first (second ∷ rest) split named has);
            columns = λ _ _ _. inr (refl, omega arith);
            township = λ _. inr (refl, omega arith);
            date = λ _. inr (refl, omega arith);
          });
        })
    by fault.Township (columns, none) = record {
      is = λ township has. none township (rw two at has);
      first = none_before bytes 2 90 (record {
        size = size;
        early = omega arith;
        some = λ empty. absurd (cc (sym split ∙ empty));
        heading_is = λ has. absurd (no_heading_fault bytes kind first (second ∷ rest) split named has);
        columns = λ not_five not_six _. elim columns [
          | inl five ↦ absurd (not_five (rw two five))
          | inr six ↦ absurd (not_six (rw two six))
        ];
        township = λ _. inr (refl, omega arith);
        date = λ _. inr (refl, omega arith);
      });
    }
    by fault.Date (six, township, none) = record {
      is = (rw two six, λ date has. none date (rw two at has));
      first = none_before bytes 2 95 (record {
        size = size;
        early = omega arith;
        some = λ empty. absurd (cc (sym split ∙ empty));
        heading_is = λ has. absurd (no_heading_fault bytes kind first (second ∷ rest) split named has);
        columns = λ not_five not_six _. absurd (not_six (rw two six));
        township = λ has. absurd (has township.0 (rw two township.1));
        date = λ _. inr (refl, omega arith);
      });
    }
    by _ wrong = absurd wrong

-- a first fault is an answer
answers_first : (bytes : List ℕ) (is : LotsFault) → IsFirstLotsFault bytes is
    → IfSome (refusal_of is) (λ _. IsFirstLotsFault bytes is)
answers_first bytes fault.Read first = tt
answers_first bytes fault.Memory first = tt
answers_first bytes _ first = first

pub plat_refused : (bytes : List ℕ) (kind : Heading) (first second : Fields) (rest : List Fields)
    (is : LotsFault)
    → length bytes ≤ LOTS_TEXT_MOST → records_of bytes ≡ first ∷ second ∷ rest → first ≡ heading_fields kind
    → IsPlatFault second is → IfSome (refusal_of is) (λ _. IsFirstLotsFault bytes is)
plat_refused bytes kind first second rest is size split named fault =
    answers_first bytes is (plat_first bytes kind first second rest is size split named fault)

-- every fault of a table whose first two records are valid is in the others
pub only_rows : (bytes : List ℕ) (kind : Heading) (rows : List Fields)
    → AreAfter bytes (heading_fields kind) rows → (other : LotsFault) → HasFault bytes other
    → HasRowFault (records_of bytes) other
only_rows bytes kind rows after fault.TooLarge has = absurd (omega (arith, has, after.size))
only_rows bytes kind rows after fault.Empty has = absurd (cc (sym after.split ∙ has))
only_rows bytes kind rows after fault.Heading has =
    absurd (no_heading_fault bytes kind after.first (after.second ∷ rows) after.split after.heading_is has)
only_rows bytes kind rows after (fault.Columns at) (inl (is, two, not_five, not_six)) =
    elim after.plat_is.date_is [
      | inl five ↦ absurd (not_five (rw after.split five.0))
      | inr six ↦ absurd (not_six (rw after.split six.0))
    ]
only_rows bytes kind rows after (fault.Columns at) (inr has) = has
only_rows bytes kind rows after fault.Township has =
    absurd (has after.township (rw after.split after.plat_is.township_is))
only_rows bytes kind rows after fault.Date has = elim after.plat_is.date_is [
  | inl five ↦
      let six : length after.second ≡ 6 = rw after.split at has.0 in
      absurd (omega (arith, five.0, six))
  | inr six ↦ absurd (has.1 after.date (rw after.split six.1))
]
only_rows bytes kind rows after (fault.NoLot at) has = has
only_rows bytes kind rows after (fault.Acres at) has = has
only_rows bytes kind rows after (fault.Repeated at) has = has
only_rows bytes kind rows after (fault.Land at) has = has
only_rows bytes kind rows after (fault.TooFine at) has = has
only_rows bytes kind rows after (fault.Shared at) has = has
only_rows bytes kind rows after (fault.TooMany at) has = has
only_rows bytes kind rows after (fault.Unfilled at) has = has
only_rows bytes kind rows after (fault.Divided at) has = has
only_rows bytes kind rows after fault.Read has = has
only_rows bytes kind rows after fault.Memory has = has

-- by the heading, they are those of standard lots, or those of lots with land
pub only_lots : (bytes : List ℕ) (rows : List Fields) → AreAfter bytes lots_heading rows
    → (other : LotsFault) → HasFault bytes other → HasLotFault (records_of bytes) other
only_lots bytes rows after other has = elim (only_rows bytes heading.Standard rows after other has) [
  | inl (is, lot) ↦ lot
  | inr (is, land) ↦
      let first : after.first ≡ land_heading = rw after.split at is in
      absurd (headings_differ (sym after.heading_is ∙ first))
]

pub only_land : (bytes : List ℕ) (rows : List Fields) → AreAfter bytes land_heading rows
    → (other : LotsFault) → HasFault bytes other → HasLandFault (records_of bytes) other
only_land bytes rows after other has = elim (only_rows bytes heading.Land rows after other has) [
  | inl (is, lot) ↦
      let first : after.first ≡ lots_heading = rw after.split at is in
      absurd (headings_differ (sym first ∙ after.heading_is))
  | inr (is, land) ↦ land
]
