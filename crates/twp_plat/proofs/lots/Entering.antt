-- Records of lots that are entered one after another.
use Rattle.std.proofs.Common.{◌≡◌, ◌≢◌, ℕ, suc, ◌+◌, ◌<◌, List, length, inl, inr, ap, sym, ◌∙◌}
use Rattle.std.proofs.Common.{arith, zero, refl, replicate}
use Rattle.std.proofs.lemmas.Bool.{cases_lt, cases_eq}
use Rattle.std.proofs.lemmas.List.{get_or-set_same, get_or-set_other, length-set}
use Rattle.twp_notes.specs.Records.{Fields, record_at}
use Rattle.twp_plat.specs.LotTables.{LOT_COUNT, lot_index}
use Rattle.twp_plat.specs.LotRecords.{NamesLot}
use Rattle.twp_plat.specs.steps.LotEntries.{entry_of, Enters, IsEntered, IsLotNamedBy, AreEntered}
use Rattle.twp_plat.specs.steps.LotEntries.{IsNotEntered, IsLotRefusedAfter}
use Rattle.twp_plat.specs.declared.lots.fault.LotsFault.{LotsFault}
use Rattle.twp_plat.specs.declared.lots.fault.LotsFault.TheVariants as fault
use Rattle.twp_plat.proofs.lots.NameFacts.{names_one}
use Rattle.twp_plat.proofs.lots.AcresFacts.{acres_within}

-- an entered figure is of another index than the next record's
other_index : (fields next : Fields) (old new : List ℕ) → (is : IsEntered fields old)
    → (enters : Enters next old new) → lot_index is.section is.lot ≢ lot_index enters.section enters.lot
other_index fields next old new is enters same =
    let some = is.is.returns.some in
    absurd (omega (
      arith,
      some,
      sym is.entered ∙ ap (λ index. entry_of old index) same ∙ enters.first,
    ))

-- an entry stays when another lot is entered
still_entered : (fields next : Fields) (old new : List ℕ) → IsEntered fields old → Enters next old new
    → IsEntered fields new
still_entered fields next old new is enters = record {
  section = is.section;
  lot = is.lot;
  hundredths = is.hundredths;
  is = is.is;
  entered =
      rw enters.new_is
      (get_or-set_other old (lot_index enters.section enters.lot) (lot_index is.section is.lot)
      enters.hundredths 0 (other_index fields next old new is enters)
      ∙ is.entered);
}

-- the next record's lot has no entry yet
not_before : (rows : List Fields) (count : ℕ) (old new : List ℕ) → AreEntered rows count old
    → Enters (record_at rows count) old new
    → (place section lot : ℕ) → place < count → NamesLot (record_at rows place) section lot
    → NamesLot (record_at rows count) section lot → ⊥
not_before rows count old new entered enters place section lot below names names' =
    let is : IsEntered (record_at rows place) old = entered.each place below in
    let first = names_one _ _ _ _ _ is.is.names names in
    let second = names_one _ _ _ _ _ names' enters.is.names in
    let same : lot_index is.section is.lot ≡ lot_index enters.section enters.lot =
    (λ i. lot_index ((first.0 ∙ second.0) i) ((first.1 ∙ second.1) i)) in
    other_index (record_at rows place) (record_at rows count) old new is enters same

-- one more record was entered
pub entered_more : (rows : List Fields) (count : ℕ) (old new : List ℕ) → AreEntered rows count old
    → Enters (record_at rows count) old new
    → AreEntered rows (count + 1) new
entered_more rows count old new entered enters =
    let index : ℕ = lot_index enters.section enters.lot in record {
      each = λ place below. elim (cases_lt place count) [
        | inl before ↦ still_entered _ _ old new (entered.each place before) enters
        | inr over ↦
            let last : place ≡ count = omega arith in
            rw last (record {
              section = enters.section;
              lot = enters.lot;
              hundredths = enters.hundredths;
              is = enters.is;
              entered =
                  rw enters.new_is
                  (get_or-set_same old index enters.hundredths 0 (omega (arith, entered.size, enters.below)));
            })
      ];
      once = λ place other section lot below below' names names'. elim (cases_lt place count) [
        | inl before ↦ elim (cases_lt other count) [
          | inl before' ↦ entered.once place other section lot before before' names names'
          | inr over ↦
              let last : other ≡ count = omega arith in
              absurd
              (not_before rows count old new entered enters place section lot before names
              (rw last at names'))
        ]
        | inr over ↦
            let last : place ≡ count = omega arith in
            elim (cases_lt other count) [
              | inl before' ↦
                  absurd
                  (not_before rows count old new entered enters other section lot before' names'
                  (rw last at names))
              | inr over' ↦ omega arith
            ]
      ];
      named = λ other some. elim (cases_eq other index) [
        | inl same ↦ record {
          place = count;
          section = enters.section;
          lot = enters.lot;
          within = omega arith;
          names = enters.is.names;
          index_is = sym same;
        }
        | inr apart ↦
            let before : IsLotNamedBy rows count other = entered.named other (rw (
              enters.new_is,
              get_or-set_other old index other enters.hundredths 0 apart,
            ) at some) in
            record {
              place = before.place;
              section = before.section;
              lot = before.lot;
              within = omega (arith, before.within);
              names = before.names;
              index_is = before.index_is;
            }
      ];
      most = λ other. elim (cases_eq other index) [
        | inl same ↦
            rw (
              same,
              enters.new_is,
              get_or-set_same old index enters.hundredths 0 (omega (arith, entered.size, enters.below)),
            ) (acres_within _ enters.hundredths enters.is.returns)
        | inr apart ↦
            rw (enters.new_is, get_or-set_other old index other enters.hundredths 0 apart)
            (entered.most other)
      ];
      size = rw enters.new_is (length-set old index enters.hundredths ∙ entered.size);
    }

-- the next record is refused
pub refused_next : (rows : List Fields) (count : ℕ) (figures : List ℕ) (is : LotsFault)
    → count < length rows → AreEntered rows count figures
    → IsNotEntered (record_at rows count) figures (count + 3) is → IsLotRefusedAfter rows is
refused_next rows count figures fault.Memory within entered not = tt
refused_next rows count figures _ within entered not =
    record { count = count; figures = figures; within = within; entered = entered; not_entered = not }

-- before any record was entered
pub none_entered : (rows : List Fields) → AreEntered rows 0 (replicate LOT_COUNT 0)
none_entered rows = record {
  each = λ place below. absurd (omega arith);
  once = λ place other section lot below. absurd (omega arith);
  named = λ index some. absurd (omega (arith, some, no_entry LOT_COUNT index));
  most = λ index. omega (arith, no_entry LOT_COUNT index);
  size = refl;
}
  where
    no_entry : (n index : ℕ) → entry_of (replicate n 0) index ≡ 0
    no_entry zero zero = refl
    no_entry zero (suc index) = refl
    no_entry (suc n) zero = refl
    no_entry (suc n) (suc index) = no_entry n index
