-- The first fault of a lot table of the standard lots whose records are checked one after another.
use Rattle.std.proofs.Common.{◌≡◌, ◌≢◌, ℕ, ◌+◌, ◌≤◌, ◌<◌, List, length, inl, inr, zero, suc}
use Rattle.std.proofs.Common.{IfSome, refl, subst, sym, ◌∙◌, arith}
use Rattle.std.proofs.Common.{ap, true, false, nat_le}
use Rattle.std.proofs.lemmas.Bool.Decides.{nat_tests}
use Rattle.std.proofs.lemmas.Bool.{cases_lt}
use Rattle.twp_grid.specs.Winding.{IsSection}
use Rattle.twp_notes.specs.Records.{Fields, records_of, record_at, record_numbered}
use Rattle.twp_grid.specs.Lots.{number_of_lots}
use Rattle.twp_grid.specs.Lands.{lotting}
use Rattle.twp_plat.specs.LotTables.{FIGURE_MOST, IsLotNumber, lot_index}
use Rattle.twp_plat.specs.LotTables.{standard_figure}
use Rattle.twp_plat.specs.declared.lots.returned.ReturnedLots.{ReturnedLots}
use Rattle.twp_plat.specs.LotRecords.{LOT_FIELDS, lots_heading, HasNoAcres, NamesLot, IsRowNumber, IsLotNamed}
use Rattle.twp_plat.specs.LotTexts.{IsLotTable}
use Rattle.twp_plat.specs.LotsFaults.{NamesNoLot, HasLotFault, IsLotRepeated, IsFrom}
use Rattle.twp_plat.specs.LotsFaults.{IsFirstLotsFault, refusal_of}
use Rattle.twp_plat.specs.steps.LotEntries.{entry_of, IsEntered, IsLotNamedBy, AreEntered}
use Rattle.twp_plat.specs.steps.LotEntries.{IsLotRefusedNext, IsLotRefusedAfter}
use Rattle.twp_plat.specs.steps.LotReading.{AreStandardLots}
use Rattle.twp_plat.specs.declared.lots.fault.LotsFault.{LotsFault}
use Rattle.twp_plat.specs.declared.lots.fault.LotsFault.TheVariants as fault
use Rattle.twp_plat.proofs.lots.NameFacts.{same_lot}
use Rattle.twp_plat.proofs.lots.RowPlaces.{AreAfter, AreRows, IsPlaced, is_row, on_row, placed, rows_after}
use Rattle.twp_plat.proofs.lots.FaultOrder.{IsAfter, from_here, on_record}
use Rattle.twp_plat.proofs.lots.FirstPlatFaults.{only_lots}

-- the next record has no fault with a smaller number than this
pub record IsGoodBefore (fields : Fields) (number : ℕ) : Type 0 where
  pub columns : 89 < number → length fields ≢ LOT_FIELDS → ⊥
  pub names : 91 < number → NamesNoLot fields → ⊥
  pub acres : 92 < number → HasNoAcres fields → ⊥

-- of the records that were entered, none is for the lot of an earlier one
not_repeated : (records rows : List Fields) (count number at : ℕ) (figures : List ℕ)
    → AreRows records rows → AreEntered rows count figures → number ≤ 93
    → IsRowNumber records at → IsLotRepeated records at → IsAfter (count + 3) number at 93
not_repeated records rows count number at figures are entered most is again =
    from_here count number 93 at before (λ less same. absurd (omega (arith, most, less)))
  where
    before : at < count + 3 → ⊥
    before below =
        let by : IsPlaced records rows at = placed records rows at are is in
        let earlier : IsPlaced records rows again.earlier =
        placed records rows again.earlier are again.earlier_is_of_a_lot in
        let same : earlier.place ≡ by.place =
        entered.once earlier.place by.place again.section again.lot
        (omega (arith, earlier.number_is, again.is_earlier, below)) (omega (arith, by.number_is, below))
        (subst (λ (f : Fields). NamesLot f again.section again.lot) earlier.is again.earlier_names)
        (subst (λ (f : Fields). NamesLot f again.section again.lot) by.is again.names) in
        absurd (omega (arith, same, earlier.number_is, by.number_is, again.is_earlier))

-- no fault comes before those of the next record, and that record has none with a number less than
-- `number`
none_before : (records rows : List Fields) (count number : ℕ) (figures : List ℕ)
    → AreRows records rows → AreEntered rows count figures
    → IsGoodBefore (record_at rows count) number → number ≤ 93 → (other : LotsFault)
    → HasLotFault records other → IsFrom 1 (count + 3) number other
none_before records rows count number figures are entered good most (fault.Columns at) (is, bad) =
    on_record (λ (f : Fields). length f ≢ LOT_FIELDS) records rows count number 89 at are
    (λ place below wrong. wrong (entered.each place below).is.names.columns) good.columns is bad
none_before records rows count number figures are entered good most (fault.NoLot at) (is, bad) =
    on_record NamesNoLot records rows count number 91 at are
    (λ place below none. none _ _ (entered.each place below).is.names) good.names is bad
none_before records rows count number figures are entered good most (fault.Acres at) (is, bad) =
    on_record HasNoAcres records rows count number 92 at are
    (λ place below none. none _ (entered.each place below).is.returns) good.acres is bad
none_before records rows count number figures are entered good most (fault.Repeated at) (is, again) =
    not_repeated records rows count number at figures are entered most is again
none_before records rows count number figures are entered good most _ has = absurd has

-- the record that names the lot of a figure is before the next one
repeated_is : (records rows : List Fields) (count section lot : ℕ) → AreRows records rows
    → count < length rows → IsLotNamedBy rows count (lot_index section lot)
    → NamesLot (record_at rows count) section lot → IsLotRepeated records (count + 3)
repeated_is records rows count section lot are within earlier names =
    let same =
    same_lot earlier.section earlier.lot section lot earlier.names.section_is.1 earlier.names.has
    names.section_is.1 names.has earlier.index_is in
    let names' : NamesLot (record_at rows earlier.place) section lot =
    rw same.0 at (rw same.1 at earlier.names) in
    let before =
    on_row (λ (f : Fields). NamesLot f section lot) records rows earlier.place are
    (omega (arith, earlier.within)) names' in
    let here = on_row (λ (f : Fields). NamesLot f section lot) records rows count are within names in
    record {
      earlier = earlier.place + 3;
      section = section;
      lot = lot;
      is_earlier = omega (arith, earlier.within);
      earlier_is_of_a_lot = before.0;
      earlier_names = before.1;
      names = here.1;
    }

-- the first fault of the records of lots
record IsFirstOfLots (records : List Fields) (at number : ℕ) (is : LotsFault) : Type 0 where
  pub has : HasLotFault records is
  pub first : (other : LotsFault) → HasLotFault records other → IsFrom 1 at number other

-- the record that is not entered has the first fault
first_of_columns : (records rows : List Fields) (number : ℕ) → AreRows records rows
    → IsLotRefusedNext rows (fault.Columns number) → IsFirstOfLots records number 89 (fault.Columns number)
first_of_columns records rows number are next =
    let (at_is, wrong) = next.not_entered in
    subst (λ n. IsFirstOfLots records n 89 (fault.Columns n)) (sym at_is) (record {
      has =
          on_row (λ (f : Fields). length f ≢ LOT_FIELDS) records rows next.count are next.within wrong;
      first = none_before records rows next.count 89 next.figures are next.entered (record {
        columns = λ h. absurd (omega arith);
        names = λ h. absurd (omega arith);
        acres = λ h. absurd (omega arith);
      }) (omega arith);
    })

first_of_no_lot : (records rows : List Fields) (number : ℕ) → AreRows records rows
    → IsLotRefusedNext rows (fault.NoLot number) → IsFirstOfLots records number 91 (fault.NoLot number)
first_of_no_lot records rows number are next =
    let (at_is, three, wrong) = next.not_entered in
    subst (λ n. IsFirstOfLots records n 91 (fault.NoLot n)) (sym at_is) (record {
      has = on_row NamesNoLot records rows next.count are next.within wrong;
      first = none_before records rows next.count 91 next.figures are next.entered (record {
        columns = λ h not. not three;
        names = λ h. absurd (omega arith);
        acres = λ h. absurd (omega arith);
      }) (omega arith);
    })

first_of_acres : (records rows : List Fields) (number : ℕ) → AreRows records rows
    → IsLotRefusedNext rows (fault.Acres number) → IsFirstOfLots records number 92 (fault.Acres number)
first_of_acres records rows number are next =
    let (at_is, wrong, named) = next.not_entered in
    subst (λ n. IsFirstOfLots records n 92 (fault.Acres n)) (sym at_is) (record {
      has = on_row HasNoAcres records rows next.count are next.within wrong;
      first = none_before records rows next.count 92 next.figures are next.entered (record {
        columns = λ h not. named (λ section lot names. not names.columns);
        names = λ h. named;
        acres = λ h. absurd (omega arith);
      }) (omega arith);
    })

first_of_repeated : (records rows : List Fields) (number : ℕ) → AreRows records rows
    → IsLotRefusedNext rows (fault.Repeated number)
    → IsFirstOfLots records number 93 (fault.Repeated number)
first_of_repeated records rows number are next =
    let (at_is, again, acres) = next.not_entered in
    subst (λ n. IsFirstOfLots records n 93 (fault.Repeated n)) (sym at_is) (record {
      has = (
        is_row records rows next.count are next.within,
        repeated_is records rows next.count again.section again.lot are next.within
            (next.entered.named (lot_index again.section again.lot) again.before) again.names,
      );
      first = none_before records rows next.count 93 next.figures are next.entered (record {
        columns = λ h not. not again.names.columns;
        names = λ h none. none _ _ again.names;
        acres = λ h. acres;
      }) (omega arith);
    })

-- the result if the records of lots were refused
pub lots_refused : (bytes : List ℕ) (rows : List Fields) (is : LotsFault) → AreAfter bytes lots_heading rows
    → IsLotRefusedAfter rows is → IfSome (refusal_of is) (λ _. IsFirstLotsFault bytes is)
lots_refused bytes rows is after refused = by is refused
  where
    are : AreRows (records_of bytes) rows
    are = rows_after bytes lots_heading rows after

    heading_is : record_numbered (records_of bytes) 1 ≡ lots_heading
    heading_is = rw after.split after.heading_is

    by : (is : LotsFault) → IsLotRefusedAfter rows is
        → IfSome (refusal_of is) (λ _. IsFirstLotsFault bytes is)
    by fault.Memory refused = tt
    by fault.Read refused = tt
    by (fault.Columns number) refused =
        let first = first_of_columns (records_of bytes) rows number are refused in
        record {
          is = inr (inl (heading_is, first.has));
          first = λ other has. first.first other (only_lots bytes rows after other has);
        }
    by (fault.NoLot number) refused =
        let first = first_of_no_lot (records_of bytes) rows number are refused in
        record {
          is = inl (heading_is, first.has);
          first = λ other has. first.first other (only_lots bytes rows after other has);
        }
    by (fault.Acres number) refused =
        let first = first_of_acres (records_of bytes) rows number are refused in
        record {
          is = inl (heading_is, first.has);
          first = λ other has. first.first other (only_lots bytes rows after other has);
        }
    by (fault.Repeated number) refused =
        let first = first_of_repeated (records_of bytes) rows number are refused in
        record {
          is = inl (heading_is, first.has);
          first = λ other has. first.first other (only_lots bytes rows after other has);
        }
    by _ refused = absurd refused.not_entered

-- a lot with a figure is named
named_of : (records rows : List Fields) (figures : List ℕ) (section lot : ℕ) → AreRows records rows
    → AreEntered rows (length rows) figures → IsSection section → IsLotNumber section lot
    → 0 < entry_of figures (lot_index section lot) → IsLotNamed records section lot
named_of records rows figures section lot are entered range number some =
    let by = entered.named (lot_index section lot) some in
    let same =
    same_lot by.section by.lot section lot by.names.section_is.1 by.names.has range number by.index_is in
    let names : NamesLot (record_at rows by.place) section lot = rw same.0 at (rw same.1 at by.names) in
    let is = on_row (λ (f : Fields). NamesLot f section lot) records rows by.place are by.within names in
    (by.place + 3, is.0, is.1)

-- if all records were entered, they are a lot table
pub lots_of_entries : (bytes : List ℕ) (rows : List Fields) (lots : ReturnedLots)
    (after : AreAfter bytes lots_heading rows) → AreStandardLots rows lots
    → IsLotTable bytes (record { township = after.township; date = after.date; lots = lots })
lots_of_entries bytes rows lots after are = record {
  size = after.size;
  records_are = inl (record {
    heading_is = rw after.split after.heading_is;
    plat_is = rw after.split after.plat_is;
    each = λ number is.
        let at : IsPlaced (records_of bytes) rows number = placed (records_of bytes) rows number places is in
        let entry : IsEntered (record_at rows at.place) figures = entered.each at.place at.within in
        let names = entry.is.names in
        let figure =
        are.figures_are entry.section entry.lot names.section_is.1 names.has.0
        ∙ entered_is entry.section entry.lot names.has in
        (entry.section, entry.lot, rw at.is (rw figure (rw entry.entered entry.is)));
    once = λ number other section lot is is' names names'.
        let at : IsPlaced (records_of bytes) rows number = placed (records_of bytes) rows number places is in
        let at' : IsPlaced (records_of bytes) rows other = placed (records_of bytes) rows other places is' in
        let same : at.place ≡ at'.place = entered.once at.place at'.place section lot at.within at'.within
        (subst (λ (f : Fields). NamesLot f section lot) at.is names)
        (subst (λ (f : Fields). NamesLot f section lot) at'.is names') in
        omega (arith, at.number_is, at'.number_is);
    others =
        λ section lot range some unnamed. are.figures_are section lot range some ∙ other section lot range
        some unnamed;
    lots_are = ap lotting are.layout;
  });
}
  where
    places : AreRows (records_of bytes) rows
    places = rows_after bytes lots_heading rows after

    figures : List ℕ
    figures = are.figures

    entered : AreEntered rows (length rows) figures
    entered = are.entered

    none_left : (n : ℕ) → (0 < n → ⊥) → n ≡ 0
    none_left zero none = refl
    none_left (suc n) none = absurd (none (omega arith))

    -- no figure that was entered is greater than the greatest
    entered_is : (section lot : ℕ) → IsLotNumber section lot
        → standard_figure figures section lot ≡ entry_of figures (lot_index section lot)
    entered_is section lot number =
        let within : nat_le lot (number_of_lots section) ≡ true = grind (arith, nat_tests, number.1) in
        let most : nat_le (entry_of figures (lot_index section lot)) FIGURE_MOST ≡ true =
        grind (arith, nat_tests, entered.most (lot_index section lot)) in
        rw (within, most) refl

    other : (section lot : ℕ) → IsSection section → 1 ≤ lot → ¬ IsLotNamed (records_of bytes) section lot
        → standard_figure figures section lot ≡ 0
    other section lot range some unnamed = elim (cases_lt (number_of_lots section) lot) [
      | inl more ↦
          let beyond : nat_le lot (number_of_lots section) ≡ false = grind (arith, nat_tests, more) in
          rw beyond refl
      | inr few ↦
          let number : IsLotNumber section lot = (some, omega (arith, few)) in
          entered_is section lot number
          ∙ none_left (entry_of figures (lot_index section lot)) (λ more.
          unnamed (named_of (records_of bytes) rows figures section lot places entered range number more))
    ]
