-- The lot table with land that all rows are.
use Rattle.std.proofs.Common.{◌≡◌, ◌⊎◌, ◌&&◌, ℕ, ◌+◌, ◌-◌, ◌≤◌, ◌<◌, true, false, not, List}
use Rattle.std.proofs.Common.{min, nat_le, inl, inr, refl, sym, ap, subst}
use Rattle.std.proofs.Common.{◌∙◌}
use Rattle.std.proofs.Common.{arith, if◌then◌else◌}
use Rattle.std.proofs.Common.{Result, Ok, Err, IfOk, IfErr}
use Rattle.std.proofs.lemmas.Bool.{cases_Bool, cases_lt}
use Rattle.std.proofs.lemmas.Bool.Decides.{nat_tests}
use Rattle.twp_grid.specs.Winding.{IsSection}
use Rattle.twp_grid.specs.Places.{PLACE_DIGITS, IsPlace, is_place}
use Rattle.twp_grid.specs.Lands.{Layout}
use Rattle.twp_grid.proofs.PlaceTests.{place_of_test, test_of_place}
use Rattle.twp_land.specs.LotMaps.{NO_LAND, layout_of_bytes, mark_of, place_number}
use Rattle.twp_land.specs.LotMarks.{mark_at, marks_of}
use Rattle.twp_land.proofs.MarkedFacts.{number_of}
use Rattle.twp_land.proofs.MarkedLots.{at_lot, lot_at}
use Rattle.twp_notes.specs.Records.{Fields, field, records_of, record_at}
use Rattle.twp_plat.specs.LotTables.{FIGURE_MOST, entered_for, figure_of, figure_within}
use Rattle.twp_plat.specs.LotRecords.{IsAcresText}
use Rattle.twp_plat.specs.LandRecords.{land_heading, IsForLot, IsLotAt, IsNoLandAt, IsReturnedFor, LayOutLots}
use Rattle.twp_plat.specs.LandFaults.{IsMark}
use Rattle.twp_plat.specs.LotTexts.{IsLotTable}
use Rattle.twp_plat.specs.LotsFaults.{AnswersLots}
use Rattle.twp_plat.specs.declared.lots.fault.LotsFault.{LotsFault}
use Rattle.twp_plat.specs.declared.lots.table.LotTable.{LotTable}
use Rattle.twp_grid.specs.Townships.{Designation}
use Rattle.twp_plat.specs.steps.LotReading.{AreLandLots, IsLandRefused}
use Rattle.twp_plat.specs.declared.lots.fault.LotsFault.TheVariants as fault
use Rattle.twp_plat.specs.declared.lots.returned.ReturnedLots.{ReturnedLots}
use Rattle.twp_plat.proofs.lots.AcresFacts.{acres_within, one_acres}
use Rattle.twp_plat.proofs.lots.AllRowFaults.{land_refused, sound}
use Rattle.twp_plat.proofs.lots.RowMarks.{mark_is, marks_are}
use Rattle.twp_plat.proofs.lots.RowPlaces.{AreAfter, AreRows, IsPlaced, is_row, placed, rows_after}

-- a place has no land exactly if its mark says so
pub land_at : (positions divided : List ℕ) (section c r : ℕ) → IsPlace PLACE_DIGITS c r
    → mark_of positions divided section (place_number c r) ≡ NO_LAND
    → (layout_of_bytes positions divided).has_land section c r ≡ false
land_at positions divided section c r place is =
    let test : nat_le NO_LAND (mark_of positions divided section (place_number c r)) ≡ true =
    grind (arith, nat_tests, is) in
    rw (test_of_place PLACE_DIGITS c r place, test) refl

pub at_land : (positions divided : List ℕ) (section c r : ℕ)
    → (layout_of_bytes positions divided).has_land section c r ≡ false
    → IsPlace PLACE_DIGITS c r × (NO_LAND ≤ mark_of positions divided section (place_number c r))
at_land positions divided section c r none = by (cases_Bool (is_place PLACE_DIGITS c r))
  where
    mark : ℕ
    mark = mark_of positions divided section (place_number c r)

    by : (is_place PLACE_DIGITS c r ≡ true) ⊎ (is_place PLACE_DIGITS c r ≡ false)
        → IsPlace PLACE_DIGITS c r × (NO_LAND ≤ mark)
    by (inr out) =
        let land : not (false && nat_le NO_LAND mark) ≡ false = rw out at none in
        absurd (cc land)
    by (inl place) =
        let test : not (true && nat_le NO_LAND mark) ≡ false = rw place at none in
        (place_of_test PLACE_DIGITS c r place, grind (arith, nat_tests, test))

-- the lots are where the records say
platted : (records rows : List Fields) (lots : ReturnedLots) → AreRows records rows
    → (land : AreLandLots rows lots)
    → LayOutLots records (layout_of_bytes land.positions land.divided) (figure_of lots)
platted records rows lots are land = record {
  lots = λ section lot c r range. (
    λ is.
        let there = lot_at positions divided section lot c r is in
        let marked = mark section c r range there.0 in
        let same : mark_at (marks_of land.marks section) c r ≡ lot =
        omega (arith, marked, there.1.0, there.1.2) in
        named section lot c r there.1.1 there.1.2
        (subst (IsMark records section c r) same (of_place section c r range there.0)),
    λ at.
        let place = at.holds.place in
        let lot_is = mark_is records rows land.marks land.entries section c r lot are land.entered range place
        (inl at) in
        let least = at.is_for.least in
        let most = at.is_for.most in
        let marked = mark section c r range place in
        at_lot positions divided section lot c r place (omega (arith, marked, lot_is, most))
        (omega (arith, least)) (omega (arith, most)),
  );
  no_land = λ section c r range. (
    λ none.
        let there = at_land positions divided section c r none in
        let marked = mark section c r range there.0 in
        no_land section c r (omega (arith, marked, there.1)) (of_place section c r range there.0),
    λ at.
        let place = at.holds.place in
        let none = mark_is records rows land.marks land.entries section c r NO_LAND are land.entered range
        place (inr (inl (at, refl))) in
        let marked = mark section c r range place in
        land_at positions divided section c r place (omega (arith, marked, none)),
  );
  returned = λ section lot hundredths is.
      let by : IsPlaced records rows is.number = placed records rows is.number are is.is_row in
      let named = subst (λ (f : Fields). IsForLot f section lot) by.is is.is_for in
      let text = subst (λ (f : Fields). IsAcresText (field f 2) hundredths) by.is is.returns in
      let entered = land.entered.returned by.place section lot by.within named in
      let same = one_acres (field (record_at rows by.place) 2) _ hundredths entered text in
      let most = acres_within (field (record_at rows by.place) 2) hundredths text in
      land.returned.each section lot named.section_is.1 named.least named.most
      ∙ ap figure_within same
      ∙ within hundredths most;
  others = λ section lot range least some. figured section lot range least some (cases_lt 99 lot);
}
  where
    positions : List ℕ
    positions = land.positions

    divided : List ℕ
    divided = land.divided

    within : (figure : ℕ) → figure ≤ FIGURE_MOST → figure_within figure ≡ figure
    within figure most =
        let test : nat_le figure FIGURE_MOST ≡ true = grind (arith, nat_tests, most) in
        rw test refl

    mark : (section c r : ℕ) → IsSection section → IsPlace PLACE_DIGITS c r
        → mark_of positions divided section (place_number c r)
        ≡ min (mark_at (marks_of land.marks section) c r) NO_LAND
    mark section c r range place = land.marks_are section (place_number c r) range (number_of c r place).0

    of_place : (section c r : ℕ) → IsSection section → IsPlace PLACE_DIGITS c r
        → IsMark records section c r (mark_at (marks_of land.marks section) c r)
    of_place section c r range place =
        marks_are records rows land.marks land.entries are land.entered section c r range place

    named : (section lot c r : ℕ) → 0 < lot → lot < NO_LAND → IsMark records section c r lot
        → IsLotAt records section lot c r
    named section lot c r some few (inl at) = at
    named section lot c r some few (inr (inl (at, is))) = absurd (omega (arith, is, few))
    named section lot c r some few (inr (inr (free, none))) = absurd (omega (arith, none, some))

    no_land : (section c r : ℕ) → NO_LAND ≤ mark_at (marks_of land.marks section) c r
        → IsMark records section c r (mark_at (marks_of land.marks section) c r)
        → IsNoLandAt records section c r
    no_land section c r high (inl at) = let most = at.is_for.most in absurd (omega (arith, most, high))
    no_land section c r high (inr (inl (at, is))) = at
    no_land section c r high (inr (inr (free, none))) = absurd (omega (arith, none, high))

    entered_some : (figure : ℕ) → 0 < figure_within figure → 0 < figure
    entered_some figure some = elim (cases_lt 0 figure) [
      | inl more ↦ more
      | inr none ↦
          let zero_is : figure ≡ 0 = omega (arith, none) in
          let nothing : 0 < figure_within 0 = subst (λ n. 0 < figure_within n) zero_is some in
          absurd (omega (arith, nothing))
    ]

    figured : (section lot : ℕ) → IsSection section → 1 ≤ lot → 0 < figure_of lots section lot
        → (99 < lot) ⊎ (lot ≤ 99) → (hundredths : ℕ) × IsReturnedFor records section lot hundredths
    figured section lot range least some (inl beyond) =
        let none = land.returned.beyond section lot range beyond in
        absurd (omega (arith, none, some))
    figured section lot range least some (inr most) =
        let figure = land.returned.each section lot range least most in
        let entered = entered_some (entered_for land.entries.figures section lot)
        (omega (arith, figure, some)) in
        let by = land.entered.named section lot range.0 least entered in (
          entered_for land.entries.figures section lot,
          record {
            number = by.0 + 3;
            is_row = is_row records rows by.0 are by.1;
            is_for = subst (λ (f : Fields). IsForLot f section lot) (sym (are.each by.0)) by.2;
            returns =
                subst (λ (f : Fields). IsAcresText (field f 2) (entered_for land.entries.figures section lot))
                (sym (are.each by.0))
                (land.entered.returned by.0 section lot by.1 by.2);
          },
        )

-- the result if all rows were entered
pub land_table : (bytes : List ℕ) (rows : List Fields) (lots : ReturnedLots)
    (after : AreAfter bytes land_heading rows) → AreLandLots rows lots
    → IsLotTable bytes (record { township = after.township; date = after.date; lots = lots })
land_table bytes rows lots after land =
    let are : AreRows (records_of bytes) rows = rows_after bytes land_heading rows after in
    record {
      size = after.size;
      records_are = inr (record {
        heading_is = rw after.split after.heading_is;
        plat_is = rw after.split after.plat_is;
        sound = sound (records_of bytes) rows lots are land;
        platted =
            subst (λ (layout : Layout). LayOutLots (records_of bytes) layout (figure_of lots))
            (sym land.layout)
            (platted (records_of bytes) rows lots are land);
      });
    }

-- the answer for a table with land
pub land_answer : (bytes : List ℕ) (rows : List Fields) (result : Result LotTable LotsFault)
    (after : AreAfter bytes land_heading rows) → IfOk result (λ table. table.township ≡ after.township)
    → IfOk result (λ table. table.date ≡ after.date) → IfOk result (λ table. AreLandLots rows table.lots)
    → IfErr result (IsLandRefused rows) → AnswersLots bytes result
land_answer bytes rows (Ok table) after township date lots fault =
    let is = land_table bytes rows table.lots after lots in
    subst
    (λ (t : Designation). IsLotTable bytes (record { township = t; date = table.date; lots = table.lots }))
    (sym township)
    (subst (λ (d : ℕ). IsLotTable bytes (record { township = after.township; date = d; lots = table.lots }))
    (sym date) is)
land_answer bytes rows (Err is) after township date lots refused = land_refused bytes rows is after refused
