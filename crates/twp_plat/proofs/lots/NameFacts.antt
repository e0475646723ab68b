-- A record names at most one lot, and each lot has an index of its own.
use Rattle.std.proofs.Common.{◌≡◌, ◌==◌, ℕ, ◌&&◌, ◌||◌, Bool, true, false, get_or}
use Rattle.std.proofs.Common.{ap, sym}
use Rattle.std.proofs.Common.{◌∙◌, refl, arith, nat_lt}
use Rattle.std.proofs.lemmas.Bool.{eqb-true, and_parts}
use Rattle.std.proofs.lemmas.Bool.Decides.{nat_tests}
use Rattle.twp_grid.specs.Winding.{IsSection}
use Rattle.twp_grid.specs.Lots.{Lot, lot, lots, number_of_lots}
use Rattle.twp_grid.proofs.LotFacts.{each, each_of_three, either, a_section}
use Rattle.twp_land.proofs.LotFacts.{few_lots}
use Rattle.twp_notes.specs.Records.{Fields}
use Rattle.twp_plat.specs.LotTables.{lots_before, lot_index, IsLotNumber}
use Rattle.twp_plat.specs.LotRecords.{NamesLot}

-- the lot with an index
abbrev lot_with : ℕ → Lot
lot_with index = get_or lots index (lot 0 0 0 0)

-- the lot with a lot's index is that lot
abbrev has_own_index : ℕ → ℕ → Bool
has_own_index s n =
    (s == 0) || ((n == 0) || (nat_lt (number_of_lots s) n
    || (((lot_with (lot_index s n)).section == s) && ((lot_with (lot_index s n)).number == n))))

own_index_test : each 37 (λ s. each 8 (λ n. each 1 (λ z. has_own_index s n))) ≡ true
unfolding each lots_before number_of_lots lots
own_index_test = refl

own_index : (s n : ℕ) → IsSection s → IsLotNumber s n
    → ((lot_with (lot_index s n)).section ≡ s) × ((lot_with (lot_index s n)).number ≡ n)
own_index s n range is =
    let few = few_lots s range in
    let test =
    each_of_three 37 8 1 (λ s n z. has_own_index s n) s n 0 own_index_test (omega (arith, range.1))
    (omega (arith, is.1)) (omega arith) in
    let not_none : (n == 0) ≡ false = grind (arith, nat_tests, is.0) in
    let not_over : nat_lt (number_of_lots s) n ≡ false = grind (arith, nat_tests, is.1) in
    let own = either _ _ (either _ _ (either _ _ test (a_section s range)) not_none) not_over in
    let parts = and_parts ((lot_with (lot_index s n)).section == s) _ own in
    (eqb-true _ _ parts.0, eqb-true _ _ parts.1)

-- lots with the same index are the same lot
pub same_lot : (s n s' n' : ℕ) → IsSection s → IsLotNumber s n → IsSection s' → IsLotNumber s' n'
    → lot_index s n ≡ lot_index s' n' → (s ≡ s') × (n ≡ n')
same_lot s n s' n' range is range' is' same =
    let own = own_index s n range is in
    let own' = own_index s' n' range' is' in (
      sym own.0 ∙ ap (λ i. (lot_with i).section) same ∙ own'.0,
      sym own.1 ∙ ap (λ i. (lot_with i).number) same ∙ own'.1,
    )

-- a record names one lot
pub names_one : (fields : Fields) (s n s' n' : ℕ) → NamesLot fields s n → NamesLot fields s' n'
    → (s ≡ s') × (n ≡ n')
names_one fields s n s' n' is is' = (
  is.section_is.0.value ∙ sym is'.section_is.0.value,
  is.number_is.value ∙ sym is'.number_is.value,
)
