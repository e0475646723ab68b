-- Lots that a set of places contains and a lot table lacks.
use Rattle.std.proofs.Common.{◌≡◌, ◌==◌, ℕ, ◌≤◌, ◌||◌, false, Some}
use Rattle.std.proofs.Common.{sym, ◌∙◌, inl, inr, arith, nat_lt}
use Rattle.std.proofs.lemmas.Bool.{cases_Bool}
use Rattle.std.proofs.lemmas.Bool.Decides.{nat_tests}
use Rattle.twp_grid.specs.Winding.{IsSection}
use Rattle.twp_grid.specs.Lots.{position_of_lot, number_of_lots}
use Rattle.twp_grid.proofs.LotFacts.{position_of_lot_is, position_by_code, lot_count_is, count_by_code}

-- a lot that fills a position has one of the section's numbers
pub number_within : (section number : ℕ) (position : ℕ × ℕ) → IsSection section
    → position_of_lot section number ≡ Some position → (1 ≤ number) × (number ≤ number_of_lots section)
number_within section number position range is =
    let code : position_by_code section number ≡ Some position =
    sym (position_of_lot_is section number range) ∙ is in
    let count = lot_count_is section range in
    elim (cases_Bool ((number == 0) || nat_lt (count_by_code section) number)) [
      | inl out ↦ cc (rw out at code)
      | inr within ↦ (
        grind (arith, nat_tests, within),
        rw count (at_most number (count_by_code section) within),
      )
    ]
  where
    at_most : (n count : ℕ) → ((n == 0) || nat_lt count n) ≡ false → n ≤ count
    at_most n count within = grind (arith, nat_tests, within)
