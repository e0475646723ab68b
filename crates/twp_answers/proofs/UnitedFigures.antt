-- If figures are returned for the lots of two sets of land, they are for those of both together.
use Rattle.std.proofs.Common.{◌≡◌, ◌==◌, ℕ, nat_lt, Bool, true, Some, refl, sym, ◌∙◌, inl, inr, arith}
use Rattle.std.proofs.lemmas.Bool.{and_parts, false≢true}
use Rattle.std.proofs.lemmas.Bool.Decides.{nat_tests}
use Rattle.twp_grid.specs.Lands.{Lotting, HasWholeLots, no_places, union, lot_places}
use Rattle.twp_grid.specs.Places.{IsPlace}
use Rattle.twp_land.proofs.CombinedLots.{combined_lots_are_whole}
use Rattle.twp_plat.proofs.CountFacts.{counted_some}
use Rattle.twp_plat.specs.LotAreas.{HasFigures, contains_lot, count_of_lot, size_of_lot}
use Rattle.twp_plat.proofs.ContainedLots.{decided, empty_contains, of_lot}
use Rattle.twp_answers.proofs.TractLands.{either_way}

-- no lot of no land is lacking
pub none_lacking : (lots : Lotting) (figure : ℕ → ℕ → ℕ) → HasFigures lots figure no_places
none_lacking lots figure section number lacks =
    false≢true (sym (empty_contains lots no_places section number (λ c r. refl)) ∙ lacks.is_held)

-- some place of a lot that is contained
record SomePlace (lots : Lotting) (section number : ℕ) : Type 0 where
  column : ℕ
  row : ℕ
  place : IsPlace lots.digits column row
  of_it : lots.lot_of section column row ≡ Some number

some_place : (lots : Lotting) (places : ℕ → ℕ → ℕ → Bool) (section number : ℕ)
    → contains_lot lots places section number ≡ true → SomePlace lots section number
some_place lots places section number contains =
    let parts =
    and_parts (nat_lt 0 (size_of_lot lots section number))
    (count_of_lot lots places section number == size_of_lot lots section number) contains in
    let found =
    counted_some lots.digits (lot_places lots section number section) (grind (arith, nat_tests, parts.0)) in
    let lies = of_lot lots section number found.column found.row found.is_held in
    record { column = found.column; row = found.row; place = lies.0; of_it = lies.1 }

pub united_figures : (lots : Lotting) (figure : ℕ → ℕ → ℕ) (places more : ℕ → ℕ → ℕ → Bool)
    → HasWholeLots lots places → HasWholeLots lots more → HasFigures lots figure places
    → HasFigures lots figure more → HasFigures lots figure (union places more)
united_figures lots figure places more whole whole' has has' section number lacks =
    let at = some_place lots (union places more) section number lacks.is_held in
    let both = (combined_lots_are_whole lots places more whole whole').0 section number lacks.section_is in
    let here =
    sym (decided lots (union places more) section number at.column at.row at.place at.of_it both)
    ∙ lacks.is_held in
    elim (either_way (places section at.column at.row) (more section at.column at.row) here) [
      | inl first ↦ has section number (record {
        section_is = lacks.section_is;
        is_held =
            decided lots places section number at.column at.row at.place at.of_it
            (whole section number lacks.section_is)
            ∙ first;
        none = lacks.none;
      })
      | inr second ↦ has' section number (record {
        section_is = lacks.section_is;
        is_held =
            decided lots more section number at.column at.row at.place at.of_it
            (whole' section number lacks.section_is)
            ∙ second;
        none = lacks.none;
      })
    ]
