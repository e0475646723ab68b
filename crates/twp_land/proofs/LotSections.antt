-- The sections that have lots, and sets of one section that contain each lot at once. The cases of the
-- table are finitely many and are computed.
use Rattle.std.proofs.Common.{◌≡◌, ◌==◌, ℕ, zero, suc, ◌+◌, ◌-◌, ◌<◌, ◌≤◌, ◌&&◌, ◌||◌, ◌⊎◌, Bool, true}
use Rattle.std.proofs.Common.{List, [], ◌∷◌, Some, get_or, refl, sym, ◌∙◌, inl, inr, arith, nat_le, nat_lt}
use Rattle.std.proofs.Common.{if◌then◌else◌}
use Rattle.std.proofs.lemmas.Bool.{cases_Bool, cases_eq, and_parts, eqb-true}
use Rattle.std.proofs.lemmas.Bool.Decides.{nat_tests}
use Rattle.twp_grid.specs.Winding.{SECTION_COUNT, IsSection}
use Rattle.twp_grid.specs.Lots.{lots, number_of_lots}
use Rattle.twp_grid.specs.Places.{PLACE_DIGITS, position_along}
use Rattle.twp_grid.specs.Spans.{in_rectangle, whole_block}
use Rattle.twp_grid.proofs.LotFacts.{each, each_of_three, either, a_section}
use Rattle.twp_grid.specs.Lands.{HoldsAll, lot_of_place, IsWholeOrNot, HasWholeLots}
use Rattle.twp_grid.specs.Lands.{STANDARD_LOTS}
use Rattle.twp_land.specs.Storage.{SameHeld, nothing_held}
use Rattle.twp_land.proofs.LotFacts.{inside as lies_inside, no_such_lot}

-- the sections that have lots
abbrev pub lot_sections : List ℕ
lot_sections = 1 ∷ 2 ∷ 3 ∷ 4 ∷ 5 ∷ 6 ∷ 7 ∷ 18 ∷ 19 ∷ 30 ∷ 31 ∷ []

sections_test : each 1 (λ a. each 1 (λ b. each 11 (λ at.
    nat_le 1 (get_or lot_sections at 0) && nat_le (get_or lot_sections at 0) SECTION_COUNT))) ≡ true
unfolding each
sections_test = refl

-- each of them is a section
pub is_lot_section : (at : ℕ) → at < 11 → IsSection (get_or lot_sections at 0)
is_lot_section at below =
    let test =
    each_of_three 1 1 11
    (λ a b at. nat_le 1 (get_or lot_sections at 0) && nat_le (get_or lot_sections at 0) SECTION_COUNT) 0 0 at
    sections_test (omega arith) (omega arith) below in
    let parts =
    and_parts (nat_le 1 (get_or lot_sections at 0)) (nat_le (get_or lot_sections at 0) SECTION_COUNT) test in
    (grind (arith, nat_tests), grind (arith, nat_tests))

-- where a section with lots is among them
abbrev place_of_section : ℕ → ℕ
place_of_section s =
    if nat_le s 7 then s - 1
    else if s == 18 then 7
    else if s == 19 then 8
    else if s == 30 then 9
    else 10

-- a section has no lots, or is one of them
abbrev is_listed : ℕ → Bool
is_listed s =
    (number_of_lots s == 0)
    || (nat_lt (place_of_section s) 11 && (get_or lot_sections (place_of_section s) 0 == s))

listed_test : each 37 (λ s. each 1 (λ a. each 1 (λ b. (s == 0) || is_listed s))) ≡ true
unfolding each number_of_lots lots
listed_test = refl

-- a set that contains the lots of each of these sections wholly or not at all does so everywhere
pub whole_if_in_each : (places : ℕ → ℕ → ℕ → Bool)
    → ((at lot : ℕ) → at < 11 → IsWholeOrNot STANDARD_LOTS (get_or lot_sections at 0) lot
    (places (get_or lot_sections at 0)))
    → HasWholeLots STANDARD_LOTS places
whole_if_in_each places whole section lot range =
    let listed : is_listed section ≡ true =
    either (section == 0) _
    (each_of_three 37 1 1 (λ s a b. (s == 0) || is_listed s) section 0 0 listed_test (omega (arith, range.1))
    (omega arith) (omega arith))
    (a_section section range) in
    elim (cases_Bool (number_of_lots section == 0)) [
      | inl none ↦ without (eqb-true (number_of_lots section) 0 none)
      | inr some ↦
          let parts = and_parts (nat_lt (place_of_section section) 11) _ (rw some at listed) in
          let at : get_or lot_sections (place_of_section section) 0 ≡ section = eqb-true _ _ parts.1 in
          let here = whole (place_of_section section) lot (grind (arith, nat_tests, parts.0)) in
          rw at at here
    ]
  where
    without : number_of_lots section ≡ 0 → IsWholeOrNot STANDARD_LOTS section lot (places section)
    without none = no_such_lot section lot (places section) range (elim (below lot) [
      | inl nought ↦ inl nought
      | inr above ↦ inr (omega (arith, above, none))
    ])
      where
        below : (n : ℕ) → (n < 1) ⊎ (1 ≤ n)
        below zero = inl (omega arith)
        below (suc n) = inr (omega arith)

-- the empty set contains no lot
pub whole_of_none : (s n : ℕ) (held : ℕ → ℕ → Bool) → SameHeld held nothing_held
    → IsWholeOrNot STANDARD_LOTS s n held
whole_of_none s n held none = record {
  alike = λ column row column' row' lot lot'. none column row ∙ sym (none column' row');
}

-- the whole section contains each lot wholly
pub whole_of_all : (s n : ℕ) (held : ℕ → ℕ → Bool) → HoldsAll held (whole_block PLACE_DIGITS)
    → IsWholeOrNot STANDARD_LOTS s n held
whole_of_all s n held all = record {
  alike = λ column row column' row' lot lot'.
      all column row (inside column row lot) ∙ sym (all column' row' (inside column' row' lot'));
}
  where
    inside : (column row : ℕ) → lot_of_place PLACE_DIGITS s column row ≡ Some n
        → in_rectangle (whole_block PLACE_DIGITS) column row ≡ true
    inside column row lot =
        let there =
        lies_inside s (position_along PLACE_DIGITS column) (position_along PLACE_DIGITS row) n lot in
        let in_column = there.0 in
        let in_row = there.1 in
        grind (arith, nat_tests)

-- the lots of one more section
pub whole_next : (places : ℕ → ℕ → ℕ → Bool) (most : ℕ)
    → ((section lot : ℕ) → 1 ≤ section → section ≤ most
    → IsWholeOrNot STANDARD_LOTS section lot (places section))
    → ((lot : ℕ) → IsWholeOrNot STANDARD_LOTS (most + 1) lot (places (most + 1)))
    → (section lot : ℕ) → 1 ≤ section → section ≤ most + 1
    → IsWholeOrNot STANDARD_LOTS section lot (places section)
whole_next places most before here section lot least below = elim (cases_eq section (most + 1)) [
  | inl last ↦ rw last (here lot)
  | inr earlier ↦ before section lot least (omega arith)
]

-- the lots of a section's part, which is stored elsewhere
pub whole_part : (section section' : ℕ) (held held' : ℕ → ℕ → Bool) → section ≡ section' → held ≡ held'
    → ((lot : ℕ) → IsWholeOrNot STANDARD_LOTS section lot held) → (lot : ℕ)
    → IsWholeOrNot STANDARD_LOTS section' lot held'
whole_part section section' held held' same part whole lot = rw (← same, ← part) (whole lot)
