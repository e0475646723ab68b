-- When a set contains each lot of a section wholly or not at all.
use Rattle.std.proofs.Common.{◌≡◌, ◌==◌, ◌&&◌, ◌⊎◌, ℕ, ◌≤◌, ◌<◌, Bool, true, false, Option, Some, None, ap}
use Rattle.std.proofs.Common.{refl}
use Rattle.std.proofs.Common.{sym, ◌∙◌, subst, inl, inr, arith}
use Rattle.std.specs.Option.{option_map_or}
use Rattle.std.proofs.lemmas.Bool.{and_parts, cases_Bool, cases_lt, eqb-true, eq-eqb, false≢true}
use Rattle.twp_grid.specs.Places.{PLACE_DIGITS, IsPlace, is_place}
use Rattle.twp_grid.specs.Spans.{whole_block}
use Rattle.twp_grid.specs.Lands.{AreLots, ContainsAll, HasLot, HoldsEach, IsLastLot, IsLotHeld, IsNextLot}
use Rattle.twp_grid.specs.Lands.{IsWholeOrNot, Lotting, LieWithin, Meets, lot_places}
use Rattle.twp_grid.proofs.PlaceTests.{test_of_place, whole_is_place}
use Rattle.twp_land.specs.steps.Relating.{HoldsWholeLots}

-- each lot up to this number is contained wholly or not at all
abbrev pub AreWholeTo : Lotting → ℕ → (ℕ → ℕ → Bool) → ℕ → Type 0
AreWholeTo lots section held after = (lot : ℕ) → lot ≤ after → IsWholeOrNot lots section lot held

-- a lot that there isn't
pub absent_whole : (lots : Lotting) (section lot : ℕ) (held : ℕ → ℕ → Bool) → ¬ HasLot lots section lot
    → IsWholeOrNot lots section lot held
absent_whole lots section lot held none =
    record { alike = λ column row column' row' lies lies'. absurd (none (column, row, lies)) }

pub none_whole : (lots : Lotting) (section : ℕ) (held : ℕ → ℕ → Bool) → AreLots lots
    → AreWholeTo lots section held 0
none_whole lots section held are lot few =
    absent_whole lots section lot held (λ has.
    absurd (omega (arith, few, (are.numbered section lot has.0 has.1 has.2).0)))

-- one of which no place is contained
pub unmet_whole : (lots : Lotting) (section lot : ℕ) (held : ℕ → ℕ → Bool) → AreLots lots
    → ¬ IsLotHeld lots section held lot → IsWholeOrNot lots section lot held
unmet_whole lots section lot held are unmet = record {
  alike = λ column row column' row' lies lies'. free column row lies ∙ sym (free column' row' lies');
}
  where
    free : (column row : ℕ) → lots.lot_of section column row ≡ Some lot → held column row ≡ false
    free column row lies = elim (cases_Bool (held column row)) [
      | inr none ↦ none
      | inl is ↦
          absurd
          (unmet (record {
            column = column;
            row = row;
            place = (are.within section lot column row lies).0;
            of_lot = lies;
            is_held = is;
          }))
    ]

-- one of which each place is
pub contained_whole : (lots : Lotting) (section lot : ℕ) (places : ℕ → ℕ → ℕ → Bool) → AreLots lots
    → ContainsAll places (lot_places lots section lot) → IsWholeOrNot lots section lot (places section)
contained_whole lots section lot places are contains = record {
  alike = λ column row column' row' lies lies'. there column row lies ∙ sym (there column' row' lies');
}
  where
    inside : (column row : ℕ) → lots.lot_of section column row ≡ Some lot
        → lot_places lots section lot section column row ≡ true
    inside column row lies =
        let place = (are.within section lot column row lies).0 in
        rw (test_of_place lots.digits column row place, eq-eqb section section refl, lies)
        (eq-eqb lot lot refl)

    there : (column row : ℕ) → lots.lot_of section column row ≡ Some lot → places section column row ≡ true
    there column row lies = contains section column row (inside column row lies)

-- one of which some place is contained, is contained if it is contained wholly or not at all
pub whole_contained : (lots : Lotting) (section lot : ℕ) (places : ℕ → ℕ → ℕ → Bool)
    → IsLotHeld lots section (places section) lot → IsWholeOrNot lots section lot (places section)
    → ContainsAll places (lot_places lots section lot)
whole_contained lots section lot places met whole other column row is =
    let parts =
    and_parts (is_place lots.digits column row)
    ((section == other) && option_map_or (λ n. lot == n) (lots.lot_of section column row) false) is in
    let more =
    and_parts (section == other) (option_map_or (λ n. lot == n) (lots.lot_of section column row) false)
    parts.1 in
    let lies = tells (lots.lot_of section column row) more.1 in
    let same : section ≡ other = eqb-true section other more.0 in
    subst (λ s. places s column row ≡ true) same
    (whole.alike column row met.column met.row lies met.of_lot ∙ met.is_held)
  where
    tells : (found : Option ℕ) → option_map_or (λ n. lot == n) found false ≡ true → found ≡ Some lot
    tells None is = absurd (false≢true is)
    tells (Some n) is = ap (λ m. Some m) (sym (eqb-true lot n is))

-- with the next lot
pub whole_next : (lots : Lotting) (section after number : ℕ) (held : ℕ → ℕ → Bool)
    → AreWholeTo lots section held after → IsNextLot lots section after number
    → IsWholeOrNot lots section number held → AreWholeTo lots section held number
whole_next lots section after number held so_far next here lot few = elim (cases_lt after lot) [
  | inr before ↦ so_far lot (omega (arith, before))
  | inl beyond ↦ elim (cases_lt lot number) [
    | inl less ↦
        absent_whole lots section lot held (λ has. absurd (omega (arith, next.first lot has beyond, less)))
    | inr last ↦
        let same : number ≡ lot = omega (arith, few, last) in
        subst (λ n. IsWholeOrNot lots section n held) same here
  ]
]

-- after the last lot
pub whole_last : (lots : Lotting) (section after : ℕ) (held : ℕ → ℕ → Bool)
    → AreWholeTo lots section held after → IsLastLot lots section after → HoldsWholeLots lots section held
whole_last lots section after held so_far last lot = elim (cases_lt after lot) [
  | inr before ↦ so_far lot (omega (arith, before))
  | inl beyond ↦ absent_whole lots section lot held (λ has. absurd (omega (arith, last lot has, beyond)))
]

-- a section without places of the set
pub empty_whole : (lots : Lotting) (places : ℕ → ℕ → ℕ → Bool) (first last section : ℕ)
    → LieWithin places first last → (section < first) ⊎ (last < section)
    → HoldsWholeLots lots section (places section)
empty_whole lots places first last section lie out lot = record {
  alike = λ column row column' row' lies lies'. free column row ∙ sym (free column' row');
}
  where
    free : (column row : ℕ) → places section column row ≡ false
    free column row = elim (cases_Bool (places section column row)) [
      | inr none ↦ none
      | inl is ↦
          let range = lie section column row is in
          elim out [
            | inl below ↦ absurd (omega (arith, below, range.0))
            | inr above ↦ absurd (omega (arith, above, range.1))
          ]
    ]

-- a set that contains no place of a section
pub untouched_whole : (lots : Lotting) (section : ℕ) (held : ℕ → ℕ → Bool) → lots.digits ≡ PLACE_DIGITS
    → AreLots lots → ¬ Meets held (whole_block PLACE_DIGITS) → HoldsWholeLots lots section held
untouched_whole lots section held digits are none lot =
    unmet_whole lots section lot held are
    (λ met. none (record {
      column = met.column;
      row = met.row;
      inside =
          whole_is_place met.column met.row
          ∙ test_of_place PLACE_DIGITS met.column met.row
          (subst (λ g. IsPlace g met.column met.row) digits met.place);
      is_held = met.is_held;
    }))

-- land that is all of a section contains each of its lots
pub section_whole : (lots : Lotting) (s : ℕ) (held : ℕ → ℕ → Bool) → AreLots lots → HoldsEach lots s held
    → (lot : ℕ) → IsWholeOrNot lots s lot held
section_whole lots s held are each lot = record {
  alike = λ column row column' row' of_lot of_lot'.
      let there = are.within s lot column row of_lot in
      let there' = are.within s lot column' row' of_lot' in
      each column row there.0 there.1 ∙ sym (each column' row' there'.0 there'.1);
}
