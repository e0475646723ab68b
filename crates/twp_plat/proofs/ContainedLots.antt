-- Which lots a set contains, and the units of those of a section.
use Rattle.std.proofs.Common.{◌≡◌, ◌≢◌, ◌==◌, ℕ, ◌+◌, ◌-◌, ◌*◌, ◌<◌, ◌≤◌, ◌&&◌, nat_lt, Bool, true}
use Rattle.std.proofs.Common.{false, Some, None}
use Rattle.std.proofs.Common.{Option, refl, sym, ap, ◌∙◌, arith, inl, inr, ◌⊎◌}
use Rattle.std.specs.Option.{option_map_or}
use Rattle.std.proofs.lemmas.Bool.{and_parts, cases_Bool, cases_lt, eqb-true, eq-eqb, ne_eqb, false≢true}
use Rattle.std.proofs.lemmas.Bool.Decides.{nat_tests}
use Rattle.twp_grid.specs.Places.{PLACE_DIGITS, IsPlace, is_place}
use Rattle.twp_grid.specs.Spans.{total, whole_block}
use Rattle.twp_grid.specs.Lands.{AreLots, HasLot, IsLastLot, IsLotHeld, IsNextLot, IsWholeOrNot}
use Rattle.twp_grid.specs.Lands.{LOT_NUMBER_MOST, Meets}
use Rattle.twp_grid.specs.Lands.{Lotting, intersection, lot_places}
use Rattle.twp_grid.proofs.PlaceTests.{place_of_test, test_of_place, whole_is_place}
use Rattle.twp_grid.proofs.TotalFacts.{total-add, total-all_zero, total-next}
use Rattle.twp_land.specs.LotMaps.{land_off_lots}
use Rattle.twp_plat.specs.LotAreas.{Lacks, contains_lot, count_of_lot, count_off_lots, returned_units}
use Rattle.twp_plat.specs.LotAreas.{size_of_lot}
use Rattle.twp_plat.specs.LotAreas.{units_of_lots}
use Rattle.twp_plat.specs.steps.SectionUnits.{section_units}
use Rattle.twp_plat.proofs.CountFacts.{some_counted, counted_some, counted_none, count-ext}

-- the places of a lot
pub of_lot : (lots : Lotting) (section number c r : ℕ) → lot_places lots section number section c r ≡ true
    → IsPlace lots.digits c r × (lots.lot_of section c r ≡ Some number)
of_lot lots section number c r is =
    let parts =
    and_parts (is_place lots.digits c r)
    ((section == section) && option_map_or (λ n. number == n) (lots.lot_of section c r) false) is in
    let lot =
    (and_parts (section == section) (option_map_or (λ n. number == n) (lots.lot_of section c r) false)
    parts.1).1 in
    (place_of_test lots.digits c r parts.0, tells (lots.lot_of section c r) lot)
  where
    tells : (found : Option ℕ) → option_map_or (λ n. number == n) found false ≡ true → found ≡ Some number
    tells None is = absurd (false≢true is)
    tells (Some n) is = ap (λ m. Some m) (sym (eqb-true number n is))

pub in_lot : (lots : Lotting) (section number c r : ℕ) → IsPlace lots.digits c r
    → lots.lot_of section c r ≡ Some number → lot_places lots section number section c r ≡ true
in_lot lots section number c r place is =
    rw (test_of_place lots.digits c r place, eq-eqb section section refl, is) (eq-eqb number number refl)

-- if a lot is contained wholly or not at all, one of its places decides it
pub decided : (lots : Lotting) (places : ℕ → ℕ → ℕ → Bool) (section number c r : ℕ) → IsPlace lots.digits c r
    → lots.lot_of section c r ≡ Some number → IsWholeOrNot lots section number (places section)
    → contains_lot lots places section number ≡ places section c r
decided lots places section number c r place is whole = by (cases_Bool (places section c r))
  where
    size : ℕ
    size = size_of_lot lots section number

    some : nat_lt 0 (size_of_lot lots section number) ≡ true
    some =
        let counted =
        some_counted lots.digits (lot_places lots section number section) c r place
        (in_lot lots section number c r place is) in
        grind (arith, nat_tests, counted)

    full : places section c r ≡ true → (c' r' : ℕ)
        → intersection places (lot_places lots section number) section c' r'
        ≡ lot_places lots section number section c' r'
    full held c' r' = elim (cases_Bool (lot_places lots section number section c' r')) [
      | inl inside ↦
          let there = of_lot lots section number c' r' inside in
          let alike = whole.alike c' r' c r there.1 is in
          rw (inside, alike, held) refl
      | inr outside ↦ rw outside (none (places section c' r'))
    ]
      where
        none : (b : Bool) → (b && false) ≡ false
        none true = refl
        none false = refl

    empty : places section c r ≡ false → count_of_lot lots places section number ≡ 0
    empty free = elim (cases_lt 0 (count_of_lot lots places section number)) [
      | inr few ↦ omega (arith, few)
      | inl more ↦
          let found =
          counted_some lots.digits (intersection places (lot_places lots section number) section) more in
          let parts =
          and_parts (places section found.column found.row)
          (lot_places lots section number section found.column found.row) found.is_held in
          let there = of_lot lots section number found.column found.row parts.1 in
          let alike = whole.alike found.column found.row c r there.1 is in
          absurd (false≢true (sym free ∙ sym alike ∙ parts.0))
    ]

    by : (places section c r ≡ true) ⊎ (places section c r ≡ false)
        → contains_lot lots places section number ≡ places section c r
    by (inl held) =
        let same : count_of_lot lots places section number ≡ size_of_lot lots section number =
        count-ext lots.digits _ _ (λ c' r' _. full held c' r') in
        rw
        (some, eq-eqb (count_of_lot lots places section number) (size_of_lot lots section number) same, held)
        refl
    by (inr free) =
        let differs : count_of_lot lots places section number ≢ size_of_lot lots section number = λ same.
        absurd (grind (arith, nat_tests, some, same, empty free)) in
        rw (
          some,
          ne_eqb (count_of_lot lots places section number) (size_of_lot lots section number) differs,
          free,
        )
        refl

-- a lot that there isn't is not contained
pub absent : (lots : Lotting) (places : ℕ → ℕ → ℕ → Bool) (section number : ℕ) → ¬ HasLot lots section number
    → contains_lot lots places section number ≡ false
absent lots places section number none = elim (cases_lt 0 (size_of_lot lots section number)) [
  | inl more ↦
      let found = counted_some lots.digits (lot_places lots section number section) more in
      absurd
      (none (found.column, found.row, (of_lot lots section number found.column found.row found.is_held).1))
  | inr few ↦
      let test : nat_lt 0 (size_of_lot lots section number) ≡ false = grind (arith, nat_tests, few) in
      rw test refl
]

-- nor is any if the set contains nothing in the section
pub empty_contains : (lots : Lotting) (places : ℕ → ℕ → ℕ → Bool) (section number : ℕ)
    → ((c r : ℕ) → places section c r ≡ false) → contains_lot lots places section number ≡ false
empty_contains lots places section number free = elim (cases_lt 0 (size_of_lot lots section number)) [
  | inl more ↦
      let none : count_of_lot lots places section number ≡ 0 =
      counted_none lots.digits (intersection places (lot_places lots section number) section) gone in
      let differs : (count_of_lot lots places section number == size_of_lot lots section number) ≡ false =
      ne_eqb _ _ (λ same. absurd (omega (arith, same, none, more))) in
      rw differs (no (nat_lt 0 (size_of_lot lots section number)))
  | inr few ↦
      let test : nat_lt 0 (size_of_lot lots section number) ≡ false = grind (arith, nat_tests, few) in
      rw test refl
]
  where
    gone : (c r : ℕ) → intersection places (lot_places lots section number) section c r ≡ false
    gone c r = rw (free c r) refl

    no : (b : Bool) → (b && false) ≡ false
    no true = refl
    no false = refl

-- the units of a lot
pub units_if : (lots : Lotting) (figure : ℕ → ℕ → ℕ) (places : ℕ → ℕ → ℕ → Bool) (section number : ℕ)
    → contains_lot lots places section number ≡ true
    → returned_units lots figure places section number ≡ 100000 * figure section number
units_if lots figure places section number is = rw is refl

pub units_unless : (lots : Lotting) (figure : ℕ → ℕ → ℕ) (places : ℕ → ℕ → ℕ → Bool) (section number : ℕ)
    → contains_lot lots places section number ≡ false
    → returned_units lots figure places section number ≡ 0
units_unless lots figure places section number is = rw is refl

pub met_contains : (lots : Lotting) (places : ℕ → ℕ → ℕ → Bool) (section number : ℕ)
    → IsWholeOrNot lots section number (places section) → IsLotHeld lots section (places section) number
    → contains_lot lots places section number ≡ true
met_contains lots places section number whole met =
    decided lots places section number met.column met.row met.place met.of_lot whole ∙ met.is_held

pub unmet_lacks : (lots : Lotting) (places : ℕ → ℕ → ℕ → Bool) (section number : ℕ) → AreLots lots
    → IsWholeOrNot lots section number (places section) → HasLot lots section number
    → ¬ IsLotHeld lots section (places section) number → contains_lot lots places section number ≡ false
unmet_lacks lots places section number are whole has unmet =
    let place = (are.within section number has.0 has.1 has.2).0 in
    decided lots places section number has.0 has.1 place has.2 whole
    ∙ elim (cases_Bool (places section has.0 has.1)) [
      | inr free ↦ free
      | inl held ↦
          absurd
          (unmet
          (record { column = has.0; row = has.1; place = place; of_lot = has.2; is_held = held }))
    ]

-- a sum in which the terms from a number on are 0 but for the last
pub total-skip : (after number : ℕ) (f : ℕ → ℕ) → after < number
    → ((k : ℕ) → after ≤ k → k + 1 < number → f k ≡ 0) → total number f ≡ total after f + f (number - 1)
total-skip after number f less none =
    let gap = number - 1 - after in
    let all : number ≡ after + (number - 1 - after) + 1 = omega (arith, less) in
    let last : after + (number - 1 - after) ≡ number - 1 = omega (arith, less) in
    let next = total-next (after + (number - 1 - after)) f in
    let sum = total-add after (number - 1 - after) f in
    let zeros =
    total-all_zero (number - 1 - after) (λ k. f (after + k))
    (λ k below. none (after + k) (omega arith) (omega (arith, below))) in
    ap (λ n. total n f) all ∙ omega (arith, next, sum, zeros, ap f last)

pub total-rest : (after n : ℕ) (f : ℕ → ℕ) → after ≤ n → ((k : ℕ) → after ≤ k → k < n → f k ≡ 0)
    → total n f ≡ total after f
total-rest after n f less none =
    let all : n ≡ after + (n - after) = omega (arith, less) in
    let sum = total-add after (n - after) f in
    let zeros =
    total-all_zero (n - after) (λ k. f (after + k))
    (λ k below. none (after + k) (omega arith) (omega (arith, below))) in
    ap (λ m. total m f) all ∙ omega (arith, sum, zeros)

-- the units of the section's lots up to a number, none of which lacks a figure
pub record AreUnitsTo (lots : Lotting) (figure : ℕ → ℕ → ℕ) (places : ℕ → ℕ → ℕ → Bool)
    (section units after : ℕ) : Type 0 where
  pub units_are : units ≡ total after (λ less. returned_units lots figure places section (less + 1))
  pub figures : (number : ℕ) → number ≤ after → ¬ Lacks lots figure places section number

pub units_first : (lots : Lotting) (figure : ℕ → ℕ → ℕ) (places : ℕ → ℕ → ℕ → Bool) (section : ℕ)
    → AreLots lots
    → AreUnitsTo lots figure places section 0 0
units_first lots figure places section are = record {
  units_are = sym (total-all_zero 0 _ (λ k below. absurd (omega (arith, below))));
  figures = λ number most lacks.
      let none : contains_lot lots places section number ≡ false =
      absent lots places section number (λ has.
      absurd (omega (arith, most, (are.numbered section number has.0 has.1 has.2).0))) in
      false≢true (sym none ∙ lacks.is_held);
}

-- with the next lot
pub units_next : (lots : Lotting) (figure : ℕ → ℕ → ℕ) (places : ℕ → ℕ → ℕ → Bool)
    (section units after number more : ℕ) → AreUnitsTo lots figure places section units after
    → IsNextLot lots section after number → more ≡ returned_units lots figure places section number
    → ¬ Lacks lots figure places section number
    → AreUnitsTo lots figure places section (units + more) number
units_next lots figure places section units after number more so_far next is has = record {
  units_are =
      let sum =
      total-skip after number (λ less. returned_units lots figure places section (less + 1)) next.after
      (λ k from less.
      units_unless lots figure places section (k + 1) (between (k + 1) (omega (arith, from)) less)) in
      let back : number - 1 + 1 ≡ number = omega (arith, next.after) in
      let last : returned_units lots figure places section (number - 1 + 1)
      ≡ returned_units lots figure places section number =
      ap (λ n. returned_units lots figure places section n) back in
      omega (arith, sum, last, is, so_far.units_are);
  figures = λ other most lacks. elim (cases_lt after other) [
    | inr before ↦ so_far.figures other (omega (arith, before)) lacks
    | inl beyond ↦ elim (cases_lt other number) [
      | inl less ↦ false≢true (sym (between other beyond less) ∙ lacks.is_held)
      | inr last ↦
          let same : other ≡ number = omega (arith, most, last) in
          has (rw same at lacks)
    ]
  ];
}
  where
    between : (other : ℕ) → after < other → other < number → contains_lot lots places section other ≡ false
    between other from less =
        absent lots places section other (λ lot. absurd (omega (arith, next.first other lot from, less)))

-- if the next lot is lacking, it is the first that is
pub next_first : (lots : Lotting) (figure : ℕ → ℕ → ℕ) (places : ℕ → ℕ → ℕ → Bool)
    (section units after number other : ℕ) → AreUnitsTo lots figure places section units after
    → IsNextLot lots section after number → Lacks lots figure places section other → number ≤ other
next_first lots figure places section units after number other so_far next lacks =
    elim (cases_lt other number) [
      | inr more ↦ omega (arith, more)
      | inl less ↦ elim (cases_lt after other) [
        | inr before ↦ absurd (so_far.figures other (omega (arith, before)) lacks)
        | inl beyond ↦
            let none =
            absent lots places section other
            (λ lot. absurd (omega (arith, next.first other lot beyond, less))) in
            absurd (false≢true (sym none ∙ lacks.is_held))
      ]
    ]

-- after the last one
pub units_last : (lots : Lotting) (figure : ℕ → ℕ → ℕ) (places : ℕ → ℕ → ℕ → Bool)
    (section units after : ℕ) → AreUnitsTo lots figure places section units after → after ≤ LOT_NUMBER_MOST
    → IsLastLot lots section after
    → (units ≡ units_of_lots lots figure places section)
    × ((number : ℕ) → ¬ Lacks lots figure places section number)
units_last lots figure places section units after so_far most last = (
  so_far.units_are
      ∙ sym
      (total-rest after LOT_NUMBER_MOST (λ less. returned_units lots figure places section (less + 1)) most
      (λ k from _. units_unless lots figure places section (k + 1) (beyond (k + 1) (omega (arith, from))))),
  λ number lacks. elim (cases_lt after number) [
    | inl more ↦ false≢true (sym (beyond number more) ∙ lacks.is_held)
    | inr within ↦ so_far.figures number (omega (arith, within)) lacks
  ],
)
  where
    beyond : (other : ℕ) → after < other → contains_lot lots places section other ≡ false
    beyond other more =
        absent lots places section other (λ has. absurd (omega (arith, last other has, more)))

-- a section without land has no units, and lacks nothing
pub empty_units : (lots : Lotting) (figure : ℕ → ℕ → ℕ) (places : ℕ → ℕ → ℕ → Bool) (section : ℕ)
    → ((c r : ℕ) → places section c r ≡ false) → section_units lots figure places section ≡ 0
empty_units lots figure places section free =
    let of_lots : units_of_lots lots figure places section ≡ 0 =
    total-all_zero LOT_NUMBER_MOST _ (λ k _.
    units_unless lots figure places section (k + 1) (empty_contains lots places section (k + 1) free)) in
    let off : count_off_lots lots places section ≡ 0 =
    counted_none lots.digits (land_off_lots lots section (places section)) gone in
    rw (of_lots, off) refl
  where
    gone : (c r : ℕ) → land_off_lots lots section (places section) c r ≡ false
    gone c r = rw (free c r) refl

pub empty_has : (lots : Lotting) (figure : ℕ → ℕ → ℕ) (places : ℕ → ℕ → ℕ → Bool) (section number : ℕ)
    → ((c r : ℕ) → places section c r ≡ false) → ¬ Lacks lots figure places section number
empty_has lots figure places section number free lacks =
    false≢true (sym (empty_contains lots places section number free) ∙ lacks.is_held)

-- a set of places in a section that contains none of them
pub unmet_places : (held : ℕ → ℕ → Bool) → ¬ Meets held (whole_block PLACE_DIGITS)
    → ((c r : ℕ) → held c r ≡ true → IsPlace PLACE_DIGITS c r) → (c r : ℕ) → held c r ≡ false
unmet_places held none within c r = elim (cases_Bool (held c r)) [
  | inr free ↦ free
  | inl is ↦
      absurd
      (none (record {
        column = c;
        row = r;
        inside = whole_is_place c r ∙ test_of_place PLACE_DIGITS c r (within c r is);
        is_held = is;
      }))
]
