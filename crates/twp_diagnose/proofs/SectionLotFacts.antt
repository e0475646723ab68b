-- The lots of a section, one after another by number: their places, and whether a set contains them wholly.
use Rattle.std.proofs.Common.{◌≡◌, ◌==◌, ℕ, ◌<◌, ◌≤◌, ◌&&◌, ◌||◌, ◌⊎◌, not, Bool, true, false, Option}
use Rattle.std.proofs.Common.{Some, None, inl, inr, refl, sym, ap, ◌∙◌, arith, nat_le}
use Rattle.std.proofs.Math.Path.{fun_ext}
use Rattle.std.specs.Option.{option_map_or}
use Rattle.std.proofs.lemmas.Bool.{and_parts, cases_Bool, cases_lt, eqb-true, eq-eqb}
use Rattle.std.proofs.lemmas.Bool.Decides.{nat_tests}
use Rattle.twp_grid.specs.Places.{PLACE_DIGITS, IsPlace, is_place}
use Rattle.twp_grid.specs.Lands.{Layout, Lotting, lotting, AreLots, HasLot, IsLastLot, IsNextLot, IsLotHeld}
use Rattle.twp_grid.specs.Lands.{IsWholeOrNot, LOT_NUMBER_MOST, SharePlace, lot_places, section_places}
use Rattle.twp_grid.specs.Lands.{no_places, union, difference}
use Rattle.twp_grid.proofs.PlaceTests.{test_of_place}
use Rattle.twp_grammar.specs.ItemPlaces.{is_lot_from}
use Rattle.twp_resolve.specs.steps.ResolvingSteps.{lots_from}

-- no place is shared with the empty set
none_shared : (empty more : ℕ → ℕ → ℕ → Bool) → empty ≡ no_places → ¬ SharePlace empty more
none_shared empty more none = λ shared.
    cc (sym shared.in_first ∙ ap (λ p. p shared.section shared.column shared.row) none)

added_to_none : (empty more : ℕ → ℕ → ℕ → Bool) → empty ≡ no_places → union empty more ≡ more
added_to_none empty more none = ap (λ p. union p more) none

-- the lots up to one and the next lot are those up to the next
next_filled : (lots : Lotting) (s last n : ℕ) → 1 ≤ n → IsNextLot lots s last n
    → union (lots_from lots s 1 last) (lot_places lots s n) ≡ lots_from lots s 1 n
next_filled lots s last n least next =
    fun_ext (λ o. fun_ext (λ c. fun_ext (λ r.
    at_place (is_place lots.digits c r) (s == o) c r (lots.lot_of s c r) refl)))
  where
    joined : (p b x y z : Bool) → (y || z) ≡ x → ((p && (b && y)) || (p && (b && z))) ≡ (p && (b && x))
    joined true true x y z e = e
    joined true false x y z e = refl
    joined false b x y z e = refl

    numbers : (k : ℕ) → (last < k → n ≤ k)
        → ((nat_le 1 k && nat_le k last) || (n == k)) ≡ (nat_le 1 k && nat_le k n)
    numbers k first = elim (cases_lt last k) [
      | inl after ↦ let from = first after in let more = next.after in grind (arith, nat_tests)
      | inr before ↦ let more = next.after in grind (arith, nat_tests)
    ]

    at_place : (p b : Bool) (c r : ℕ) (lot : Option ℕ) → lots.lot_of s c r ≡ lot
        → ((p && (b && is_lot_from 1 last lot))
        || (p && (b && option_map_or (λ number. n == number) lot false)))
        ≡ (p && (b && is_lot_from 1 n lot))
    at_place p b c r None at = joined p b false false false refl
    at_place p b c r (Some k) at =
        joined p b (nat_le 1 k && nat_le k n) (nat_le 1 k && nat_le k last) (n == k)
        (numbers k (next.first k (c, r, at)))

-- no place is in two lots
lots_apart : (lots : Lotting) (s last n : ℕ) → last < n
    → ¬ SharePlace (lots_from lots s 1 last) (lot_places lots s n)
lots_apart lots s last n more = λ shared.
    let c = shared.column in
    let r = shared.row in
    let p = is_place lots.digits c r in
    let here = s == shared.section in
    let first =
    and_parts here (is_lot_from 1 last (lots.lot_of s c r))
    (and_parts p (here && is_lot_from 1 last (lots.lot_of s c r)) shared.in_first).1 in
    let second =
    and_parts here (option_map_or (λ number. n == number) (lots.lot_of s c r) false)
    (and_parts p (here && option_map_or (λ number. n == number) (lots.lot_of s c r) false)
    shared.in_second).1 in
    both (lots.lot_of s c r) first.1 second.1
  where
    both : (lot : Option ℕ) → is_lot_from 1 last lot ≡ true
        → option_map_or (λ number. n == number) lot false ≡ true → ⊥
    both None first second = cc first
    both (Some k) first second =
        let same : n ≡ k = eqb-true n k second in
        let before = (and_parts (nat_le 1 k) (nat_le k last) first).1 in
        grind (arith, nat_tests)

-- no lot has a greater number than the last
pub all_filled : (lots : Lotting) (s last : ℕ) → AreLots lots → last ≤ LOT_NUMBER_MOST → IsLastLot lots s last
    → lots_from lots s 1 last ≡ lots_from lots s 1 LOT_NUMBER_MOST
all_filled lots s last fine most none =
    fun_ext (λ o. fun_ext (λ c. fun_ext (λ r.
    at_place (is_place lots.digits c r) (s == o) c r (lots.lot_of s c r) refl)))
  where
    at_place : (p b : Bool) (c r : ℕ) (lot : Option ℕ) → lots.lot_of s c r ≡ lot
        → (p && (b && is_lot_from 1 last lot)) ≡ (p && (b && is_lot_from 1 LOT_NUMBER_MOST lot))
    at_place p b c r None at = refl
    at_place p b c r (Some k) at =
        let before = none k (c, r, at) in
        let same : (nat_le 1 k && nat_le k last) ≡ (nat_le 1 k && nat_le k LOT_NUMBER_MOST) =
        grind (arith, nat_tests) in
        ap (λ x. p && (b && x)) same

-- a number that no lot has
pub no_lot : (lots : Lotting) (s n : ℕ) (held : ℕ → ℕ → Bool) → ¬ HasLot lots s n → IsWholeOrNot lots s n held
no_lot lots s n held none = record { alike = λ c r c' r' lot lot'. absurd (none (c, r, lot)) }

-- a place of a lot that is missing from a set
is_missing : (layout : Layout) (s n c r : ℕ) (places missing : ℕ → ℕ → ℕ → Bool) → AreLots (lotting layout)
    → missing ≡ difference (section_places (lotting layout) s) places
    → layout.lot_of s c r ≡ Some n → places s c r ≡ false → missing s c r ≡ true
is_missing layout s n c r places missing fine is lot out =
    let within = fine.within s n c r lot in
    ap (λ p. p s c r) is
    ∙ rw (test_of_place PLACE_DIGITS c r within.0, eq-eqb s s refl, within.1, out) refl

not_held : (section held : Bool) → (section && not held) ≡ true → held ≡ false
not_held true true h = cc h
not_held true false h = refl
not_held false held h = cc h

held_by : (lots : Lotting) (s n c r : ℕ) (held : ℕ → ℕ → Bool) → AreLots lots
    → lots.lot_of s c r ≡ Some n → held c r ≡ true → IsLotHeld lots s held n
held_by lots s n c r held fine lot is = record {
  column = c;
  row = r;
  place = (fine.within s n c r lot).0;
  of_lot = lot;
  is_held = is;
}

-- a lot is held wholly or not at all, if it isn't both in a set and missing from it; and otherwise not
pub whole_if : (layout : Layout) (s n : ℕ) (places missing : ℕ → ℕ → ℕ → Bool) → AreLots (lotting layout)
    → missing ≡ difference (section_places (lotting layout) s) places
    → ¬ (IsLotHeld (lotting layout) s (places s) n × IsLotHeld (lotting layout) s (missing s) n)
    → IsWholeOrNot (lotting layout) s n (places s)
whole_if layout s n places missing fine is apart = record {
  alike =
      λ c r c' r' lot lot'. go c r c' r' lot lot' (cases_Bool (places s c r)) (cases_Bool (places s c' r'));
}
  where
    go : (c r c' r' : ℕ) → layout.lot_of s c r ≡ Some n → layout.lot_of s c' r' ≡ Some n
        → (places s c r ≡ true) ⊎ (places s c r ≡ false) → (places s c' r' ≡ true) ⊎ (places s c' r' ≡ false)
        → places s c r ≡ places s c' r'
    go c r c' r' lot lot' (inl there) (inl there') = there ∙ sym there'
    go c r c' r' lot lot' (inl there) (inr out) =
        absurd
        (apart (
          held_by (lotting layout) s n c r (places s) fine lot there,
          held_by (lotting layout) s n c' r' (missing s) fine lot'
              (is_missing layout s n c' r' places missing fine is lot' out),
        ))
    go c r c' r' lot lot' (inr out) (inl there) =
        absurd
        (apart (
          held_by (lotting layout) s n c' r' (places s) fine lot' there,
          held_by (lotting layout) s n c r (missing s) fine lot
              (is_missing layout s n c r places missing fine is lot out),
        ))
    go c r c' r' lot lot' (inr out) (inr out') = out ∙ sym out'

pub not_whole : (layout : Layout) (s n : ℕ) (places missing : ℕ → ℕ → ℕ → Bool)
    → missing ≡ difference (section_places (lotting layout) s) places
    → IsLotHeld (lotting layout) s (places s) n → IsLotHeld (lotting layout) s (missing s) n
    → ¬ IsWholeOrNot (lotting layout) s n (places s)
not_whole layout s n places missing is held lacking = λ whole.
    let out : places s lacking.column lacking.row ≡ false =
    not_held _ _ (sym (ap (λ p. p s lacking.column lacking.row) is) ∙ lacking.is_held) in
    cc
    (sym held.is_held ∙ whole.alike held.column held.row lacking.column lacking.row held.of_lot lacking.of_lot
    ∙ out)

-- the places of a section are added to none
pub section_filled : (lots : Lotting) (s : ℕ) (is_added : Bool) (empty new : ℕ → ℕ → ℕ → Bool)
    → empty ≡ no_places
    → (is_added ≡ true → new ≡ union empty (section_places lots s))
    → (is_added ≡ false → SharePlace empty (section_places lots s))
    → new ≡ section_places lots s
section_filled lots s true empty new none added met =
    added refl ∙ added_to_none empty (section_places lots s) none
section_filled lots s false empty new none added met =
    absurd (none_shared empty (section_places lots s) none (met refl))

-- the land of a section that a set doesn't contain
pub missing_is : (lots : Lotting) (s : ℕ) (is_added : Bool) (empty filled missing places : ℕ → ℕ → ℕ → Bool)
    → empty ≡ no_places
    → (is_added ≡ true → filled ≡ union empty (section_places lots s))
    → (is_added ≡ false → SharePlace empty (section_places lots s))
    → missing ≡ difference filled places → missing ≡ difference (section_places lots s) places
missing_is lots s is_added empty filled missing places none added met is =
    is ∙ ap (λ p. difference p places) (section_filled lots s is_added empty filled none added met)

-- the places of a lot are added to those of the lots before it
pub lot_filled : (lots : Lotting) (s last n : ℕ) (is_added : Bool) (old new : ℕ → ℕ → ℕ → Bool) → 1 ≤ n
    → IsNextLot lots s last n → old ≡ lots_from lots s 1 last
    → (is_added ≡ true → new ≡ union old (lot_places lots s n))
    → (is_added ≡ false → SharePlace old (lot_places lots s n))
    → new ≡ lots_from lots s 1 n
lot_filled lots s last n true old new least next is added met =
    added refl ∙ ap (λ p. union p (lot_places lots s n)) is ∙ next_filled lots s last n least next
lot_filled lots s last n false old new least next is added met =
    absurd (lots_apart lots s last n next.after (rw is at (met refl)))
