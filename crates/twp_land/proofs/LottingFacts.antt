-- The standard lots as a lotting: which there are, and the places of each.
use Rattle.std.proofs.Common.{◌≡◌, ◌==◌, ℕ, ◌-◌, ◌*◌, ◌≤◌, ◌&&◌, ◌||◌, ◌↔◌, Bool, true, false, Option}
use Rattle.std.proofs.Common.{Some}
use Rattle.std.proofs.Common.{None}
use Rattle.std.proofs.Common.{refl, sym, ap, subst, ◌∙◌, ◌⊎◌, inl, inr, arith, nat_le, nat_lt, IsSome}
use Rattle.std.proofs.Common.{if◌then◌else◌}
use Rattle.std.proofs.Math.Path.{fun_ext}
use Rattle.std.specs.Option.{option_map_or}
use Rattle.std.proofs.lemmas.Bool.{and_parts, cases_Bool, eqb-true, eq-eqb}
use Rattle.std.proofs.lemmas.Bool.Decides.{nat_tests}
use Rattle.twp_grid.specs.Winding.{IsSection}
use Rattle.twp_land.specs.steps.Marked.{in_section}
use Rattle.twp_land.specs.steps.StandardLots.{standard_are_lots}
use Rattle.twp_grid.specs.Lots.{position_of_lot, number_of_lots}
use Rattle.twp_grid.specs.Places.{PLACE_DIGITS, is_place, position_along}
use Rattle.twp_grid.specs.Spans.{Rectangle, in_rectangle, whole_block}
use Rattle.twp_grid.proofs.PlaceTests.{place_of_test, test_of_place, whole_is_place}
use Rattle.twp_grid.specs.Lands.{STANDARD_LOTS, HasLot, HasLots, IsLotHeld, Meets, SharePlace}
use Rattle.twp_grid.specs.Lands.{ContainsAll, lot_of_place}
use Rattle.twp_grid.specs.Lands.{lot_places, block_places, section_places, HasLand, HoldsEach, HoldsAll}
use Rattle.twp_grid.proofs.LotFacts.{count_by_code, position_of_lot_is, lot_count_is}
use Rattle.twp_land.proofs.LotFacts.{fills, inside, has_lot, block_of}
use Rattle.twp_land.proofs.LotBlocks.{in_lot_block, lot_is_place, share_of_meets, meets_of_share}

-- the lots of a section are numbered from 1
pub standard_number : (s n : ℕ) → IsSection s → HasLot STANDARD_LOTS s n → (1 ≤ n) × (n ≤ number_of_lots s)
standard_number s n range has =
    let there =
    fills s (position_along PLACE_DIGITS has.0) (position_along PLACE_DIGITS has.1) n range
    has.2 in
    (there.least, there.most)

-- a lot of the section fills some position
pub has_position : (s n : ℕ) → IsSection s → 1 ≤ n → n ≤ number_of_lots s → IsSome (position_of_lot s n)
has_position s n range least most =
    let count = lot_count_is s range in
    let inside : ((n == 0) || nat_lt (count_by_code s) n) ≡ false = grind (arith, nat_tests) in
    rw (position_of_lot_is s n range, inside) (some (nat_le s 6 && nat_le n 4))
  where
    some : (b : Bool) → IsSome {T = ℕ × ℕ} (if b then Some (n - 1, 3) else Some (3, count_by_code s - n))
    some true = refl
    some false = refl

pub standard_has : (s n : ℕ) → IsSection s → 1 ≤ n → n ≤ number_of_lots s → HasLot STANDARD_LOTS s n
standard_has s n range least most = go (position_of_lot s n) refl (has_position s n range least most)
  where
    go : (position : Option (ℕ × ℕ)) → position_of_lot s n ≡ position → IsSome position
        → HasLot STANDARD_LOTS s n
    go None is some = cc some
    go (Some (c, r)) is some =
        let lot = has_lot s n c r range most is in
        let column-is : position_along PLACE_DIGITS (8 * c) ≡ c = omega arith in
        let row-is : position_along PLACE_DIGITS (8 * r) ≡ r = omega arith in
        (8 * c, 8 * r, rw (column-is, row-is) lot)

-- so a range of lots has no gap
pub standard_have : (s first last : ℕ) → IsSection s → 1 ≤ first → last ≤ number_of_lots s
    → HasLots STANDARD_LOTS s first last
standard_have s first last range least most lot from to =
    standard_has s lot range (omega (arith, least, from)) (omega (arith, most, to))

-- the places of a lot are those of its block
in_block_or_not : (s n c r : ℕ) (block : Rectangle) → IsSection s → n ≤ number_of_lots s
    → block_of (position_of_lot s n) ≡ Some block
    → (lot : Option ℕ) → lot_of_place PLACE_DIGITS s c r ≡ lot
    → in_rectangle block c r ≡ option_map_or (λ number. n == number) lot false
in_block_or_not s n c r block range most is lot at = go lot at (cases_Bool (in_rectangle block c r))
  where
    go : (lot : Option ℕ) → lot_of_place PLACE_DIGITS s c r ≡ lot
        → (in_rectangle block c r ≡ true) ⊎ (in_rectangle block c r ≡ false)
        → in_rectangle block c r ≡ option_map_or (λ number. n == number) lot false
    go None at (inl inside) = cc (sym at ∙ (in_lot_block s n block range most is c r).0 inside)
    go None at (inr outside) = outside
    go (Some k) at (inl inside) =
        let same : Some k ≡ Some n = sym at ∙ (in_lot_block s n block range most is c r).0 inside in
        let equal : n ≡ k = cc same in
        inside ∙ sym (eq-eqb n k equal)
    go (Some k) at (inr outside) = elim (cases_Bool (n == k)) [
      | inl both ↦
          cc (
            outside,
            (in_lot_block s n block range most is c r).1
                (at ∙ ap (λ m. Some m) (sym (eqb-true n k both))),
          )
      | inr not ↦ outside ∙ sym not
    ]

pub standard_places : (s n : ℕ) (block : Rectangle) → IsSection s → n ≤ number_of_lots s
    → block_of (position_of_lot s n) ≡ Some block
    → block_places s block ≡ lot_places STANDARD_LOTS s n
standard_places s n block range most is =
    fun_ext (λ o. fun_ext (λ c. fun_ext (λ r. at_place o c r (lot_of_place PLACE_DIGITS s c r) refl)))
  where
    none : (p b : Bool) → (b && false) ≡ (p && (b && false))
    none true b = refl
    none false true = refl
    none false false = refl

    one : (p b : Bool) → p ≡ true → b ≡ (p && b)
    one true b is = refl
    one false b is = cc is

    at_place : (o c r : ℕ) (lot : Option ℕ) → lot_of_place PLACE_DIGITS s c r ≡ lot
        → block_places s block o c r ≡ lot_places STANDARD_LOTS s n o c r
    at_place o c r None at =
        rw (at, in_block_or_not s n c r block range most is None at)
        (none (is_place PLACE_DIGITS c r) (s == o))
    at_place o c r (Some k) at =
        rw (at, in_block_or_not s n c r block range most is (Some k) at)
        (one (is_place PLACE_DIGITS c r) ((s == o) && (n == k)) (lot_is_place s k c r range at))

-- a regular township has land at each place of its sections
pub standard_section : (s : ℕ) (block : Rectangle) → block ≡ whole_block PLACE_DIGITS
    → block_places s block ≡ section_places STANDARD_LOTS s
standard_section s block is = fun_ext (λ o. fun_ext (λ c. fun_ext (λ r.
    ap (λ b. (s == o) && in_rectangle b c r) is
    ∙ rw (whole_is_place c r) (turned (s == o) (is_place PLACE_DIGITS c r)))))
  where
    turned : (a b : Bool) → (a && b) ≡ (b && (a && true))
    turned true true = refl
    turned true false = refl
    turned false true = refl
    turned false false = refl

pub section_apart : (places : ℕ → ℕ → ℕ → Bool) (s : ℕ) (block : Rectangle)
    → block ≡ whole_block PLACE_DIGITS → ¬ Meets (places s) block
    → ¬ SharePlace places (section_places STANDARD_LOTS s)
section_apart places s block is apart shared =
    apart (meets_of_share places s block
    (subst (λ p. SharePlace places p) (sym (standard_section s block is)) shared))

pub section_met : (places : ℕ → ℕ → ℕ → Bool) (s : ℕ) (block : Rectangle)
    → block ≡ whole_block PLACE_DIGITS → Meets (places s) block
    → SharePlace places (section_places STANDARD_LOTS s)
section_met places s block is met =
    subst (λ p. SharePlace places p) (standard_section s block is) (share_of_meets places s block met)

pub section_has_land : (s : ℕ) → HasLand STANDARD_LOTS s
section_has_land s = record { column = 0; row = 0; place = refl; is_land = refl }

pub section_held : (s : ℕ) (held : ℕ → ℕ → Bool) (block : Rectangle) → block ≡ whole_block PLACE_DIGITS
    → HoldsAll held block ↔ HoldsEach STANDARD_LOTS s held
section_held s held block is = (
  λ all column row place land. all column row
      (ap (λ b. in_rectangle b column row) is ∙ whole_is_place column row
      ∙ test_of_place PLACE_DIGITS column row place),
  λ each column row there. each column row
      (place_of_test PLACE_DIGITS column row
      (sym (whole_is_place column row) ∙ sym (ap (λ b. in_rectangle b column row) is) ∙ there)) refl,
)

pub standard_apart : (places : ℕ → ℕ → ℕ → Bool) (s n : ℕ) (block : Rectangle)
    → block_places s block ≡ lot_places STANDARD_LOTS s n → ¬ Meets (places s) block
    → ¬ SharePlace places (lot_places STANDARD_LOTS s n)
standard_apart places s n block is apart shared =
    apart (meets_of_share places s block (subst (λ p. SharePlace places p) (sym is) shared))

pub standard_met : (places : ℕ → ℕ → ℕ → Bool) (s n : ℕ) (block : Rectangle)
    → block_places s block ≡ lot_places STANDARD_LOTS s n → Meets (places s) block
    → SharePlace places (lot_places STANDARD_LOTS s n)
standard_met places s n block is met = subst (λ p. SharePlace places p) is (share_of_meets places s block met)

-- a set that meets a lot's block contains some of the lot
pub held_of_meets : (s n : ℕ) (held : ℕ → ℕ → Bool) (block : Rectangle) → IsSection s
    → n ≤ number_of_lots s → block_of (position_of_lot s n) ≡ Some block
    → Meets held block → IsLotHeld STANDARD_LOTS s held n
held_of_meets s n held block range most is meets =
    let of_lot = (in_lot_block s n block range most is meets.column meets.row).0 meets.inside in
    record {
      column = meets.column;
      row = meets.row;
      place = (standard_are_lots.within s n meets.column meets.row of_lot).0;
      of_lot = of_lot;
      is_held = meets.is_held;
    }

pub meets_of_held : (s n : ℕ) (held : ℕ → ℕ → Bool) (block : Rectangle) → IsSection s
    → n ≤ number_of_lots s → block_of (position_of_lot s n) ≡ Some block
    → IsLotHeld STANDARD_LOTS s held n → Meets held block
meets_of_held s n held block range most is lot = record {
  column = lot.column;
  row = lot.row;
  inside = (in_lot_block s n block range most is lot.column lot.row).1 lot.of_lot;
  is_held = lot.is_held;
}

-- a set contains each place of another set in one section
pub contains_held : (places : ℕ → ℕ → ℕ → Bool) (s : ℕ) (held : ℕ → ℕ → Bool) (set : ℕ → ℕ → ℕ → Bool)
    → in_section s held ≡ set
    → ((c r : ℕ) → held c r ≡ true → places s c r ≡ true) ↔ ContainsAll places set
contains_held places s held set is = (
  λ each o c r there.
      let parts = and_parts (s == o) (held c r) (ap (λ p. p o c r) is ∙ there) in
      let same : s ≡ o = eqb-true s o parts.0 in
      ap (λ n. places n c r) (sym same) ∙ each c r parts.1,
  λ all c r here. all s c r (sym (ap (λ p. p s c r) is) ∙ rw (eq-eqb s s refl, here) refl),
)
