-- Lots and the places in them. The cases of the table are finitely many and are computed.
use Rattle.std.proofs.Common.{◌≡◌, ◌==◌, ℕ, ◌<◌, ◌≤◌, ◌&&◌, ◌||◌, ◌⊎◌, Bool, true, false, Option, Some, None}
use Rattle.std.proofs.Common.{ap, refl, sym, ◌∙◌, inl, inr, arith, nat_le, option_map, if◌then◌else◌}
use Rattle.std.specs.Option.{SomeIff}
use Rattle.std.proofs.lemmas.Bool.{eqb-true, cases_lt}
use Rattle.std.proofs.lemmas.Bool.Decides.{nat_tests}
use Rattle.twp_grid.specs.Winding.{IsSection}
use Rattle.twp_grid.specs.Lots.{lots, lot_at_position, position_of_lot, number_of_lots}
use Rattle.twp_grid.specs.steps.WesternSections.{is_western_number}
use Rattle.twp_grid.specs.Places.{PLACE_DIGITS, position_along}
use Rattle.twp_grid.specs.Spans.{Rectangle, in_span, in_rectangle, position_span, position_block}
use Rattle.twp_grid.proofs.LotFacts.{each, each_of_three, either, a_section, lot_count_is, lot_outside}
use Rattle.twp_grid.specs.Lands.{Meets, HoldsAll}
use Rattle.twp_grid.specs.Lands.{lot_of_place, IsWholeOrNot}
use Rattle.twp_grid.specs.Lands.{STANDARD_LOTS}

both : (x y : Bool) → (x && y) ≡ true → (x ≡ true) × (y ≡ true)
both true y h = (refl, h)
both false y h = cc h

cases_bool : (b : Bool) → (b ≡ true) ⊎ (b ≡ false)
cases_bool true = inl refl
cases_bool false = inr refl

-- whether a position is this one
abbrev is_position : Option (ℕ × ℕ) → ℕ → ℕ → Bool
is_position None c r = false
is_position (Some (c', r')) c r = (c' == c) && (r' == r)

is_position_tells : (x : Option (ℕ × ℕ)) (c r : ℕ) → is_position x c r ≡ true → x ≡ Some (c, r)
is_position_tells None c r h = cc h
is_position_tells (Some (c', r')) c r h =
    let parts = both (c' == c) (r' == r) h in
    let e : c' ≡ c = eqb-true c' c parts.0 in
    let e' : r' ≡ r = eqb-true r' r parts.1 in
    rw (e, e') refl

-- whether a lot is this one
abbrev pub is_lot : Option ℕ → ℕ → Bool
is_lot None n = false
is_lot (Some n') n = n' == n

pub is_lot_tells : (x : Option ℕ) (n : ℕ) → is_lot x n ≡ true → x ≡ Some n
is_lot_tells None n h = cc h
is_lot_tells (Some n') n h = ap (λ k. Some k) (eqb-true n' n h)

-- the lot at a position fills that position
abbrev lot_fills : ℕ → ℕ → ℕ → Option ℕ → Bool
lot_fills s c r None = true
lot_fills s c r (Some n) =
    nat_le 1 n && (nat_le n (number_of_lots s) && is_position (position_of_lot s n) c r)

-- the position of a lot has that lot
abbrev position_has : ℕ → ℕ → Option (ℕ × ℕ) → Bool
position_has s n None = true
position_has s n (Some (c, r)) = is_lot (lot_at_position s c r) n

fills_test : each 37 (λ s. each 4 (λ c. each 4 (λ r. (s == 0) || lot_fills s c r (lot_at_position s c r))))
    ≡ true
unfolding each number_of_lots lot_at_position position_of_lot lots
fills_test = refl

has_test : each 37 (λ s. each 8 (λ n. each 1 (λ z. (s == 0) || position_has s n (position_of_lot s n))))
    ≡ true
unfolding each lot_at_position position_of_lot lots
has_test = refl

-- a lot that fills a position
pub record Fills (section column row lot : ℕ) : Type 0 where
  pub in_column : column < 4
  pub in_row : row < 4
  pub least : 1 ≤ lot
  pub most : lot ≤ number_of_lots section
  pub position : position_of_lot section lot ≡ Some (column, row)

-- a lot's position lies in the section
pub inside : (s c r n : ℕ) → lot_at_position s c r ≡ Some n → (c < 4) × (r < 4)
inside s c r n is = elim (cases_lt c 4) [
  | inl in-c ↦ elim (cases_lt r 4) [
    | inl in-r ↦ (in-c, in-r)
    | inr out ↦ cc (lot_outside s c r (inr (omega arith)))
  ]
  | inr out ↦ cc (lot_outside s c r (inl (omega arith)))
]

pub fills : (s c r n : ℕ) → IsSection s → lot_at_position s c r ≡ Some n → Fills s c r n
fills s c r n range is =
    let within = inside s c r n is in
    let test =
    either (s == 0) _
    (each_of_three 37 4 4 (λ s c r. (s == 0) || lot_fills s c r (lot_at_position s c r)) s c r fills_test
    (omega (arith, range.1)) within.0 within.1)
    (a_section s range) in
    let there : lot_fills s c r (Some n) ≡ true = rw is at test in
    let first = both (nat_le 1 n) _ there in
    let second = both (nat_le n (number_of_lots s)) _ first.1 in
    record {
      in_column = within.0;
      in_row = within.1;
      least = grind (arith, nat_tests, first.0);
      most = grind (arith, nat_tests, second.0);
      position = is_position_tells _ c r second.1;
    }

-- a section has at most 7 lots
pub few_lots : (s : ℕ) → IsSection s → number_of_lots s < 8
few_lots s range = rw (lot_count_is s range) (few (nat_le s 6) (is_western_number s))
  where
    few : (north west : Bool) → (if north then (if west then 7 else 4) else (if west then 4 else 0)) < 8
    few true true = omega arith
    few true false = omega arith
    few false true = omega arith
    few false false = omega arith

-- the position of a lot has that lot
pub has_lot : (s n c r : ℕ) → IsSection s → n ≤ number_of_lots s → position_of_lot s n ≡ Some (c, r)
    → lot_at_position s c r ≡ Some n
has_lot s n c r range most is =
    let few = few_lots s range in
    let test =
    either (s == 0) _
    (each_of_three 37 8 1 (λ s n z. (s == 0) || position_has s n (position_of_lot s n)) s n 0 has_test
    (omega (arith, range.1)) (omega arith) (omega arith))
    (a_section s range) in
    let there : position_has s n (Some (c, r)) ≡ true = rw is at test in
    is_lot_tells _ n there

-- a place lies in its position
pub in_own_position : (column row : ℕ)
    → in_rectangle
    (position_block PLACE_DIGITS (position_along PLACE_DIGITS column) (position_along PLACE_DIGITS row))
    column row
    ≡ true
in_own_position column row = rw (along column, along row) refl
  where
    along : (place : ℕ)
        → in_span (position_span PLACE_DIGITS (position_along PLACE_DIGITS place)) place ≡ true
    along place = grind (arith, nat_tests)

-- a place in a position lies in no other position
pub position_of_inside : (c r column row : ℕ)
    → in_rectangle (position_block PLACE_DIGITS c r) column row ≡ true
    → (position_along PLACE_DIGITS column ≡ c) × (position_along PLACE_DIGITS row ≡ r)
position_of_inside c r column row is =
    let parts = both (in_span (position_span PLACE_DIGITS c) column) _ is in
    (along c column parts.0, along r row parts.1)
  where
    along : (position place : ℕ) → in_span (position_span PLACE_DIGITS position) place ≡ true
        → position_along PLACE_DIGITS place ≡ position
    along position place there = grind (arith, nat_tests)

-- the blocks of the positions
abbrev pub block_of : Option (ℕ × ℕ) → Option Rectangle
block_of position = option_map (λ (column, row). position_block PLACE_DIGITS column row) position

-- a place of a lot lies in the lot's block
pub in_lot : (s n column row : ℕ) (block : Rectangle) → IsSection s
    → block_of (position_of_lot s n) ≡ Some block
    → lot_of_place PLACE_DIGITS s column row ≡ Some n → in_rectangle block column row ≡ true
in_lot s n column row block range is lot =
    let there = fills s (position_along PLACE_DIGITS column) (position_along PLACE_DIGITS row) n range lot in
    let same : Some
    (position_block PLACE_DIGITS (position_along PLACE_DIGITS column) (position_along PLACE_DIGITS row))
    ≡ Some block = rw there.position at is in
    let equal : position_block PLACE_DIGITS (position_along PLACE_DIGITS column)
    (position_along PLACE_DIGITS row)
    ≡ block = cc in
    rw (← equal) (in_own_position column row)

-- a lot's block that the land contains wholly, or does not meet
pub whole_of_block : (s n : ℕ) (held : ℕ → ℕ → Bool) (block : Rectangle) → IsSection s
    → block_of (position_of_lot s n) ≡ Some block
    → (Meets held block → HoldsAll held block) → IsWholeOrNot STANDARD_LOTS s n held
whole_of_block s n held block range is whole = record {
  alike = λ column row column' row' lot lot'.
      go column row column' row' lot lot' (cases_bool (held column row)) (cases_bool (held column' row'));
}
  where
    meets : (column row : ℕ) → lot_of_place PLACE_DIGITS s column row ≡ Some n → held column row ≡ true
        → Meets held block
    meets column row lot there = record {
      column = column;
      row = row;
      inside = in_lot s n column row block range is lot;
      is_held = there;
    }

    go : (column row column' row' : ℕ) → lot_of_place PLACE_DIGITS s column row ≡ Some n
        → lot_of_place PLACE_DIGITS s column' row' ≡ Some n
        → (held column row ≡ true) ⊎ (held column row ≡ false)
        → (held column' row' ≡ true) ⊎ (held column' row' ≡ false) → held column row ≡ held column' row'
    go column row column' row' lot lot' (inl there) other =
        there
        ∙ sym (whole (meets column row lot there) column' row' (in_lot s n column' row' block range is lot'))
    go column row column' row' lot lot' (inr not) (inl there) =
        whole (meets column' row' lot' there) column row (in_lot s n column row block range is lot)
        ∙ sym there
    go column row column' row' lot lot' (inr not) (inr not') = not ∙ sym not'

-- the lot of a place in its block
pub lot_inside : (s n c r column row : ℕ) → IsSection s → n ≤ number_of_lots s
    → position_of_lot s n ≡ Some (c, r)
    → in_rectangle (position_block PLACE_DIGITS c r) column row ≡ true
    → lot_of_place PLACE_DIGITS s column row ≡ Some n
lot_inside s n c r column row range most position inside =
    let at = position_of_inside c r column row inside in
    let e : position_along PLACE_DIGITS column ≡ c = at.0 in
    let e' : position_along PLACE_DIGITS row ≡ r = at.1 in
    rw (e, e') (has_lot s n c r range most position)

-- the block of a lot that the land contains wholly or not at all
pub block_of_whole : (s n : ℕ) (held : ℕ → ℕ → Bool) (block : Rectangle) (position : Option (ℕ × ℕ))
    → IsSection s → n ≤ number_of_lots s
    → position_of_lot s n ≡ position → block_of position ≡ Some block → IsWholeOrNot STANDARD_LOTS s n held
    → Meets held block → HoldsAll held block
block_of_whole s n held block None range most is there whole meets = cc there
block_of_whole s n held block (Some (c, r)) range most is there whole meets =
    let same : position_block PLACE_DIGITS c r ≡ block = cc there in
    let first : in_rectangle (position_block PLACE_DIGITS c r) meets.column meets.row ≡ true =
    ap (λ b. in_rectangle b meets.column meets.row) same ∙ meets.inside in
    λ column row inside.
    let second : in_rectangle (position_block PLACE_DIGITS c r) column row ≡ true =
    ap (λ b. in_rectangle b column row) same ∙ inside in
    whole.alike column row meets.column meets.row (lot_inside s n c r column row range most is second)
    (lot_inside s n c r meets.column meets.row range most is first)
    ∙ meets.is_held

-- no lot has number 0, or a number above the count of lots
pub no_such_lot : (s n : ℕ) (held : ℕ → ℕ → Bool) → IsSection s → (n < 1) ⊎ (number_of_lots s < n)
    → IsWholeOrNot STANDARD_LOTS s n held
no_such_lot s n held range out =
    record { alike = λ column row column' row' lot lot'. absurd (none column row lot out) }
  where
    none : (column row : ℕ) → lot_of_place PLACE_DIGITS s column row ≡ Some n
        → (n < 1) ⊎ (number_of_lots s < n) → ⊥
    none column row lot (inl below) =
        let there =
        fills s (position_along PLACE_DIGITS column) (position_along PLACE_DIGITS row) n range lot in
        omega (arith, there.least)
    none column row lot (inr above) =
        let there =
        fills s (position_along PLACE_DIGITS column) (position_along PLACE_DIGITS row) n range lot in
        omega (arith, there.most)

-- the section with a number has this number
pub section_is : (number section : ℕ) (found : Option ℕ) → SomeIff found (IsSection number) number
    → found ≡ Some section → section ≡ number
section_is number section found is there = (rw there at is).1
