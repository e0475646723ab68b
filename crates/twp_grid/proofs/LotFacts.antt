-- The lots that the code computes are those in the table. The cases are finitely many and are
-- computed.
use Rattle.std.proofs.Common.{◌≤◌, option_map}
use Rattle.std.proofs.Common.{◌≡◌, ◌==◌, ℕ, zero, suc, ◌+◌, ◌-◌, ◌<◌, ◌&&◌, ◌||◌, ◌⊎◌, ◌↔◌, Bool}
use Rattle.std.proofs.Common.{true, false, List, [], ◌∷◌, Option, Some, None, refl, ap, inl, inr}
use Rattle.std.proofs.Common.{arith, if◌then◌else◌, find, nat_le, nat_lt}
use Rattle.std.specs.List.{list_all}
use Rattle.std.proofs.lemmas.Bool.{cases_Bool, cases_lt, eqb-true, ne_eqb, and_parts}
use Rattle.std.proofs.lemmas.Bool.Decides.{nat_tests}
use Rattle.twp_grid.specs.Winding.{IsSection}
use Rattle.twp_grid.specs.Lots.{Lot, lots, lot_at_position, position_of_lot, number_of_lots}
use Rattle.twp_grid.specs.steps.WesternSections.{is_western_number}

-- the test holds for every number below n
unfoldable pub each : ℕ → (ℕ → Bool) → Bool
each zero test = true
each (suc n) test = test n && each n test

each_at : (n : ℕ) (test : ℕ → Bool) (k : ℕ) → each n test ≡ true → k < n → test k ≡ true
unfolding each
each_at zero test k all below = absurd (omega arith)
each_at (suc n) test k all below =
    let parts = and_parts (test n) (each n test) all in
    elim (cases_lt k n) [
      | inl further ↦ each_at n test k parts.1 further
      | inr here ↦ let same : k ≡ n = omega arith in rw same parts.0
    ]

-- the test holds for every three numbers below their bounds
pub each_of_three : (l m n : ℕ) (test : ℕ → ℕ → ℕ → Bool) (i j k : ℕ)
    → each l (λ x. each m (λ y. each n (λ z. test x y z))) ≡ true → i < l → j < m → k < n → test i j k ≡ true
each_of_three l m n test i j k all in-l in-m in-n =
    each_at n (λ z. test i j z) k
    (each_at m (λ y. each n (λ z. test i y z)) j
    (each_at l (λ x. each m (λ y. each n (λ z. test x y z))) i all in-l) in-m)
    in-n

-- tests of equality
abbrev same_number : Option ℕ → Option ℕ → Bool
same_number None None = true
same_number (Some a) (Some b) = a == b
same_number None (Some b) = false
same_number (Some a) None = false

same_number_tells : (x y : Option ℕ) → same_number x y ≡ true → x ≡ y
same_number_tells None None h = refl
same_number_tells (Some a) (Some b) h = ap (λ n. Some n) (eqb-true a b h)
same_number_tells None (Some b) h = cc h
same_number_tells (Some a) None h = cc h

abbrev same_pair : Option (ℕ × ℕ) → Option (ℕ × ℕ) → Bool
same_pair None None = true
same_pair (Some a) (Some b) = (a.0 == b.0) && (a.1 == b.1)
same_pair None (Some b) = false
same_pair (Some a) None = false

same_pair_tells : (x y : Option (ℕ × ℕ)) → same_pair x y ≡ true → x ≡ y
same_pair_tells None None h = refl
same_pair_tells (Some (a, b)) (Some (a', b')) h =
    let parts = and_parts (a == a') (b == b') h in
    let e : a ≡ a' = eqb-true a a' parts.0 in
    let e' : b ≡ b' = eqb-true b b' parts.1 in
    rw (e, e') refl
same_pair_tells None (Some b) h = cc h
same_pair_tells (Some a) None h = cc h

-- the code's answers
abbrev pub count_by_code : ℕ → ℕ
count_by_code s =
    if nat_le s 6 then (if is_western_number s then 7 else 4) else (if is_western_number s then 4 else 0)

abbrev pub lot_by_code : ℕ → ℕ → ℕ → Option ℕ
lot_by_code s c r =
    if nat_le s 6 && (r == 3) then Some (c + 1)
    else if is_western_number s && (c == 3) then Some (count_by_code s - r)
    else None

abbrev pub position_by_code : ℕ → ℕ → Option (ℕ × ℕ)
position_by_code s n =
    if (n == 0) || nat_lt (count_by_code s) n then None
    else if nat_le s 6 && nat_le n 4 then Some (n - 1, 3)
    else Some (3, count_by_code s - n)

count_test : each 37 (λ s. (s == 0) || (number_of_lots s == count_by_code s)) ≡ true
unfolding each number_of_lots lots
count_test = refl

lot_test : each 37
    (λ s. each 4 (λ c. each 4 (λ r. (s == 0) || same_number (lot_at_position s c r) (lot_by_code s c r))))
    ≡ true
unfolding each lot_at_position lots
lot_test = refl

position_test : each 37
    (λ s. each 8 (λ n. (s == 0) || same_pair (position_of_lot s n) (position_by_code s n)))
    ≡ true
unfolding each position_of_lot lots
position_test = refl

pub either : (x y : Bool) → (x || y) ≡ true → x ≡ false → y ≡ true
either false y h untrue = h
either true y h untrue = cc untrue

pub a_section : (s : ℕ) → IsSection s → (s == 0) ≡ false
a_section s range = ne_eqb s 0 (λ e. absurd (omega arith))

pub lot_count_is : (s : ℕ) → IsSection s → number_of_lots s ≡ count_by_code s
lot_count_is s range =
    eqb-true _ _ (either (s == 0) _ (each_at 37 _ s count_test (omega arith)) (a_section s range))

pub lot_at_is : (s c r : ℕ) → IsSection s → c < 4 → r < 4 → lot_at_position s c r ≡ lot_by_code s c r
lot_at_is s c r range in-c in-r =
    same_number_tells _ _
    (either (s == 0) _
    (each_of_three 37 4 4 (λ s c r. (s == 0) || same_number (lot_at_position s c r) (lot_by_code s c r)) s c
    r lot_test (omega arith) in-c in-r)
    (a_section s range))

position_below : (s n : ℕ) → IsSection s → n < 8 → position_of_lot s n ≡ position_by_code s n
position_below s n range in-n =
    same_pair_tells _ _
    (either (s == 0) _
    (each_at 8 _ n
    (each_at 37 (λ s. each 8 (λ n. (s == 0) || same_pair (position_of_lot s n) (position_by_code s n))) s
    position_test (omega arith))
    in-n)
    (a_section s range))

-- no lot of the table lies outside the positions, and no lot has a number above 7
abbrev within : Lot → Bool
within l = nat_le l.column 3 && (nat_le l.row 3 && nat_le l.number 7)

lots_within : list_all within lots ≡ true
unfolding lots
lots_within = refl

none_outside : (s c r : ℕ) (ls : List Lot) → list_all within ls ≡ true → (3 < c) ⊎ (3 < r)
    → find (λ (l : Lot). (l.section == s) && (l.column == c) && (l.row == r)) ls ≡ None
none_outside s c r [] all out = refl
none_outside s c r (l ∷ ls) all out =
    let parts = and_parts (within l) (list_all within ls) all in
    let fails : ((l.section == s) && (l.column == c) && (l.row == r)) ≡ false = grind (arith, nat_tests) in
    rw fails (none_outside s c r ls parts.1 out)

none_over : (s n : ℕ) (ls : List Lot) → list_all within ls ≡ true → 7 < n
    → find (λ (l : Lot). (l.section == s) && (l.number == n)) ls ≡ None
none_over s n [] all out = refl
none_over s n (l ∷ ls) all out =
    let parts = and_parts (within l) (list_all within ls) all in
    let fails : ((l.section == s) && (l.number == n)) ≡ false = grind (arith, nat_tests) in
    rw fails (none_over s n ls parts.1 out)

-- each lot of the table has a number from 1 to 7
abbrev is_numbered : Lot → Bool
is_numbered l = nat_le 1 l.number && nat_le l.number 7

lots_numbered : list_all is_numbered lots ≡ true
unfolding lots
lots_numbered = refl

found_numbered : (s c r n : ℕ) (ls : List Lot) → list_all is_numbered ls ≡ true
    → option_map (λ (l : Lot). l.number)
    (find (λ (l : Lot). (l.section == s) && (l.column == c) && (l.row == r)) ls) ≡ Some n
    → (1 ≤ n) × (n ≤ 7)
found_numbered s c r n [] all is = cc is
found_numbered s c r n (l ∷ ls) all is =
    let parts = and_parts (is_numbered l) (list_all is_numbered ls) all in
    elim (cases_Bool ((l.section == s) && (l.column == c) && (l.row == r))) [
      | inr other ↦ found_numbered s c r n ls parts.1 (rw other at is)
      | inl here ↦
          let found : Some l.number ≡ Some n = rw here at is in
          let same : l.number ≡ n = cc found in
          (grind (arith, nat_tests, parts.0), grind (arith, nat_tests, parts.0))
    ]

pub lot_numbered : (s c r n : ℕ) → lot_at_position s c r ≡ Some n → (1 ≤ n) × (n ≤ 7)
unfolding lot_at_position
lot_numbered s c r n is = found_numbered s c r n lots lots_numbered is

pub lot_outside : (s c r : ℕ) → (3 < c) ⊎ (3 < r) → lot_at_position s c r ≡ None
unfolding lot_at_position
lot_outside s c r out = rw (none_outside s c r lots lots_within out) refl

-- the lot at a position, by tests on the section
pub ruleset lot_at_position_is = (lot_at_is, lot_outside, lot_count_is)

pub position_of_lot_is : (s n : ℕ) → IsSection s → position_of_lot s n ≡ position_by_code s n
unfolding position_of_lot
position_of_lot_is s n range = elim (cases_lt n 8) [
  | inl below ↦ position_below s n range below
  | inr over ↦
      let none : position_by_code s n ≡ None = grind (arith, nat_tests) in
      rw (none_over s n lots lots_within (omega arith), none) refl
]

pub ruleset numbered_lots = (position_of_lot_is, lot_count_is)

-- a lot's position leads back to the lot, and a position's lot to the position
abbrev leads_to_lot : ℕ → ℕ → Option (ℕ × ℕ) → Bool
leads_to_lot s n None = true
leads_to_lot s n (Some p) = same_number (lot_at_position s p.0 p.1) (Some n)

abbrev leads_to_position : ℕ → ℕ → ℕ → Option ℕ → Bool
leads_to_position s c r None = true
leads_to_position s c r (Some n) = same_pair (position_of_lot s n) (Some (c, r))

to_lot_test : each 37 (λ s. each 8 (λ n. (s == 0) || leads_to_lot s n (position_of_lot s n))) ≡ true
unfolding each position_of_lot lot_at_position lots
to_lot_test = refl

to_position_test : each 37
    (λ s. each 4 (λ c. each 4 (λ r. (s == 0) || leads_to_position s c r (lot_at_position s c r))))
    ≡ true
unfolding each position_of_lot lot_at_position lots
to_position_test = refl

no_lot_over : (s n : ℕ) → 7 < n → position_of_lot s n ≡ None
unfolding position_of_lot
no_lot_over s n over = rw (none_over s n lots lots_within over) refl

lot_of_position : (s c r n : ℕ) → IsSection s → position_of_lot s n ≡ Some (c, r)
    → lot_at_position s c r ≡ Some n
lot_of_position s c r n range is = elim (cases_lt n 8) [
  | inl below ↦
      let test =
      either (s == 0) _
      (each_at 8 _ n
      (each_at 37 (λ s. each 8 (λ n. (s == 0) || leads_to_lot s n (position_of_lot s n))) s to_lot_test
      (omega (arith, range.1)))
      below)
      (a_section s range) in
      same_number_tells _ _ (rw is at test)
  | inr over ↦ let none = no_lot_over s n (omega arith) in absurd (cc (none, is))
]

position_of_its_lot : (s c r n : ℕ) → IsSection s → lot_at_position s c r ≡ Some n
    → position_of_lot s n ≡ Some (c, r)
position_of_its_lot s c r n range is = elim (cases_lt c 4) [
  | inl in-c ↦ elim (cases_lt r 4) [
    | inl in-r ↦
        let test =
        either (s == 0) _
        (each_of_three 37 4 4 (λ s c r. (s == 0) || leads_to_position s c r (lot_at_position s c r)) s c r
        to_position_test (omega (arith, range.1)) in-c in-r)
        (a_section s range) in
        same_pair_tells _ _ (rw is at test)
    | inr out ↦ let none = lot_outside s c r (inr (omega arith)) in absurd (cc (none, is))
  ]
  | inr out ↦ let none = lot_outside s c r (inl (omega arith)) in absurd (cc (none, is))
]

-- lots and the positions that they fill match
pub lots_match : (s c r n : ℕ) → IsSection s
    → (lot_at_position s c r ≡ Some n) ↔ (position_of_lot s n ≡ Some (c, r))
lots_match s c r n range = (position_of_its_lot s c r n range, lot_of_position s c r n range)
