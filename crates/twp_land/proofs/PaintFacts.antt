-- Marks that are painted place by place and row by row.
use Rattle.std.proofs.Common.{◌≡◌, ◌≢◌, ℕ, ◌+◌, ◌<◌, ◌≤◌, Bool, true, false, List, get_or, set, length}
use Rattle.std.proofs.Common.{if◌then◌else◌, refl, sym, ap, subst, ◌-◌, ◌∙◌, inl, inr, arith}
use Rattle.std.proofs.Common.{◌⊎◌, zero, suc, [], replicate}
use Rattle.std.proofs.lemmas.List.{get_or-set_same, get_or-set_other}
use Rattle.std.proofs.lemmas.Bool.{cases_Bool}
use Rattle.std.proofs.lemmas.Bool.Decides.{nat_tests}
use Rattle.twp_grid.specs.Places.{PLACE_DIGITS, IsPlace}
use Rattle.twp_grid.specs.Spans.{Interval, rectangle, span_from, in_rectangle}
use Rattle.twp_land.specs.LotMaps.{place_number}
use Rattle.twp_land.specs.LotMarks.{mark_at, HasMark, IsPainted}

-- different places have different numbers
same_place : (c r c' r' : ℕ) → IsPlace PLACE_DIGITS c r → IsPlace PLACE_DIGITS c' r'
    → place_number c r ≡ place_number c' r' → (c ≡ c') × (r ≡ r')
same_place c r c' r' place place' same =
    let along : c < 32 = place.0 in
    let along' : c' < 32 = place'.0 in
    (omega arith, omega arith)

-- a mark that a painted block has, or that was there before
pub is_new : (b : Bool) (mark was now : ℕ) → now ≡ (if b then mark else was) → b ≡ true → now ≡ mark
is_new true mark was now is here = is
is_new false mark was now is here = cc here

pub is_old : (b : Bool) (mark was now : ℕ) → now ≡ (if b then mark else was) → b ≡ false → now ≡ was
is_old true mark was now is elsewhere = cc elsewhere
is_old false mark was now is elsewhere = is

-- nothing painted
pub none_painted : (across upward : Interval) (mark : ℕ) (old : List ℕ)
    → ((c r : ℕ) → in_rectangle (rectangle across upward) c r ≡ false)
    → IsPainted (rectangle across upward) mark old old
none_painted across upward mark old empty = record {
  free = λ c r inside. cc (sym (empty c r) ∙ inside);
  marks = λ c r place. rw (empty c r) refl;
}

-- one more place of a row
pub place_painted : (start k row mark : ℕ) (old mid : List ℕ) → start + k < 32 → row < 32
    → place_number (start + k) row < length mid → get_or mid (place_number (start + k) row) 0 ≡ 0
    → IsPainted (rectangle (span_from start k) (span_from row 1)) mark old mid
    → IsPainted (rectangle (span_from start (k + 1)) (span_from row 1)) mark old
    (set mid (place_number (start + k) row) mark)
place_painted start k row mark old mid east north fits free so_far = record {
  free = λ c r inside.
      was_free c r (cases_Bool (in_rectangle (rectangle (span_from start k) (span_from row 1)) c r))
      inside;
  marks = λ c r place.
      now c r place (cases_Bool (in_rectangle (rectangle (span_from start (k + 1)) (span_from row 1)) c r));
}
  where
    last : (c r : ℕ) → in_rectangle (rectangle (span_from start (k + 1)) (span_from row 1)) c r ≡ true
        → in_rectangle (rectangle (span_from start k) (span_from row 1)) c r ≡ false
        → (c ≡ start + k) × (r ≡ row)
    last c r inside outside = grind (arith, nat_tests, inside, outside)

    before : (mark_at mid (start + k) row ≡ 0)
        → mark_at old (start + k) row ≡ 0
    before none =
        let outside : in_rectangle (rectangle (span_from start k) (span_from row 1)) (start + k) row ≡ false =
        grind (arith, nat_tests) in
        let was =
        is_old (in_rectangle (rectangle (span_from start k) (span_from row 1)) (start + k) row) mark
        (mark_at old (start + k) row) (mark_at mid (start + k) row)
        (so_far.marks (start + k) row (east, north))
        outside in
        sym was ∙ none

    was_free : (c r : ℕ)
        → (in_rectangle (rectangle (span_from start k) (span_from row 1)) c r ≡ true)
        ⊎ (in_rectangle (rectangle (span_from start k) (span_from row 1)) c r ≡ false)
        → in_rectangle (rectangle (span_from start (k + 1)) (span_from row 1)) c r ≡ true
        → mark_at old c r ≡ 0
    was_free c r (inl earlier) inside = so_far.free c r earlier
    was_free c r (inr outside) inside =
        let here = last c r inside outside in
        rw (here.0, here.1) (before free)

    now : (c r : ℕ) → IsPlace PLACE_DIGITS c r
        → (in_rectangle (rectangle (span_from start (k + 1)) (span_from row 1)) c r ≡ true)
        ⊎ (in_rectangle (rectangle (span_from start (k + 1)) (span_from row 1)) c r ≡ false)
        → mark_at (set mid (place_number (start + k) row) mark) c r
        ≡ (if in_rectangle (rectangle (span_from start (k + 1)) (span_from row 1)) c r then mark else mark_at
        old c r)
    now c r place (inl inside) = rw inside (within (cases_Bool
        (in_rectangle (rectangle (span_from start k) (span_from row 1)) c r)))
      where
        within : (in_rectangle (rectangle (span_from start k) (span_from row 1)) c r ≡ true)
            ⊎ (in_rectangle (rectangle (span_from start k) (span_from row 1)) c r ≡ false)
            → mark_at (set mid (place_number (start + k) row) mark) c r ≡ mark
        within (inr outside) =
            let here = last c r inside outside in
            rw (here.0, here.1) (get_or-set_same mid (place_number (start + k) row) mark 0 fits)
        within (inl earlier) =
            let other : place_number c r ≢ place_number (start + k) row = λ same.
            let places = same_place c r (start + k) row place (east, north) same in
            absurd (grind (arith, nat_tests, earlier, places.0)) in
            get_or-set_other mid (place_number (start + k) row) (place_number c r) mark 0 other
            ∙ is_new (in_rectangle (rectangle (span_from start k) (span_from row 1)) c r) mark
            (mark_at old c r)
            (mark_at mid c r) (so_far.marks c r place) earlier
    now c r place (inr outside) =
        let other : place_number c r ≢ place_number (start + k) row = λ same.
        let places = same_place c r (start + k) row place (east, north) same in
        absurd (grind (arith, nat_tests, outside, places.0, places.1)) in
        let earlier : in_rectangle (rectangle (span_from start k) (span_from row 1)) c r ≡ false =
        grind (arith, nat_tests, outside) in
        rw outside
        (get_or-set_other mid (place_number (start + k) row) (place_number c r) mark 0 other
        ∙ is_old (in_rectangle (rectangle (span_from start k) (span_from row 1)) c r) mark (mark_at old c r)
        (mark_at mid c r) (so_far.marks c r place) earlier)

-- one more row of a block
pub row_painted : (across : Interval) (start k mark : ℕ) (old mid new : List ℕ)
    → across.start + across.len ≤ 32
    → start + k < 32
    → IsPainted (rectangle across (span_from start k)) mark old mid
    → IsPainted (rectangle across (span_from (start + k) 1)) mark mid new
    → IsPainted (rectangle across (span_from start (k + 1))) mark old new
row_painted across start k mark old mid new east north so_far more = record {
  free = λ c r inside.
      was_free c r (cases_Bool (in_rectangle (rectangle across (span_from start k)) c r)) inside;
  marks =
      λ c r place. now c r place (cases_Bool (in_rectangle (rectangle across (span_from (start + k) 1)) c r));
}
  where
    in_last : (c r : ℕ) → in_rectangle (rectangle across (span_from start (k + 1))) c r ≡ true
        → in_rectangle (rectangle across (span_from start k)) c r ≡ false
        → in_rectangle (rectangle across (span_from (start + k) 1)) c r ≡ true
    in_last c r inside outside = grind (arith, nat_tests, inside, outside)

    is_place : (c r : ℕ) → in_rectangle (rectangle across (span_from (start + k) 1)) c r ≡ true
        → IsPlace PLACE_DIGITS c r
    is_place c r inside = (grind (arith, nat_tests, inside, east), grind (arith, nat_tests, inside, north))

    was_free : (c r : ℕ) → (in_rectangle (rectangle across (span_from start k)) c r ≡ true)
        ⊎ (in_rectangle (rectangle across (span_from start k)) c r ≡ false)
        → in_rectangle (rectangle across (span_from start (k + 1))) c r ≡ true → mark_at old c r ≡ 0
    was_free c r (inl earlier) inside = so_far.free c r earlier
    was_free c r (inr outside) inside =
        let here = in_last c r inside outside in
        let was =
        is_old (in_rectangle (rectangle across (span_from start k)) c r) mark (mark_at old c r)
        (mark_at mid c r)
        (so_far.marks c r (is_place c r here)) outside in
        sym was ∙ more.free c r here

    now : (c r : ℕ) → IsPlace PLACE_DIGITS c r
        → (in_rectangle (rectangle across (span_from (start + k) 1)) c r ≡ true)
        ⊎ (in_rectangle (rectangle across (span_from (start + k) 1)) c r ≡ false)
        → mark_at new c r
        ≡ (if in_rectangle (rectangle across (span_from start (k + 1))) c r then mark else mark_at old c r)
    now c r place (inl here) =
        let inside : in_rectangle (rectangle across (span_from start (k + 1))) c r ≡ true =
        grind (arith, nat_tests, here) in
        rw inside
        (is_new (in_rectangle (rectangle across (span_from (start + k) 1)) c r) mark (mark_at mid c r)
        (mark_at new c r) (more.marks c r place) here)
    now c r place (inr elsewhere) =
        let same : in_rectangle (rectangle across (span_from start (k + 1))) c r
        ≡ in_rectangle (rectangle across (span_from start k)) c r =
        grind (arith, nat_tests, elsewhere) in
        rw same
        (is_old (in_rectangle (rectangle across (span_from (start + k) 1)) c r) mark (mark_at mid c r)
        (mark_at new c r) (more.marks c r place) elsewhere
        ∙ so_far.marks c r place)

-- the block of a row of an interval of columns, by its first column and the column after its last one
row_block : (across : Interval) (row left right : ℕ) → left ≡ across.start → right ≡ left + across.len
    → rectangle (span_from left (right - left)) (span_from row 1) ≡ rectangle across (span_from row 1)
row_block across row left right first last =
    let count : right - left ≡ across.len = omega (arith, last) in
    ap (λ n. rectangle (span_from n (right - left)) (span_from row 1)) first
    ∙ ap (λ n. rectangle (span_from across.start n) (span_from row 1)) count

pub rows_painted : (across : Interval) (start row left right mark : ℕ) (old mid new : List ℕ)
    → left ≡ across.start → right ≡ left + across.len → start ≤ row → row < 32
    → across.start + across.len ≤ 32
    → IsPainted (rectangle across (span_from start (row - start))) mark old mid
    → IsPainted (rectangle (span_from left (right - left)) (span_from row 1)) mark mid new
    → IsPainted (rectangle across (span_from start (row + 1 - start))) mark old new
rows_painted across start row left right mark old mid new first last least north east so_far more =
    let here : start + (row - start) ≡ row = omega (arith, least) in
    let next : row - start + 1 ≡ row + 1 - start = omega (arith, least) in
    let last_row =
    subst (λ n. IsPainted (rectangle across (span_from n 1)) mark mid new) (sym here)
    (subst (λ b. IsPainted b mark mid new) (row_block across row left right first last) more) in
    subst (λ n. IsPainted (rectangle across (span_from start n)) mark old new) next
    (row_painted across start (row - start) mark old mid new east (omega (arith, here, north)) so_far
    last_row)

-- a mark in a row that isn't painted yet was there before
pub marked_before : (across upward : Interval) (row left right mark : ℕ) (old mid : List ℕ)
    → left ≡ across.start → right ≡ left + across.len → upward.start ≤ row → row < upward.start + upward.len
    → upward.start + upward.len ≤ 32 → across.start + across.len ≤ 32
    → IsPainted (rectangle across (span_from upward.start (row - upward.start))) mark old mid
    → HasMark mid (rectangle (span_from left (right - left)) (span_from row 1))
    → HasMark old (rectangle across upward)
marked_before across upward row left right mark old mid first last least below north east so_far has =
    let inside : in_rectangle (rectangle across (span_from row 1)) has.column has.row ≡ true =
    ap (λ b. in_rectangle b has.column has.row) (sym (row_block across row left right first last))
    ∙ has.inside in
    let outside :
    in_rectangle (rectangle across (span_from upward.start (row - upward.start))) has.column has.row ≡ false =
    grind (arith, nat_tests, inside, least) in
    let place : IsPlace PLACE_DIGITS has.column has.row =
    (grind (arith, nat_tests, inside, east), grind (arith, nat_tests, inside, below, north)) in
    record {
      column = has.column;
      row = has.row;
      inside = grind (arith, nat_tests, inside, least, below);
      is_marked = λ none. has.is_marked
          (is_old
          (in_rectangle (rectangle across (span_from upward.start (row - upward.start))) has.column has.row)
          mark (mark_at old has.column has.row) (mark_at mid has.column has.row)
          (so_far.marks has.column has.row place) outside
          ∙ none);
    }

-- marks before any was painted
no_mark : (n number : ℕ) → get_or (replicate n zero) number zero ≡ zero
no_mark zero zero = refl
no_mark zero (suc number) = refl
no_mark (suc n) zero = refl
no_mark (suc n) (suc number) = no_mark n number

pub no_mark_of : (n section number : ℕ)
    → get_or (get_or (replicate n (replicate 1024 zero)) section []) number zero ≡ zero
no_mark_of zero zero zero = refl
no_mark_of zero zero (suc number) = refl
no_mark_of zero (suc section) zero = refl
no_mark_of zero (suc section) (suc number) = refl
no_mark_of (suc n) zero number = no_mark 1024 number
no_mark_of (suc n) (suc section) number = no_mark_of n section number
