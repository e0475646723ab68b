-- Marks that are painted position by position.
use Rattle.std.proofs.Common.{◌≡◌, ◌==◌, ℕ, ◌+◌, ◌-◌, ◌*◌, ◌/◌, ◌%◌, ◌<◌, ◌≤◌, ◌||◌, ◌&&◌, ◌⊎◌, Bool, not}
use Rattle.std.proofs.Common.{true, false, List, get_or, nat_le}
use Rattle.std.proofs.Common.{if◌then◌else◌, refl, sym, ap, ◌∙◌, inl, inr, arith}
use Rattle.std.proofs.lemmas.Bool.{and_parts, cases_Bool, cases_lt, eq-eqb, eqb-true, false≢true}
use Rattle.std.proofs.lemmas.Bool.Decides.{nat_tests}
use Rattle.twp_grid.specs.Places.{PLACE_DIGITS, IsPlace}
use Rattle.twp_grid.specs.Spans.{Interval, IsDyadic, Rectangle, rectangle, span_from, in_rectangle}
use Rattle.twp_grid.proofs.LotFacts.{each, each_of_three}
use Rattle.twp_land.specs.LotMaps.{place_number}
use Rattle.twp_land.specs.LotMarks.{mark_at, HasMark, IsPainted}
use Rattle.twp_land.proofs.PaintFacts.{is_new, is_old}

-- two blocks painted one after the other
pub joined_painted : (first second both : Rectangle) (mark : ℕ) (old mid new : List ℕ)
    → ((c r : ℕ) → in_rectangle both c r ≡ (in_rectangle first c r || in_rectangle second c r))
    → ((c r : ℕ) → in_rectangle second c r ≡ true → IsPlace PLACE_DIGITS c r)
    → IsPainted first mark old mid → IsPainted second mark mid new → IsPainted both mark old new
joined_painted first second both mark old mid new is place so_far more = record {
  free = λ c r inside.
      was_free c r (in_rectangle first c r) refl (in_rectangle second c r) refl (sym (is c r) ∙ inside);
  marks = λ c r at. rw (is c r) (now c r at (in_rectangle first c r) refl (in_rectangle second c r) refl);
}
  where
    was_free : (c r : ℕ) (a : Bool) → in_rectangle first c r ≡ a → (b : Bool) → in_rectangle second c r ≡ b
        → (a || b) ≡ true → mark_at old c r ≡ 0
    was_free c r true here b there either = so_far.free c r here
    was_free c r false here true there either =
        sym
        (is_old (in_rectangle first c r) mark (mark_at old c r) (mark_at mid c r)
        (so_far.marks c r (place c r there)) here)
        ∙ more.free c r there
    was_free c r false here false there either = cc either

    now : (c r : ℕ) → IsPlace PLACE_DIGITS c r → (a : Bool) → in_rectangle first c r ≡ a
        → (b : Bool) → in_rectangle second c r ≡ b
        → mark_at new c r ≡ (if a || b then mark else mark_at old c r)
    now c r at true here true there =
        is_new (in_rectangle second c r) mark (mark_at mid c r) (mark_at new c r) (more.marks c r at) there
    now c r at false here true there =
        is_new (in_rectangle second c r) mark (mark_at mid c r) (mark_at new c r) (more.marks c r at) there
    now c r at true here false there =
        is_old (in_rectangle second c r) mark (mark_at mid c r) (mark_at new c r) (more.marks c r at) there
        ∙ is_new (in_rectangle first c r) mark (mark_at old c r) (mark_at mid c r) (so_far.marks c r at) here
    now c r at false here false there =
        is_old (in_rectangle second c r) mark (mark_at mid c r) (mark_at new c r) (more.marks c r at) there
        ∙ is_old (in_rectangle first c r) mark (mark_at old c r) (mark_at mid c r) (so_far.marks c r at) here

-- a mark in the second block was there before the first one was painted
pub taken_before : (first second both : Rectangle) (mark : ℕ) (old mid : List ℕ)
    → ((c r : ℕ) → in_rectangle second c r ≡ true
    → (in_rectangle both c r ≡ true) × (in_rectangle first c r ≡ false) × IsPlace PLACE_DIGITS c r)
    → IsPainted first mark old mid → HasMark mid second → HasMark old both
taken_before first second both mark old mid there so_far has =
    let at = there has.column has.row has.inside in
    record {
      column = has.column;
      row = has.row;
      inside = at.0;
      is_marked = λ none. has.is_marked
          (is_old (in_rectangle first has.column has.row) mark (mark_at old has.column has.row)
          (mark_at mid has.column has.row) (so_far.marks has.column has.row at.2) at.1
          ∙ none);
    }

-- the position with a column and a row
abbrev pub tile : ℕ → ℕ → Rectangle
tile p q = rectangle (span_from (p * 8) 8) (span_from (q * 8) 8)

in_tile : (p q c r : ℕ) → in_rectangle (tile p q) c r ≡ true
    → (p * 8 ≤ c) × (c < p * 8 + 8) × (q * 8 ≤ r) × (r < q * 8 + 8)
in_tile p q c r inside = grind (arith, nat_tests, inside)

tile_has : (p q c r : ℕ) → p * 8 ≤ c → c < p * 8 + 8 → q * 8 ≤ r → r < q * 8 + 8
    → in_rectangle (tile p q) c r ≡ true
tile_has p q c r east west south north = grind (arith, nat_tests, east, west, south, north)

-- the places of a position are numbered one after another
tile_number : (p q c r : ℕ) → in_rectangle (tile p q) c r ≡ true
    → ((q * 4 + p) * 64 ≤ place_number c r) × (place_number c r < (q * 4 + p) * 64 + 64)
tile_number p q c r inside =
    let range = in_tile p q c r inside in
    (omega (arith, range.0, range.1, range.2, range.3), omega (arith, range.0, range.1, range.2, range.3))

number_in_tile : (p q c r : ℕ) → p < 4 → IsPlace PLACE_DIGITS c r → (q * 4 + p) * 64 ≤ place_number c r
    → place_number c r < (q * 4 + p) * 64 + 64 → in_rectangle (tile p q) c r ≡ true
number_in_tile p q c r few place least less =
    let along : c < 32 = place.0 in
    let upward : r < 32 = place.1 in
    tile_has p q c r (omega (arith, few, along, upward, least, less))
    (omega (arith, few, along, upward, least, less))
    (omega (arith, few, along, upward, least, less)) (omega (arith, few, along, upward, least, less))

-- a position that is painted
pub position_painted : (p q mark : ℕ) (old new : List ℕ) → p < 4
    → ((number : ℕ) → (q * 4 + p) * 64 ≤ number → number < (q * 4 + p) * 64 + 64 → get_or old number 0 ≡ 0)
    → ((number : ℕ) → (q * 4 + p) * 64 ≤ number → number < (q * 4 + p) * 64 + 64
    → get_or new number 0 ≡ mark)
    → ((number : ℕ) → number < (q * 4 + p) * 64 → get_or new number 0 ≡ get_or old number 0)
    → ((number : ℕ) → (q * 4 + p) * 64 + 64 ≤ number → get_or new number 0 ≡ get_or old number 0)
    → IsPainted (tile p q) mark old new
position_painted p q mark old new few free painted before after = record {
  free = λ c r inside.
      let number = tile_number p q c r inside in
      free (place_number c r) number.0 number.1;
  marks = λ c r place. now c r place (cases_Bool (in_rectangle (tile p q) c r));
}
  where
    now : (c r : ℕ) → IsPlace PLACE_DIGITS c r
        → (in_rectangle (tile p q) c r ≡ true) ⊎ (in_rectangle (tile p q) c r ≡ false)
        → mark_at new c r ≡ (if in_rectangle (tile p q) c r then mark else mark_at old c r)
    now c r place (inl inside) =
        let number = tile_number p q c r inside in
        rw inside (painted (place_number c r) number.0 number.1)
    now c r place (inr outside) = rw outside (elim (cases_lt (place_number c r) ((q * 4 + p) * 64)) [
      | inl less ↦ before (place_number c r) less
      | inr least ↦ elim (cases_lt (place_number c r) ((q * 4 + p) * 64 + 64)) [
        | inl within ↦
            absurd (false≢true (sym outside ∙ number_in_tile p q c r few place (omega (arith, least)) within))
        | inr past ↦ after (place_number c r) (omega (arith, past))
      ]
    ])

pub position_taken : (p q within : ℕ) (old : List ℕ) → p < 4 → q < 4 → within < 64
    → ¬ (get_or old ((q * 4 + p) * 64 + within) 0 ≡ 0) → HasMark old (tile p q)
position_taken p q within old few few' less is = record {
  column = p * 8 + within % 8;
  row = q * 8 + within / 8;
  inside =
      tile_has p q (p * 8 + within % 8) (q * 8 + within / 8) (omega arith) (omega arith) (omega arith)
      (omega (arith, less));
  is_marked = λ none.
      let number : place_number (p * 8 + within % 8) (q * 8 + within / 8) ≡ (q * 4 + p) * 64 + within =
      omega (arith, few, few', less) in
      is (ap (λ n. get_or old n 0) (sym number) ∙ none);
}

-- the places of a position are places of a section
pub in_section : (column row c r : ℕ) → column < 4 → row < 4 → in_rectangle (tile column row) c r ≡ true
    → IsPlace PLACE_DIGITS c r
in_section column row c r few few' inside =
    let range = in_tile column row c r inside in
    (omega (arith, few, range.1), omega (arith, few', range.3))

-- one more position of a row of them
pub tier_next : (start column row mark : ℕ) (old mid new : List ℕ) → start ≤ column → column < 4 → row < 4
    → IsPainted (rectangle (span_from (start * 8) ((column - start) * 8)) (span_from (row * 8) 8)) mark old
    mid
    → IsPainted (tile column row) mark mid new
    → IsPainted (rectangle (span_from (start * 8) ((column + 1 - start) * 8)) (span_from (row * 8) 8)) mark
    old new
tier_next start column row mark old mid new least few few' so_far more =
    joined_painted (rectangle (span_from (start * 8) ((column - start) * 8)) (span_from (row * 8) 8))
    (tile column row)
    (rectangle (span_from (start * 8) ((column + 1 - start) * 8)) (span_from (row * 8) 8)) mark old mid new
    (λ c r. grind (arith, nat_tests, least))
    (λ c r inside. in_section column row c r few few' inside) so_far more

pub tier_taken : (start end column row mark : ℕ) (old mid : List ℕ) → start ≤ column → column < end → end ≤ 4
    → row < 4
    → IsPainted (rectangle (span_from (start * 8) ((column - start) * 8)) (span_from (row * 8) 8)) mark old
    mid
    → HasMark mid (tile column row)
    → HasMark old (rectangle (span_from (start * 8) ((end - start) * 8)) (span_from (row * 8) 8))
tier_taken start end column row mark old mid least less most few so_far has =
    taken_before (rectangle (span_from (start * 8) ((column - start) * 8)) (span_from (row * 8) 8))
    (tile column row) (rectangle (span_from (start * 8) ((end - start) * 8)) (span_from (row * 8) 8)) mark old
    mid
    (λ c r inside. (
      grind (arith, nat_tests, inside, least, less),
      grind (arith, nat_tests, inside, least),
      in_section column row c r (omega (arith, less, most)) few inside,
    ))
    so_far has

-- the places of a row of positions, by the columns of the first and of the one after the last
pub tier_block : (across : Interval) (start end row : ℕ) → start * 8 ≡ across.start
    → (end - start) * 8 ≡ across.len
    → rectangle (span_from (start * 8) ((end - start) * 8)) (span_from (row * 8) 8)
    ≡ rectangle across (span_from (row * 8) 8)
tier_block across start end row first long =
    ap (λ n. rectangle (span_from n ((end - start) * 8)) (span_from (row * 8) 8)) first
    ∙ ap (λ n. rectangle (span_from across.start n) (span_from (row * 8) 8)) long

-- a block of whole positions: its first column and row, and its size, in positions
pub tiers_next : (across : Interval) (start first row mark : ℕ) (old mid new : List ℕ) → first ≤ row → row < 4
    → start ≡ first * 8 → across.start + across.len ≤ 32
    → IsPainted (rectangle across (span_from start ((row - first) * 8))) mark old mid
    → IsPainted (rectangle across (span_from (row * 8) 8)) mark mid new
    → IsPainted (rectangle across (span_from start ((row + 1 - first) * 8))) mark old new
tiers_next across start first row mark old mid new least few is east so_far more =
    joined_painted (rectangle across (span_from start ((row - first) * 8)))
    (rectangle across (span_from (row * 8) 8)) (rectangle across (span_from start ((row + 1 - first) * 8)))
    mark
    old mid new
    (λ c r. grind (arith, nat_tests, least, is))
    (λ c r inside. (grind (arith, nat_tests, inside, east), grind (arith, nat_tests, inside, few))) so_far
    more

pub tiers_taken : (across upward : Interval) (first row mark : ℕ) (old mid : List ℕ) → first ≤ row
    → upward.start ≡ first * 8 → row * 8 + 8 ≤ upward.start + upward.len → upward.start + upward.len ≤ 32
    → across.start + across.len ≤ 32
    → IsPainted (rectangle across (span_from upward.start ((row - first) * 8))) mark old mid
    → HasMark mid (rectangle across (span_from (row * 8) 8)) → HasMark old (rectangle across upward)
tiers_taken across upward first row mark old mid least is below north east so_far has =
    taken_before (rectangle across (span_from upward.start ((row - first) * 8)))
    (rectangle across (span_from (row * 8) 8)) (rectangle across upward) mark old mid
    (λ c r inside. (
      grind (arith, nat_tests, inside, least, is, below),
      grind (arith, nat_tests, inside, least, is),
      (grind (arith, nat_tests, inside, east), grind (arith, nat_tests, inside, below, north)),
    ))
    so_far has

-- an interval that results from halving, and is as long as a position or longer, is made up of positions
whole_test : each 1 (λ a. each 33 (λ start. each 33 (λ len.
    not (nat_le 8 len && ((32 % len == 0) && (start % len == 0)))
    || ((start / 8 * 8 == start) && (len / 8 * 8 == len))))) ≡ true
unfolding each
whole_test = refl

pub whole_positions : (span : Interval) → IsDyadic PLACE_DIGITS span → 8 ≤ span.len
    → (span.start / 8 * 8 ≡ span.start) × (span.len / 8 * 8 ≡ span.len)
whole_positions span dyadic long =
    let within : span.start + span.len ≤ 32 = dyadic.within in
    let longer : nat_le 8 span.len ≡ true = grind (arith, nat_tests, long) in
    let divides : (32 % span.len == 0) ≡ true = eq-eqb (32 % span.len) 0 dyadic.divides in
    let aligned : (span.start % span.len == 0) ≡ true = eq-eqb (span.start % span.len) 0 dyadic.aligned in
    let all : (nat_le 8 span.len && ((32 % span.len == 0) && (span.start % span.len == 0))) ≡ true =
    rw (longer, divides, aligned) refl in
    let whole : ((span.start / 8 * 8 == span.start) && (span.len / 8 * 8 == span.len)) ≡ true =
    ap (λ t. not t || ((span.start / 8 * 8 == span.start) && (span.len / 8 * 8 == span.len))) (sym all)
    ∙ each_of_three 1 33 33
    (λ a start len.
    not (nat_le 8 len && ((32 % len == 0) && (start % len == 0)))
    || ((start / 8 * 8 == start) && (len / 8 * 8 == len))) 0 span.start span.len whole_test (omega arith)
    (omega (arith, within)) (omega (arith, within)) in
    let parts = and_parts (span.start / 8 * 8 == span.start) (span.len / 8 * 8 == span.len) whole in
    (eqb-true (span.start / 8 * 8) span.start parts.0, eqb-true (span.len / 8 * 8) span.len parts.1)
