-- Positions, lots and places.
use Rattle.std.proofs.Common.{◌≡◌, ◌==◌, ℕ, zero, suc, ◌+◌, ◌*◌, ◌%◌, ◌<◌, ◌≤◌, ◌&&◌, ◌||◌, ◌⊎◌}
use Rattle.std.proofs.Common.{◌↔◌, Bool, true, false, ap, refl, sym, ◌∙◌, inl, inr, arith, count_by}
use Rattle.std.proofs.Math.Path.{fun_ext}
use Rattle.std.proofs.Math.Nat.{pow-succ'}
use Rattle.std.proofs.lemmas.Nat.{div-add-mod', mul-le, mod_below, div_below}
use Rattle.std.proofs.lemmas.Bool.{cases_lt, cases_eq, eqb-true, ne_eqb, and_parts, eq-eqb}
use Rattle.std.proofs.lemmas.Bool.Decides.{nat_tests}
use Rattle.twp_grid.specs.Winding.{IsSection}
use Rattle.twp_grid.specs.Lots.{POSITIONS_ACROSS, IsPosition, Lot, lots, lot_at_position}
use Rattle.twp_grid.specs.Places.{places_across, places_to_position, IsPlace, position_along}
use Rattle.twp_grid.specs.Spans.{in_span, in_rectangle, position_span, position_block}
use Rattle.twp_grid.specs.Spans.{total, one_where}
use Rattle.twp_grid.specs.Tiling.{lots_filling, is_regular, lots_holding, regular_holding}
use Rattle.twp_grid.proofs.LotFacts.{each, each_of_three, either, a_section}
use Rattle.twp_grid.proofs.TotalFacts.{total-ext, total-all_zero}

-- a position has places, and four positions are a side
pub position_has_places : (g : ℕ) → POSITIONS_ACROSS ≤ places_across g
    → (0 < places_to_position g) × (places_across g ≡ 4 * places_to_position g)
position_has_places zero fits = absurd (omega arith)
position_has_places (suc zero) fits = absurd (omega arith)
position_has_places (suc (suc g)) fits =
    let outer = pow-succ' 2 (suc g) in
    let inner = pow-succ' 2 g in
    (omega arith, omega arith)

-- the span of a position contains the numbers with its quotient
in_position : (g position place : ℕ) → 0 < places_to_position g
    → in_span (position_span g position) place ≡ (position == position_along g place)
in_position g position place some =
    let size = places_to_position g in
    let quotient = position_along g place in
    let split : quotient * size + place % size ≡ place = div-add-mod' place size in
    let rest : place % size < size = mod_below place size some in
    elim (cases_lt position quotient) [
      | inl below ↦
          let least = mul-le (position + 1) size quotient size (omega arith) (omega arith) in
          let above : position * size + size ≤ place = omega arith in
          let out : in_span (position_span g position) place ≡ false = grind (arith, nat_tests) in
          out ∙ sym (ne_eqb position quotient (λ e. absurd (omega arith)))
      | inr further ↦ elim (cases_lt quotient position) [
        | inl above ↦
            let least = mul-le (quotient + 1) size position size (omega arith) (omega arith) in
            let beneath : place < position * size = omega arith in
            let out : in_span (position_span g position) place ≡ false = grind (arith, nat_tests) in
            out ∙ sym (ne_eqb position quotient (λ e. absurd (omega arith)))
        | inr no_further ↦
            let same : position ≡ quotient = omega arith in
            let product : position * size ≡ quotient * size = ap (λ q. q * size) same in
            let from : position * size ≤ place = omega arith in
            let to : place < position * size + size = omega arith in
            let there : in_span (position_span g position) place ≡ true = grind (arith, nat_tests) in
            there ∙ sym (ap (λ q. position == q) (sym same) ∙ eq-eqb position position refl)
      ]
    ]

position_range : (g place : ℕ) → POSITIONS_ACROSS ≤ places_across g → place < places_across g
    → position_along g place < POSITIONS_ACROSS
position_range g place fits below =
    let has = position_has_places g fits in
    div_below place (places_to_position g) 4 has.0 (omega (arith, has.1))

in_block : (g c r column row : ℕ) → 0 < places_to_position g
    → in_rectangle (position_block g c r) column row
    ≡ ((c == position_along g column) && (r == position_along g row))
in_block g c r column row some =
    ap (λ b. b && in_span (position_span g r) row) (in_position g c column some)
    ∙ ap (λ b. (c == position_along g column) && b) (in_position g r row some)

-- each place lies in one position of its section
pub one_position : (g : ℕ) → POSITIONS_ACROSS ≤ places_across g → (column row : ℕ) → IsPlace g column row
    → IsPosition (position_along g column) (position_along g row)
    × ((c r : ℕ)
    → (in_rectangle (position_block g c r) column row ≡ true)
    ↔ ((c ≡ position_along g column) × (r ≡ position_along g row)))
one_position g fits column row place =
    let some = (position_has_places g fits).0 in (
      (position_range g column fits place.0, position_range g row fits place.1),
      λ c r. (
        λ inside.
            let parts =
            and_parts (c == position_along g column) (r == position_along g row)
            (sym (in_block g c r column row some) ∙ inside) in
            (eqb-true _ _ parts.0, eqb-true _ _ parts.1),
        λ same.
            in_block g c r column row some
            ∙ ap (λ b. b && (r == position_along g row))
            (ap (λ q. q == position_along g column) same.0
            ∙ eq-eqb (position_along g column) (position_along g column) refl)
            ∙ ap (λ q. q == position_along g row) same.1
            ∙ eq-eqb (position_along g row) (position_along g row) refl,
      ),
    )

-- one lot and not regular, or no lot and regular
abbrev is_one_or_none : ℕ → Bool → Bool
is_one_or_none n true = n == 0
is_one_or_none n false = n == 1

one_or_none : (n : ℕ) (regular : Bool) → is_one_or_none n regular ≡ true
    → ((n ≡ 1) × (regular ≡ false)) ⊎ ((n ≡ 0) × (regular ≡ true))
one_or_none n true test = inr (eqb-true n 0 test, refl)
one_or_none n false test = inl (eqb-true n 1 test, refl)

position_test : each 37
    (λ s. each 4 (λ c. each 4 (λ r. (s == 0) || is_one_or_none (lots_filling s c r) (is_regular s c r))))
    ≡ true
unfolding each lots lot_at_position
position_test = refl

-- each position is one lot or is regular, never both
pub lot_or_regular : (section column row : ℕ) → IsSection section → IsPosition column row
    → ((lots_filling section column row ≡ 1) × (is_regular section column row ≡ false))
    ⊎ ((lots_filling section column row ≡ 0) × (is_regular section column row ≡ true))
lot_or_regular section column row range position =
    one_or_none (lots_filling section column row) (is_regular section column row) (
    either (section == 0) _
    (each_of_three 37 4 4 (λ s c r. (s == 0) || is_one_or_none (lots_filling s c r) (is_regular s c r))
    section column row position_test (omega (arith, range.1)) position.0 position.1)
    (a_section section range)
    )

-- of all terms, only the one at an index counts
total_picked : (n at : ℕ) (test : ℕ → Bool) → at < n
    → total n (λ k. one_where (test k && (k == at))) ≡ one_where (test at)
unfolding total
total_picked zero at test below = absurd (omega arith)
total_picked (suc n) at test below = elim (cases_eq n at) [
  | inl here ↦
      let lower : total n (λ k. one_where (test k && (k == at))) ≡ 0 =
      total-all_zero n _ (λ k lt. none k (ne_eqb k at (λ e. absurd (omega arith)))) in
      let last : one_where (test n && (n == at)) ≡ one_where (test at) =
      ap (λ b. one_where (test n && b)) (ap (λ k. n == k) (sym here) ∙ eq-eqb n n refl)
      ∙ and_true n
      ∙ ap (λ k. one_where (test k)) here in
      omega arith
  | inr other ↦
      let rest = total_picked n at test (omega arith) in
      let last = none n (ne_eqb n at other) in
      omega arith
]
  where
    none : (k : ℕ) → (k == at) ≡ false → one_where (test k && (k == at)) ≡ 0
    none k differs = ap (λ b. one_where (test k && b)) differs ∙ and_false (test k)
      where
        and_false : (b : Bool) → one_where (b && false) ≡ 0
        and_false true = refl
        and_false false = refl

    and_true : (k : ℕ) → one_where (test k && true) ≡ one_where (test k)
    and_true k = go (test k)
      where
        go : (b : Bool) → one_where (b && true) ≡ one_where b
        go true = refl
        go false = refl

regroup : (a b c : Bool) → (a && (b && c)) ≡ ((a && c) && b)
regroup true true c = go c
  where
    go : (c : Bool) → c ≡ (c && true)
    go true = refl
    go false = refl
regroup true false c = go c
  where
    go : (c : Bool) → false ≡ (c && false)
    go true = refl
    go false = refl
regroup false b c = refl

lots_holding_is : (g section column row : ℕ) → 0 < places_to_position g
    → lots_holding g section column row
    ≡ lots_filling section (position_along g column) (position_along g row)
lots_holding_is g section column row some =
    ap (λ (p : Lot → Bool). count_by p lots)
    (fun_ext (λ l. ap (λ b. (l.section == section) && b) (in_block g l.column l.row column row some)))

regular_holding_is : (g section column row : ℕ) → 0 < places_to_position g
    → IsPosition (position_along g column) (position_along g row)
    → regular_holding g section column row
    ≡ one_where (is_regular section (position_along g column) (position_along g row))
regular_holding_is g section column row some range =
    let c' = position_along g column in
    let r' = position_along g row in
    total-ext 4 _ (λ up. one_where (is_regular section c' up && (up == r'))) (λ up below.
    total-ext 4 _ (λ along. one_where ((is_regular section along up && (up == r')) && (along == c')))
    (λ along lt.
    ap (λ b. one_where b)
    (ap (λ b. is_regular section along up && b) (in_block g along up column row some)
    ∙ regroup (is_regular section along up) (along == c') (up == r')))
    ∙ total_picked 4 c' (λ along. is_regular section along up && (up == r')) range.0)
    ∙ total_picked 4 r' (λ up. is_regular section c' up) range.1

-- a section's lots and regular positions contain each of its places exactly once
pub held_once : (g : ℕ) → POSITIONS_ACROSS ≤ places_across g → (section column row : ℕ) → IsSection section
    → IsPlace g column row
    → lots_holding g section column row + regular_holding g section column row ≡ 1
held_once g fits section column row range place =
    let some = (position_has_places g fits).0 in
    let position = (one_position g fits column row place).0 in
    let by_lots = lots_holding_is g section column row some in
    let by_regular = regular_holding_is g section column row some position in
    elim (lot_or_regular section (position_along g column) (position_along g row) range position) [
      | inl lot ↦ let none = by_regular ∙ ap (λ b. one_where b) lot.1 in omega (arith, lot.0, by_lots)
      | inr regular ↦
          let one = by_regular ∙ ap (λ b. one_where b) regular.1 in omega (arith, regular.0, by_lots)
    ]
