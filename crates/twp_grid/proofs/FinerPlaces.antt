-- Places that are each divided into four: their digits, their positions, and sums over them.
use Rattle.std.proofs.Common.{◌≡◌, ◌==◌, ℕ, zero, suc, ◌+◌, ◌*◌, ◌/◌, ◌%◌, ◌^◌, ◌≤◌, ◌&&◌, List, [], ◌∷◌}
use Rattle.std.proofs.Common.{◌++◌, length, nat_lt, refl, sym, ap, ◌∙◌, arith}
use Rattle.std.proofs.Math.Nat.{pow-succ', div-div-eq-div-mul, div-one}
use Rattle.std.proofs.lemmas.Bool.Decides.{nat_tests}
use Rattle.twp_grid.specs.Lots.{POSITIONS_ACROSS}
use Rattle.twp_grid.specs.Places.{places_across, places_to_position, is_place, position_along, binary, begins}
use Rattle.twp_grid.specs.Spans.{span_from, rectangle, whole_block, position_span, position_block}
use Rattle.twp_grid.specs.Spans.{total, total_over}
use Rattle.twp_grid.proofs.TilingFacts.{position_has_places}
use Rattle.twp_grid.proofs.TotalFacts.{total-ext, total-scale}

-- the digits of a number: those of its half, and whether it is odd
pub halved : (n h : ℕ) → n / 2 ^ suc h ≡ n / 2 / 2 ^ h
halved n h = ap (λ p. n / p) (pow-succ' 2 h) ∙ sym (div-div-eq-div-mul n 2 (2 ^ h))

pub binary_last : (g n : ℕ) → binary (suc g) n ≡ binary g (n / 2) ++ (n % 2) ∷ []
binary_last zero n = ap (λ m. (m % 2) ∷ []) (div-one n)
binary_last (suc g) n =
    ap (λ m. (m % 2) ∷ binary (suc g) n) (halved n g)
    ∙ ap (λ digits. (n / 2 / 2 ^ g % 2) ∷ digits) (binary_last g n)

pub length_binary : (g n : ℕ) → length (binary g n) ≡ g
length_binary zero n = refl
length_binary (suc g) n = ap suc (length_binary g n)

begins_longer : (asked digits more : List ℕ) → length asked ≤ length digits
    → begins asked (digits ++ more) ≡ begins asked digits
begins_longer [] digits more fits = refl
begins_longer (d ∷ asked) [] more fits = absurd (omega arith)
begins_longer (d ∷ asked) (e ∷ digits) more fits =
    ap (λ b. (d == e) && b) (begins_longer asked digits more (omega arith))

-- one more digit makes no difference if only the other digits are asked for
pub axis_coarser : (g : ℕ) (asked : List ℕ) (n : ℕ) → length asked ≤ g
    → begins asked (binary (suc g) n) ≡ begins asked (binary g (n / 2))
axis_coarser g asked n fits =
    ap (λ digits. begins asked digits) (binary_last g n)
    ∙ begins_longer asked (binary g (n / 2)) ((n % 2) ∷ []) (rw length_binary fits)

-- a place, and the position that it lies in
pub same_place : (g column row : ℕ) → is_place (suc g) column row ≡ is_place g (column / 2) (row / 2)
same_place g column row =
    ap (λ b. b && nat_lt row (2 ^ suc g)) (along column)
    ∙ ap (λ b. nat_lt (column / 2) (2 ^ g) && b) (along row)
  where
    along : (n : ℕ) → nat_lt n (2 ^ suc g) ≡ nat_lt (n / 2) (2 ^ g)
    along n = let power = pow-succ' 2 g in grind (arith, nat_tests)

pub position_twice : (g : ℕ) → POSITIONS_ACROSS ≤ places_across g
    → places_to_position (suc g) ≡ 2 * places_to_position g
position_twice g fits =
    let power = pow-succ' 2 g in
    let has = (position_has_places g fits).1 in
    omega arith

pub same_position : (g place : ℕ) → POSITIONS_ACROSS ≤ places_across g
    → position_along (suc g) place ≡ position_along g (place / 2)
same_position g place fits =
    ap (λ side. place / side) (position_twice g fits)
    ∙ sym (div-div-eq-div-mul place 2 (places_to_position g))

-- each term twice
total_twice : (n : ℕ) (f : ℕ → ℕ) → total (2 * n) (λ k. f (k / 2)) ≡ 2 * total n f
unfolding total
total_twice zero f = refl
total_twice (suc n) f =
    let rest = total_twice n f in
    let twice : 2 * suc n ≡ suc (suc (2 * n)) = omega arith in
    let even : 2 * n / 2 ≡ n = omega arith in
    let odd : suc (2 * n) / 2 ≡ n = omega arith in
    let even_term : f (2 * n / 2) ≡ f n = ap f even in
    let odd_term : f (suc (2 * n) / 2) ≡ f n = ap f odd in
    rw twice (omega arith)

total_twice_from : (s n : ℕ) (f : ℕ → ℕ)
    → total (2 * n) (λ k. f ((2 * s + k) / 2)) ≡ 2 * total n (λ k. f (s + k))
total_twice_from s n f =
    total-ext (2 * n) (λ k. f ((2 * s + k) / 2)) (λ k. f (s + k / 2)) (λ k _. ap f (omega arith))
    ∙ total_twice n (λ k. f (s + k))

-- the sum over a rectangle, each term four times
over_finer : (s t m n : ℕ) (f : ℕ → ℕ → ℕ)
    → total_over (rectangle (span_from (2 * s) (2 * m)) (span_from (2 * t) (2 * n))) (λ column row.
    f (column / 2) (row / 2)) ≡ 4 * total_over (rectangle (span_from s m) (span_from t n)) f
over_finer s t m n f =
    let in_row : ℕ → ℕ = λ row. total m (λ along. f (s + along) row) in
    total-ext (2 * n) (λ up. total (2 * m) (λ along. f ((2 * s + along) / 2) ((2 * t + up) / 2)))
    (λ up. 2 * in_row ((2 * t + up) / 2))
    (λ up _. total_twice_from s m (λ column. f column ((2 * t + up) / 2)))
    ∙ total-scale (2 * n) 2 (λ up. in_row ((2 * t + up) / 2))
    ∙ ap (λ sum. 2 * sum) (total_twice_from t n in_row)
    ∙ four (total n (λ up. in_row (t + up)))
  where
    four : (sum : ℕ) → 2 * (2 * sum) ≡ 4 * sum
    four sum = omega arith

-- the sum over the places of a section, each term four times
pub whole_finer : (g : ℕ) (f : ℕ → ℕ → ℕ)
    → total_over (whole_block (suc g)) (λ column row. f (column / 2) (row / 2))
    ≡ 4 * total_over (whole_block g) f
whole_finer g f =
    ap (λ side. total_over (rectangle (span_from 0 side) (span_from 0 side)) (λ column row.
    f (column / 2) (row / 2)))
    (pow-succ' 2 g)
    ∙ over_finer 0 0 (places_across g) (places_across g) f

-- the sum over the places of a position, each term four times
pub position_finer : (g column row : ℕ) (f : ℕ → ℕ → ℕ) → POSITIONS_ACROSS ≤ places_across g
    → total_over (position_block (suc g) column row) (λ column row. f (column / 2) (row / 2))
    ≡ 4 * total_over (position_block g column row) f
position_finer g column row f fits =
    ap (λ block. total_over block (λ column row. f (column / 2) (row / 2)))
    (ap (λ columns. rectangle columns (position_span (suc g) row)) (span column)
    ∙ ap (λ rows. rectangle (span_from (2 * (column * side)) (2 * side)) rows) (span row))
    ∙ over_finer (column * side) (row * side) side side f
  where
    side : ℕ
    side = places_to_position g

    span : (at : ℕ)
        → position_span (suc g) at ≡ span_from (2 * (at * places_to_position g)) (2 * places_to_position g)
    span at =
        ap (λ n. span_from (at * n) n) (position_twice g fits)
        ∙ ap (λ start. span_from start (2 * places_to_position g)) (order at (places_to_position g))
      where
        order : (at side : ℕ) → at * (2 * side) ≡ 2 * (at * side)
        order at side = omega arith
