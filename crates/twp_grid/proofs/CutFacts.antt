-- The rectangles that cuts reach, by the digits that they ask for.
use Rattle.std.proofs.Common.{◌≡◌, ℕ, zero, suc, ◌+◌, ◌-◌, ◌*◌, ◌/◌, ◌%◌, ◌^◌, ◌<◌, ◌≤◌, ◌&&◌, true}
use Rattle.std.proofs.Common.{false, List, [], ◌∷◌, ◌++◌, length, ap, refl, sym, ◌∙◌, inl, inr}
use Rattle.std.proofs.Common.{arith, length-append}
use Rattle.std.proofs.Math.Nat.{pow-succ'}
use Rattle.std.proofs.lemmas.Nat.{div-add-mod', div-mul-add, pow_pos}
use Rattle.std.proofs.lemmas.List.{append-nil}
use Rattle.std.proofs.lemmas.Bool.{cases_lt}
use Rattle.std.proofs.lemmas.Bool.Decides.{nat_tests}
use Rattle.twp_grid.specs.Places.{IsPlace, binary, begins}
use Rattle.twp_grid.specs.Spans.{Interval, in_span, lower_half, upper_half, whole_span, Rectangle}
use Rattle.twp_grid.specs.Spans.{in_rectangle}
use Rattle.twp_grid.specs.Cuts.{Cut, row_asked, column_asked, rows_asked, columns_asked, AreWithin}
use Rattle.twp_grid.specs.Cuts.{part_of, reached}
use Rattle.twp_grid.specs.Cuts.Cut.{half, quarter}
use Rattle.twp_grid.specs.declared.block.Side.TheVariants as side
use Rattle.twp_grid.specs.declared.block.Corner.TheVariants as corner

-- a span of half the side, in the half that its first digit gives
abbrev moved : ℕ → Interval → Interval
moved by span = record { start = by + span.start; len = span.len }

-- the span of the places whose digits begin with these
abbrev pub span_of : ℕ → List ℕ → Interval
span_of g [] = whole_span g
span_of zero (d ∷ asked) = whole_span zero
span_of (suc g) (d ∷ asked) = moved (d * 2 ^ g) (span_of g asked)

-- each digit is 0 or 1
abbrev pub AreDigits : List ℕ → Type 0
AreDigits [] = Unit {0}
AreDigits (d ∷ asked) = (d < 2) × AreDigits asked

same_span : (a b : Interval) → a.start ≡ b.start → a.len ≡ b.len → a ≡ b
same_span a b start len =
    let made : (s l : ℕ) → Interval = λ s l. record { start = s; len = l } in
    ap (λ s. made s a.len) start ∙ ap (λ l. made b.start l) len

pub len_span_of : (g : ℕ) (asked : List ℕ) → length asked ≤ g → (span_of g asked).len ≡ 2 ^ (g - length asked)
len_span_of g [] fits = let e : g ≡ g - 0 = omega arith in ap (λ k. 2 ^ k) e
len_span_of zero (d ∷ asked) fits = absurd (omega arith)
len_span_of (suc g) (d ∷ asked) fits =
    let less : length asked ≤ g = omega arith in
    let e : g - length asked ≡ suc g - suc (length asked) = omega arith in
    len_span_of g asked less ∙ ap (λ k. 2 ^ k) e

pub within_span_of : (g : ℕ) (asked : List ℕ) → AreDigits asked → length asked ≤ g
    → (span_of g asked).start + (span_of g asked).len ≤ 2 ^ g
within_span_of g [] digits fits = omega arith
within_span_of zero (d ∷ asked) digits fits = absurd (omega arith)
within_span_of (suc g) (zero ∷ asked) digits fits =
    let rest = within_span_of g asked digits.1 (omega arith) in
    omega (arith, pow-succ' 2 g)
within_span_of (suc g) (suc zero ∷ asked) digits fits =
    let rest = within_span_of g asked digits.1 (omega arith) in
    omega (arith, pow-succ' 2 g)
within_span_of (suc g) (suc (suc d) ∷ asked) digits fits = absurd (omega (arith, digits.0))

-- the halves of a span of digits are the spans with one more digit
lower_span_of : (g : ℕ) (asked : List ℕ) → length asked < g
    → lower_half (span_of g asked) ≡ span_of g (asked ++ 0 ∷ [])
lower_span_of zero asked fits = absurd (omega arith)
lower_span_of (suc g) [] fits = same_span _ _ (omega arith) (omega (arith, pow-succ' 2 g))
lower_span_of (suc g) (d ∷ asked) fits = ap (λ s. moved (d * 2 ^ g) s) (lower_span_of g asked (omega arith))

upper_span_of : (g : ℕ) (asked : List ℕ) → length asked < g
    → upper_half (span_of g asked) ≡ span_of g (asked ++ 1 ∷ [])
upper_span_of zero asked fits = absurd (omega arith)
upper_span_of (suc g) [] fits = same_span _ _ (omega (arith, pow-succ' 2 g)) (omega (arith, pow-succ' 2 g))
upper_span_of (suc g) (d ∷ asked) fits =
    same_span _ _ (omega arith) refl ∙ ap (λ s. moved (d * 2 ^ g) s) (upper_span_of g asked (omega arith))

-- higher digits do not affect the lower ones
binary_moved : (n times place : ℕ) → binary n (2 ^ n * times + place) ≡ binary n place
binary_moved zero times place = refl
binary_moved (suc n) times place =
    let power = pow-succ' 2 n in
    let some = pow_pos n in
    let split : place / 2 ^ n * 2 ^ n + place % 2 ^ n ≡ place = div-add-mod' place (2 ^ n) in
    let quotient = div-mul-add (2 * times + place / 2 ^ n) (2 ^ n) (place % 2 ^ n) (omega arith) in
    let product : 2 ^ suc n * times ≡ 2 * 2 ^ n * times = ap (λ p. p * times) power in
    let whole : 2 ^ suc n * times + place ≡ (2 * times + place / 2 ^ n) * 2 ^ n + place % 2 ^ n =
    omega arith in
    let other : 2 ^ suc n * times + place ≡ 2 ^ n * (2 * times) + place = omega arith in
    let even : (2 * times + place / 2 ^ n) % 2 ≡ place / 2 ^ n % 2 = omega arith in
    let head : (2 ^ suc n * times + place) / 2 ^ n % 2 ≡ place / 2 ^ n % 2 =
    ap (λ x. x / 2 ^ n % 2) whole ∙ ap (λ q. q % 2) quotient ∙ even in
    let tail : binary n (2 ^ suc n * times + place) ≡ binary n place =
    ap (λ x. binary n x) other ∙ binary_moved n (2 * times) place in
    ap (λ d. d ∷ binary n (2 ^ suc n * times + place)) head ∙ ap (λ t. (place / 2 ^ n % 2) ∷ t) tail

-- the highest digit
first_digit_low : (n place : ℕ) → place < 2 ^ n → place / 2 ^ n % 2 ≡ 0
first_digit_low n place low =
    let quotient = div-mul-add 0 (2 ^ n) place low in
    let same : 0 * 2 ^ n + place ≡ place = omega arith in
    let zero_is : place / 2 ^ n ≡ 0 = rw same at quotient in
    omega arith

first_digit_high : (n place : ℕ) → 2 ^ n ≤ place → place < 2 ^ suc n → place / 2 ^ n % 2 ≡ 1
first_digit_high n place high below =
    let power = pow-succ' 2 n in
    let quotient = div-mul-add 1 (2 ^ n) (place - 2 ^ n) (omega arith) in
    let same : 1 * 2 ^ n + (place - 2 ^ n) ≡ place = omega arith in
    let one_is : place / 2 ^ n ≡ 1 = rw same at quotient in
    omega arith

in_moved : (span : Interval) (by place less : ℕ) → place ≡ by + less
    → in_span (moved by span) place ≡ in_span span less
in_moved span by place less is = grind (arith, nat_tests)

in_moved_below : (span : Interval) (by place : ℕ) → place < by → in_span (moved by span) place ≡ false
in_moved_below span by place below = grind (arith, nat_tests)

in_span_above : (span : Interval) (place : ℕ) → span.start + span.len ≤ place → in_span span place ≡ false
in_span_above span place above = grind (arith, nat_tests)

in_whole_span : (side place : ℕ) → place < side → in_span (record { start = 0; len = side }) place ≡ true
in_whole_span side place below = grind (arith, nat_tests)

-- a span contains the places whose first digits are its own
pub in_span_of : (g : ℕ) (asked : List ℕ) (place : ℕ) → AreDigits asked → length asked ≤ g → place < 2 ^ g
    → in_span (span_of g asked) place ≡ begins asked (binary g place)
in_span_of g [] place digits fits below = in_whole_span (2 ^ g) place below
in_span_of zero (d ∷ asked) place digits fits below = absurd (omega arith)
in_span_of (suc g) (zero ∷ asked) place digits fits below =
    let less : length asked ≤ g = omega arith in
    elim (cases_lt place (2 ^ g)) [
      | inl low ↦
          rw (first_digit_low g place low)
          (in_moved (span_of g asked) (0 * 2 ^ g) place place (omega arith)
          ∙ in_span_of g asked place digits.1 less low)
      | inr high ↦
          let ends = within_span_of g asked digits.1 less in
          rw (first_digit_high g place high below)
          (in_span_above (moved (0 * 2 ^ g) (span_of g asked)) place (omega arith))
    ]
in_span_of (suc g) (suc zero ∷ asked) place digits fits below =
    let less : length asked ≤ g = omega arith in
    let power = pow-succ' 2 g in
    elim (cases_lt place (2 ^ g)) [
      | inl low ↦
          rw (first_digit_low g place low) (in_moved_below (span_of g asked) (1 * 2 ^ g) place (omega arith))
      | inr high ↦
          let rest = place - 2 ^ g in
          let same : 2 ^ g * 1 + rest ≡ place = omega arith in
          let lower = rw same at (binary_moved g 1 rest) in
          rw (first_digit_high g place high below) (
          in_moved (span_of g asked) (1 * 2 ^ g) place rest (omega arith)
          ∙ in_span_of g asked rest digits.1 less (omega arith)
          ∙ ap (λ b. begins asked b) (sym lower)
          )
    ]
in_span_of (suc g) (suc (suc d) ∷ asked) place digits fits below = absurd (omega (arith, digits.0))

-- one digit, or none
abbrev IsDigitAtMost : List ℕ → Type 0
IsDigitAtMost [] = Unit {0}
IsDigitAtMost (d ∷ []) = d < 2
IsDigitAtMost (d ∷ e ∷ more) = ⊥

-- the rest of a span when one digit is asked for, or none
abbrev narrowed : List ℕ → Interval → Interval
narrowed [] span = span
narrowed (zero ∷ more) span = lower_half span
narrowed (suc d ∷ more) span = upper_half span

narrowed_span : (g : ℕ) (asked more : List ℕ) → IsDigitAtMost more → length (asked ++ more) ≤ g
    → narrowed more (span_of g asked) ≡ span_of g (asked ++ more)
narrowed_span g asked [] digit fits = ap (λ ds. span_of g ds) (sym (append-nil asked))
narrowed_span g asked (zero ∷ []) digit fits =
    lower_span_of g asked (omega (arith, length-append asked (0 ∷ [])))
narrowed_span g asked (suc zero ∷ []) digit fits =
    upper_span_of g asked (omega (arith, length-append asked (1 ∷ [])))
narrowed_span g asked (suc (suc d) ∷ []) digit fits = absurd (omega (arith, digit))
narrowed_span g asked (d ∷ e ∷ more) digit fits = absurd digit

row_digit : (cut : Cut) → IsDigitAtMost (row_asked cut)
row_digit (half side.N) = omega arith
row_digit (half side.S) = omega arith
row_digit (half side.E) = tt
row_digit (half side.W) = tt
row_digit (quarter corner.NE) = omega arith
row_digit (quarter corner.NW) = omega arith
row_digit (quarter corner.SW) = omega arith
row_digit (quarter corner.SE) = omega arith

column_digit : (cut : Cut) → IsDigitAtMost (column_asked cut)
column_digit (half side.N) = tt
column_digit (half side.S) = tt
column_digit (half side.E) = omega arith
column_digit (half side.W) = omega arith
column_digit (quarter corner.NE) = omega arith
column_digit (quarter corner.NW) = omega arith
column_digit (quarter corner.SW) = omega arith
column_digit (quarter corner.SE) = omega arith

rows_of_part : (block : Rectangle) (cut : Cut)
    → (part_of block cut).rows ≡ narrowed (row_asked cut) block.rows
rows_of_part block (half side.N) = refl
rows_of_part block (half side.S) = refl
rows_of_part block (half side.E) = refl
rows_of_part block (half side.W) = refl
rows_of_part block (quarter corner.NE) = refl
rows_of_part block (quarter corner.NW) = refl
rows_of_part block (quarter corner.SW) = refl
rows_of_part block (quarter corner.SE) = refl

columns_of_part : (block : Rectangle) (cut : Cut)
    → (part_of block cut).columns ≡ narrowed (column_asked cut) block.columns
columns_of_part block (half side.N) = refl
columns_of_part block (half side.S) = refl
columns_of_part block (half side.E) = refl
columns_of_part block (half side.W) = refl
columns_of_part block (quarter corner.NE) = refl
columns_of_part block (quarter corner.NW) = refl
columns_of_part block (quarter corner.SW) = refl
columns_of_part block (quarter corner.SE) = refl

pub rows_reached : (g : ℕ) (cuts : List Cut) → length (rows_asked cuts) ≤ g
    → (reached g cuts).rows ≡ span_of g (rows_asked cuts)
rows_reached g [] fits = refl
rows_reached g (cut ∷ before) fits =
    let less : length (rows_asked before) ≤ g =
    omega (arith, length-append (rows_asked before) (row_asked cut)) in
    rows_of_part (reached g before) cut
    ∙ ap (λ s. narrowed (row_asked cut) s) (rows_reached g before less)
    ∙ narrowed_span g (rows_asked before) (row_asked cut) (row_digit cut) fits

pub columns_reached : (g : ℕ) (cuts : List Cut) → length (columns_asked cuts) ≤ g
    → (reached g cuts).columns ≡ span_of g (columns_asked cuts)
columns_reached g [] fits = refl
columns_reached g (cut ∷ before) fits =
    let less : length (columns_asked before) ≤ g =
    omega (arith, length-append (columns_asked before) (column_asked cut)) in
    columns_of_part (reached g before) cut
    ∙ ap (λ s. narrowed (column_asked cut) s) (columns_reached g before less)
    ∙ narrowed_span g (columns_asked before) (column_asked cut) (column_digit cut) fits

AreDigits-more : (asked more : List ℕ) → AreDigits asked → IsDigitAtMost more → AreDigits (asked ++ more)
AreDigits-more [] [] digits digit = tt
AreDigits-more [] (d ∷ []) digits digit = (digit, tt)
AreDigits-more [] (d ∷ e ∷ more) digits digit = absurd digit
AreDigits-more (d ∷ asked) more digits digit = (digits.0, AreDigits-more asked more digits.1 digit)

pub rows_are_digits : (cuts : List Cut) → AreDigits (rows_asked cuts)
rows_are_digits [] = tt
rows_are_digits (cut ∷ before) =
    AreDigits-more (rows_asked before) (row_asked cut) (rows_are_digits before) (row_digit cut)

pub columns_are_digits : (cuts : List Cut) → AreDigits (columns_asked cuts)
columns_are_digits [] = tt
columns_are_digits (cut ∷ before) =
    AreDigits-more (columns_asked before) (column_asked cut) (columns_are_digits before) (column_digit cut)

-- the rectangle that cuts reach contains exactly the places with the digits asked for
pub held_as_asked : (g : ℕ) (cuts : List Cut) → AreWithin g cuts → (column row : ℕ) → IsPlace g column row
    → in_rectangle (reached g cuts) column row
    ≡ (begins (columns_asked cuts) (binary g column) && begins (rows_asked cuts) (binary g row))
held_as_asked g cuts within column row place =
    let across : in_span (reached g cuts).columns column ≡ begins (columns_asked cuts) (binary g column) =
    ap (λ s. in_span s column) (columns_reached g cuts within.columns)
    ∙ in_span_of g (columns_asked cuts) column (columns_are_digits cuts) within.columns place.0 in
    let upward : in_span (reached g cuts).rows row ≡ begins (rows_asked cuts) (binary g row) =
    ap (λ s. in_span s row) (rows_reached g cuts within.rows)
    ∙ in_span_of g (rows_asked cuts) row (rows_are_digits cuts) within.rows place.1 in
    ap (λ b. b && in_span (reached g cuts).rows row) across
    ∙ ap (λ b. begins (columns_asked cuts) (binary g column) && b) upward

-- the lengths of its sides
pub sides_as_asked : (g : ℕ) (cuts : List Cut) → AreWithin g cuts
    → ((reached g cuts).columns.len ≡ 2 ^ (g - length (columns_asked cuts)))
    × ((reached g cuts).rows.len ≡ 2 ^ (g - length (rows_asked cuts)))
sides_as_asked g cuts within = (
  ap (λ s. s.len) (columns_reached g cuts within.columns) ∙ len_span_of g (columns_asked cuts) within.columns,
  ap (λ s. s.len) (rows_reached g cuts within.rows) ∙ len_span_of g (rows_asked cuts) within.rows,
)
