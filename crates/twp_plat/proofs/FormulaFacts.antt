-- Interpolation between a section's lines gives the formula's result.
use Rattle.std.proofs.Common.{◌≡◌, ◌==◌, ℕ, zero, suc, ◌+◌, ◌-◌, ◌*◌, ◌≤◌, ◌<◌, pos, ◌+ℤ◌, ◌-ℤ◌}
use Rattle.std.proofs.Common.{◌*ℤ◌, refl, ap, sym, arith, if◌then◌else◌}
use Rattle.twp_plat.specs.Plats.{ClosingQuarters}
use Rattle.twp_plat.specs.Pieces.{Ratio, ratio, times, IsSame}
use Rattle.twp_plat.specs.Pieces.{quarter_mile, reach, line_length, mean_width, mean_height, piece}
use Rattle.twp_plat.specs.Formula.{west_length, north_length, both_ends, both_widths, both_heights}
use Rattle.twp_plat.specs.Formula.{formula}
use Rattle.twp_plat.proofs.StraightFacts.{weighted, IsMeanOf, mean_straight}

-- a number less than 4 is 0, 1, 2, or 3
pub under_four : (P : ℕ → Type 0) (n : ℕ) → n < 4 → P 0 → P 1 → P 2 → P 3 → P n
under_four P zero _ first second third fourth = first
under_four P (suc zero) _ first second third fourth = second
under_four P (suc (suc zero)) _ first second third fourth = third
under_four P (suc (suc (suc zero))) _ first second third fourth = fourth
under_four P (suc (suc (suc (suc n)))) below first second third fourth = absurd (omega arith)

-- both ends of a quarter mile are within its line
pub reach_within : (closing number : ℕ) → number < 4
    → (reach closing number ≤ 60000 + closing) × (reach closing (number + 1) ≤ 60000 + closing)
reach_within closing number below =
    under_four (λ n. (reach closing n ≤ 60000 + closing) × (reach closing (n + 1) ≤ 60000 + closing)) number
    below
    (omega arith, omega arith) (omega arith, omega arith) (omega arith, omega arith)
    (omega arith, omega arith)

-- the distances of a quarter mile's ends from the line's start
ends_are : (closing number : ℕ) → number < 4
    → reach closing number + reach closing (number + 1) ≡ both_ends (60000 + closing) number
ends_are closing number below =
    under_four (λ n. reach closing n + reach closing (n + 1) ≡ both_ends (60000 + closing) n) number below
    refl refl refl refl

-- The sum of a length's values at two distances from a line's start, after which k and k' remain.
-- In the last column or row the length varies from one closing quarter to another; in the others it
-- is a quarter mile.
pub both_are : (a b k x k' x' along ends number : ℕ) → number < 4 → k + x ≡ along → k' + x' ≡ along
    → x + x' ≡ ends
    → (if number == 3 then pos (2 * a * along) +ℤ (pos b -ℤ pos a) *ℤ pos ends else pos (40000 * along))
    ≡ pos (quarter_mile a number * (k + k') + quarter_mile b number * (x + x'))
both_are a b k x k' x' along ends number below parts parts' whole =
    let even : 40000 * along ≡ 20000 * (k + k') + 20000 * (x + x') = omega arith in
    let total : (k + k') + (x + x') ≡ 2 * along = omega arith in
    let twice : a * ((k + k') + (x + x')) ≡ 2 * a * along = rw total (omega arith) in
    let last : pos (2 * a * along) +ℤ (pos b -ℤ pos a) *ℤ pos ends ≡ pos (a * (k + k') + b * (x + x')) =
    rw (sym whole, sym twice) (sym (weighted a b (k + k') (x + x'))) in
    under_four
    (λ n. (if n == 3 then pos (2 * a * along) +ℤ (pos b -ℤ pos a) *ℤ pos ends else pos (40000 * along))
    ≡ pos (quarter_mile a n * (k + k') + quarter_mile b n * (x + x'))) number below
    (ap pos even) (ap pos even) (ap pos even) last

-- a position's widths: their sum is the formula's
record Widths (q : ClosingQuarters) (column row : ℕ) : Type 0 where
  parts : ℕ
  sum_is : both_widths q column row ≡ pos parts
  is_mean : IsMeanOf (mean_width q column row) (line_length q.west) parts

widths_are : (q : ClosingQuarters) (column row : ℕ) → column < 4 → row < 4 → Widths q column row
widths_are q column row in_column in_row =
    let x : ℕ = reach q.west row in
    let x' : ℕ = reach q.west (row + 1) in
    let k : ℕ = line_length q.west - x in
    let k' : ℕ = line_length q.west - x' in
    let within = reach_within q.west row in_row in
    let parts : k + x ≡ line_length q.west = omega (arith, within.0) in
    let parts' : k' + x' ≡ line_length q.west = omega (arith, within.1) in
    record {
      parts = quarter_mile q.south column * (k + k') + quarter_mile q.north column * (x + x');
      sum_is =
          both_are q.south q.north k x k' x' (west_length q) (both_ends (west_length q) row) column in_column
          parts parts' (ends_are q.west row in_row);
      is_mean =
          mean_straight (quarter_mile q.south column) (quarter_mile q.north column) k x k' x'
          (line_length q.west) parts parts';
    }

-- a position's heights: their sum is the formula's
record Heights (q : ClosingQuarters) (column row : ℕ) : Type 0 where
  parts : ℕ
  sum_is : both_heights q column row ≡ pos parts
  is_mean : IsMeanOf (mean_height q column row) (line_length q.north) parts

heights_are : (q : ClosingQuarters) (column row : ℕ) → column < 4 → row < 4 → Heights q column row
heights_are q column row in_column in_row =
    let x : ℕ = reach q.north column in
    let x' : ℕ = reach q.north (column + 1) in
    let k : ℕ = line_length q.north - x in
    let k' : ℕ = line_length q.north - x' in
    let within = reach_within q.north column in_column in
    let parts : k + x ≡ line_length q.north = omega (arith, within.0) in
    let parts' : k' + x' ≡ line_length q.north = omega (arith, within.1) in
    record {
      parts = quarter_mile q.east row * (k + k') + quarter_mile q.west row * (x + x');
      sum_is =
          both_are q.east q.west k x k' x' (north_length q) (both_ends (north_length q) column) row in_row
          parts parts' (ends_are q.north column in_column);
      is_mean =
          mean_straight (quarter_mile q.east row) (quarter_mile q.west row) k x k' x' (line_length q.north)
          parts parts';
    }

-- the product of two means
product_is : (w h : Ratio) (p q m n : ℕ) → IsMeanOf w p m → IsMeanOf h q n
    → IsSame (times w h) (ratio (pos m *ℤ pos n) (4 * p * q))
product_is w h p q m n mean-w mean-h =
    rw (mean-w.numerator, mean-w.denominator, mean-h.numerator, mean-h.denominator) (ap pos (omega arith))

pub piece_is_formula : (q : ClosingQuarters) (column row : ℕ) → column < 4 → row < 4
    → IsSame (piece q column row) (formula q column row)
unfolding piece
piece_is_formula q column row in_column in_row =
    let widths = widths_are q column row in_column in_row in
    let heights = heights_are q column row in_column in_row in
    rw (widths.sum_is, heights.sum_is)
    (product_is (mean_width q column row) (mean_height q column row) (line_length q.west)
    (line_length q.north) widths.parts heights.parts widths.is_mean heights.is_mean)

-- a piece's numerator and its number of parts, of which the section's divisor makes one unit;
-- neither is negative
pub record PieceTerms (q : ClosingQuarters) (column row : ℕ) : Type 0 where
  pub top : ℕ
  pub numerator : (piece q column row).numerator ≡ pos top
  pub parts : ℕ
  pub in_parts : IsSame (piece q column row)
      (ratio (pos parts) (4 * line_length q.north * line_length q.west))
  pub some : 0 < (piece q column row).denominator

positive : (p q : ℕ) → 0 < 2 * ((60000 + p) * (60000 + p)) * (2 * ((60000 + q) * (60000 + q)))
positive p q = omega arith

pub piece_terms : (q : ClosingQuarters) (column row : ℕ) → column < 4 → row < 4 → PieceTerms q column row
unfolding piece
piece_terms q column row in_column in_row =
    let widths = widths_are q column row in_column in_row in
    let heights = heights_are q column row in_column in_row in
    let same = piece_is_formula q column row in_column in_row in
    let order : 4 * line_length q.west * line_length q.north ≡ 4 * line_length q.north * line_length q.west =
    omega arith in
    record {
      top = (line_length q.west * widths.parts) * (line_length q.north * heights.parts);
      numerator = rw (widths.is_mean.numerator, heights.is_mean.numerator) refl;
      parts = widths.parts * heights.parts;
      in_parts = rw (sym order) (rw (widths.sum_is, heights.sum_is) at same);
      some = rw (widths.is_mean.denominator, heights.is_mean.denominator) (positive q.west q.north);
    }
