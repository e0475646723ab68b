-- Lengths that vary linearly, in whole numbers: a length that varies from a to b is a mean of both,
-- each weighted by the distance of the other end.
use Rattle.std.proofs.Common.{◌≡◌, ℕ, ◌+◌, ◌*◌, pos, ◌+ℤ◌, ◌-ℤ◌, ◌*ℤ◌, refl, ap, sym, ◌∙◌, arith}
use borrow.Author.Differences.{up, down}
use Rattle.std.proofs.lemmas.Int.{ints}
use Rattle.twp_plat.specs.Pieces.{Ratio, mean}
use Rattle.twp_plat.specs.Pieces.{straight}

-- a difference times x
difference : (a b x : ℕ) → up (pos b -ℤ pos a) * x + a * x ≡ down (pos b -ℤ pos a) * x + b * x
difference a b x =
    let once : up (pos b -ℤ pos a) + a ≡ down (pos b -ℤ pos a) + b = omega (arith, ints) in
    let many : (up (pos b -ℤ pos a) + a) * x ≡ (down (pos b -ℤ pos a) + b) * x = ap (λ n. n * x) once in
    omega arith

-- x is the distance from the start, and k is the rest of the line
pub weighted : (a b k x : ℕ) → pos (a * k + b * x) ≡ pos (a * (k + x)) +ℤ (pos b -ℤ pos a) *ℤ pos x
weighted a b k x = let turned = difference a b x in omega (arith, ints)

pub straight_is : (a b k x along : ℕ) → k + x ≡ along → (straight a b along x).numerator ≡ pos (a * k + b * x)
straight_is a b k x along parts =
    let turned = difference a b x in
    rw (sym parts) (omega (arith, ints))

-- the mean of two quotients with the same denominator
mean_is : (r s : Ratio) (m n d : ℕ) → r.numerator ≡ pos m → s.numerator ≡ pos n → r.denominator ≡ d
    → s.denominator ≡ d
    → ((mean r s).numerator ≡ pos (d * (m + n))) × ((mean r s).denominator ≡ 2 * (d * d))
mean_is r s m n d r_is s_is r_over s_over =
    (rw (r_is, s_is, r_over, s_over) (ap pos (omega arith)), rw (r_over, s_over) refl)

-- a mean of two lengths, whose sum is this many parts of a line's length
pub record IsMeanOf (r : Ratio) (along parts : ℕ) : Type 0 where
  pub numerator : r.numerator ≡ pos (along * parts)
  pub denominator : r.denominator ≡ 2 * (along * along)

-- the mean of a linearly varying length at two distances x and x', after which k and k' remain
pub mean_straight : (a b k x k' x' along : ℕ) → k + x ≡ along → k' + x' ≡ along
    → IsMeanOf (mean (straight a b along x) (straight a b along x')) along (a * (k + k') + b * (x + x'))
mean_straight a b k x k' x' along parts parts' =
    let r = straight a b along x in
    let s = straight a b along x' in
    let both = mean_is r s (a * k + b * x) (a * k' + b * x') along
    (straight_is a b k x along parts) (straight_is a b k' x' along parts') (omega arith) (omega arith) in
    record { numerator = both.0 ∙ ap pos (omega arith); denominator = both.1 }
