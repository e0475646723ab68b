-- Quotients that are the same number.
use Rattle.std.proofs.Common.{◌≡◌, ℕ, ◌*◌, ◌/◌, ◌<◌, ℤ, pos, ◌*ℤ◌, ap, sym, ◌∙◌, arith}
use Rattle.std.proofs.Math.Nat.{mul-div_cancel}
use Rattle.std.proofs.lemmas.Int.{ints}
use Rattle.twp_plat.specs.Pieces.{Ratio, ratio, whole, IsSame}

-- numbers are the same if they are the same after multiplication by a number above 0
pub cancelled : (m n d : ℕ) → 0 < d → m * d ≡ n * d → m ≡ n
cancelled m n d some same = sym (mul-div_cancel m some) ∙ ap (λ k. k / d) same ∙ mul-div_cancel n some

pub numbers_same : (m n : ℕ) → pos m ≡ pos n → m ≡ n
numbers_same m n same = cc

once : (z : ℤ) → z *ℤ pos 1 ≡ z
once z = omega (arith, ints)

-- a quotient that is a whole number, by its numerator
whole_numerator : (r : Ratio) (units : ℕ) → IsSame r (whole units) → r.numerator ≡ pos (units * r.denominator)
whole_numerator r units is = sym (once r.numerator) ∙ is

-- this many parts make that whole number of units
pub parts_of_whole : (r : Ratio) (units parts d : ℕ) → 0 < r.denominator → IsSame r (whole units)
    → IsSame r (ratio (pos parts) d) → parts ≡ units * d
parts_of_whole r units parts d some is in_parts =
    let numerator = whole_numerator r units is in
    let same : pos (units * r.denominator) *ℤ pos d ≡ pos (parts * r.denominator) =
    rw numerator at in_parts in
    let crossed : units * r.denominator * d ≡ parts * r.denominator = numbers_same _ _ same in
    sym (cancelled (units * d) parts r.denominator some (omega arith))

-- a whole number of units in parts
pub whole_in_parts : (r : Ratio) (units d : ℕ) → IsSame r (whole units) → IsSame r (ratio (pos (units * d)) d)
whole_in_parts r units d is =
    let numerator = whole_numerator r units is in
    rw numerator (ap pos (omega arith))

-- parts that make whole units
pub whole_of_parts : (r : Ratio) (units d m : ℕ) → 0 < d → r.numerator ≡ pos m
    → IsSame r (ratio (pos (units * d)) d) → IsSame r (whole units)
whole_of_parts r units d m some numerator in_parts =
    let same : pos (m * d) ≡ pos (units * d * r.denominator) = rw numerator at in_parts in
    let crossed : m * d ≡ units * d * r.denominator = numbers_same _ _ same in
    let equal : m ≡ units * r.denominator = cancelled m (units * r.denominator) d some (omega arith) in
    rw (numerator, equal) (ap pos (omega arith))
