-- A letter in lowercase, by its bit: the 256 bytes are computed.
use Rattle.std.proofs.Common.{◌≡◌, ◌==◌, ℕ, zero, suc, ◌<◌, Bool, true, false, cond, ◌&&◌, Option, Some, None}
use Rattle.std.proofs.Common.{bit_or, refl, ap, inl, inr, arith}
use Rattle.std.specs.Char.{is_ascii_lowercase}
use Rattle.std.proofs.lemmas.Bool.{eqb-true, cases_lt}
use Rattle.twp_grammar.specs.Cutting.{small_letter}

-- the test holds of every number below n
unfoldable each : ℕ → (ℕ → Bool) → Bool
each zero test = true
each (suc n) test = test n && each n test

both : (x y : Bool) → (x && y) ≡ true → (x ≡ true) × (y ≡ true)
both true y h = (refl, h)
both false y h = cc h

each_at : (n : ℕ) (test : ℕ → Bool) (k : ℕ) → each n test ≡ true → k < n → test k ≡ true
unfolding each
each_at zero test k every below = absurd (omega arith)
each_at (suc n) test k every below =
    let parts = both (test n) (each n test) every in
    elim (cases_lt k n) [
      | inl further ↦ each_at n test k parts.1 further
      | inr here ↦ let same : k ≡ n = omega arith in rw same parts.0
    ]

abbrev same_option : Option ℕ → Option ℕ → Bool
same_option None None = true
same_option (Some a) (Some b) = a == b
same_option _ _ = false

same_tells : (x y : Option ℕ) → same_option x y ≡ true → x ≡ y
same_tells None None h = refl
same_tells (Some a) (Some b) h = ap (λ n. Some n) (eqb-true a b h)
same_tells _ _ h = cc h

abbrev pub by_bit : ℕ → Option ℕ
by_bit byte = cond (is_ascii_lowercase (bit_or byte 32)) (Some (bit_or byte 32)) None

every_byte : each 256 (λ byte. same_option (by_bit byte) (small_letter byte)) ≡ true
unfolding each
every_byte = refl

pub by_its_bit : (byte : ℕ) → byte < 256 → by_bit byte ≡ small_letter byte
by_its_bit byte small =
    same_tells (by_bit byte) (small_letter byte)
    (each_at 256 (λ b. same_option (by_bit b) (small_letter b)) byte every_byte small)

-- a letter isn't 0
pub letter_counts : (byte small : ℕ) → small_letter byte ≡ Some small → 0 < byte
letter_counts zero small h = cc h
letter_counts (suc byte) small h = omega arith
