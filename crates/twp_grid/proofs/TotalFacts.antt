-- Sums over numbers from 0 on.
use Rattle.std.proofs.Common.{◌≡◌, ℕ, zero, suc, ◌+◌, ◌*◌, ◌<◌, ◌≤◌, ap, refl, sym, ◌∙◌, arith}
use Rattle.twp_grid.specs.Spans.{total}

pub total-zero : (f : ℕ → ℕ) → total 0 f ≡ 0
unfolding total
total-zero f = refl

-- one more term
pub total-next : (n : ℕ) (f : ℕ → ℕ) → total (n + 1) f ≡ total n f + f n
unfolding total
total-next n f = let e : n + 1 ≡ suc n = omega arith in rw e refl

-- equal terms
pub total-ext : (n : ℕ) (f g : ℕ → ℕ) → ((k : ℕ) → k < n → f k ≡ g k) → total n f ≡ total n g
unfolding total
total-ext zero f g same = refl
total-ext (suc n) f g same =
    omega (arith, total-ext n f g (λ k below. same k (omega arith)), same n (omega arith))

pub total-le : (n : ℕ) (f g : ℕ → ℕ) → ((k : ℕ) → k < n → f k ≤ g k) → total n f ≤ total n g
unfolding total
total-le zero f g least = omega arith
total-le (suc n) f g least =
    omega (arith, total-le n f g (λ k below. least k (omega arith)), least n (omega arith))

-- all terms equal
pub total-same : (n c : ℕ) → total n (λ k. c) ≡ n * c
unfolding total
total-same zero c = omega arith
total-same (suc n) c = omega (arith, total-same n c)

pub total-all_zero : (n : ℕ) (f : ℕ → ℕ) → ((k : ℕ) → k < n → f k ≡ 0) → total n f ≡ 0
total-all_zero n f none = total-ext n f (λ k. 0) none ∙ (let e = total-same n 0 in omega arith)

-- the first term separately
pub total-front : (n : ℕ) (f : ℕ → ℕ) → total (suc n) f ≡ f 0 + total n (λ k. f (k + 1))
unfolding total
total-front zero f = omega arith
total-front (suc n) f = let e : n + 1 ≡ suc n = omega arith in omega (arith, total-front n f, ap f e)

-- two ranges, one after the other
pub total-add : (m n : ℕ) (f : ℕ → ℕ) → total (m + n) f ≡ total m f + total n (λ k. f (m + k))
unfolding total
total-add m zero f = let e : m + 0 ≡ m = omega arith in rw e (omega arith)
total-add m (suc n) f = let e : m + suc n ≡ suc (m + n) = omega arith in rw e (omega (arith, total-add m n f))

-- sums of two functions, and multiples
pub total-both : (n : ℕ) (f g : ℕ → ℕ) → total n (λ k. f k + g k) ≡ total n f + total n g
unfolding total
total-both zero f g = refl
total-both (suc n) f g = omega (arith, total-both n f g)

pub total-scale : (n c : ℕ) (f : ℕ → ℕ) → total n (λ k. c * f k) ≡ c * total n f
unfolding total
total-scale zero c f = omega arith
total-scale (suc n) c f = omega (arith, total-scale n c f)

-- two sums can be exchanged
pub total-swap : (m n : ℕ) (f : ℕ → ℕ → ℕ)
    → total m (λ i. total n (λ j. f i j)) ≡ total n (λ j. total m (λ i. f i j))
unfolding total
total-swap zero n f = sym (total-all_zero n (λ j. 0) (λ k below. refl))
total-swap (suc m) n f =
    let rest = total-swap m n f in
    let split = total-both n (λ j. total m (λ i. f i j)) (λ j. f m j) in
    omega arith
