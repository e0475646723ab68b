-- Masks of the lanes of a vector.
use Rattle.std.proofs.Common.{◌≡◌, ℕ, zero, suc, ◌+◌, ◌-◌, ◌*◌, ◌/◌, ◌%◌, ◌^◌, ◌<◌, ◌≤◌, Bool, true, false}
use Rattle.std.proofs.Common.{cond}
use Rattle.std.proofs.Common.{List, [], ◌∷◌, get_or, length, map, drop, leb, not, refl, sym, ap, ◌∙◌, inl}
use Rattle.std.proofs.Common.{inr}
use Rattle.std.proofs.Common.{arith, div-one, mul_comm, pow-suc}
use Rattle.std.proofs.lemmas.Bool.{cases_Bool}
use Rattle.std.proofs.lemmas.Bool.Decides.{nat_tests}
use Rattle.std.proofs.lemmas.List.{get_or-drop, get_or-map, length-drop, length-map}
use Rattle.std.proofs.lemmas.Simd.{get_or-chunk, length-chunk}
use Rattle.std.proofs.lemmas.List.Sums.{prefix_len_passes}
use Rattle.std.specs.List.{prefix_len}
use native.Mathlib.Nat.{div-div-eq-div-mul, zero-div}
use lib.Lanes.{chunk, mask_l}

-- a mask that isn't empty has a lane
pub some_in_mask : (p : ℕ → Bool) (xs : List ℕ) → ¬ (mask_l (map p xs) ≡ 0)
    → (i : ℕ) × (i < length xs) × (p (get_or xs i 0) ≡ true)
some_in_mask p [] some = absurd (some refl)
some_in_mask p (x ∷ xs) some = elim (cases_Bool (p x)) [
  | inl is ↦ (0, omega arith, is)
  | inr not ↦
      let rest = some_in_mask p xs (λ none. some (rw (not, none) refl)) in
      (suc rest.0, omega (arith, rest.1), rest.2)
]

-- a mask without its first lanes
pub mask_shifted : (ms : List Bool) (k : ℕ) → mask_l ms / 2 ^ k ≡ mask_l (drop k ms)
mask_shifted ms zero = div-one (mask_l ms)
mask_shifted [] (suc k) = zero-div (2 ^ suc k)
mask_shifted (m ∷ ms) (suc k) =
    ap (λ n. mask_l (m ∷ ms) / n) (pow-suc 2 k ∙ mul_comm (2 ^ k) 2)
    ∙ sym (div-div-eq-div-mul (mask_l (m ∷ ms)) 2 (2 ^ k))
    ∙ ap (λ n. n / 2 ^ k) (rest m (mask_l ms))
    ∙ mask_shifted ms k
  where
    rest : (b : Bool) (n : ℕ) → (cond b 1 0 + 2 * n) / 2 ≡ n
    rest true n = omega arith
    rest false n = omega arith

drop_mapped : (p : ℕ → Bool) (xs : List ℕ) (k : ℕ) → drop k (map p xs) ≡ map p (drop k xs)
drop_mapped p xs zero = refl
drop_mapped p [] (suc k) = refl
drop_mapped p (x ∷ xs) (suc k) = drop_mapped p xs k

pub later_mask : (p : ℕ → Bool) (xs : List ℕ) (k : ℕ) → mask_l (map p xs) / 2 ^ k ≡ mask_l (map p (drop k xs))
later_mask p xs k = mask_shifted (map p xs) k ∙ ap mask_l (drop_mapped p xs k)

-- the bytes before the first one that is in a range, from one on
pub passed_bytes : (positions v w : List ℕ) (first from least most r : ℕ) → v ≡ chunk first 16 positions
    → first + 16 ≤ length positions → w ≡ map (λ x. (x + (256 - least)) % 256) v
    → ((k : ℕ) → get_or positions k 0 < 256) → least ≤ most → most < 256
    → r ≤ prefix_len (λ x. not (leb x (most - least))) (drop from w)
    → (index : ℕ) → from ≤ index → index < from + r → index < 16 → least ≤ get_or positions (first + index) 0
    → ¬ (get_or positions (first + index) 0 ≤ most)
passed_bytes positions v w first from least most r is room moved small range top count k after less short
    low =
    let back : from + (k - from) ≡ k = omega (arith, after) in
    let long : length v ≡ 16 = ap length is ∙ length-chunk first 16 positions room in
    let at : get_or (drop from w) (k - from) 0 ≡ (get_or positions (first + k) 0 + (256 - least)) % 256 =
    get_or-drop from w (k - from) 0
    ∙ ap (λ n. get_or w n 0) back
    ∙ ap (λ l. get_or l k 0) moved
    ∙ get_or-map (λ x. (x + (256 - least)) % 256) v k 0 0 (omega (arith, long, short))
    ∙ ap (λ l. (get_or l k 0 + (256 - least)) % 256) is
    ∙ ap (λ n. (n + (256 - least)) % 256) (get_or-chunk first 16 positions k 0 short) in
    let out : not (leb (get_or (drop from w) (k - from) 0) (most - least)) ≡ true =
    prefix_len_passes (λ x. not (leb x (most - least))) (drop from w) (k - from) 0
    (omega (arith, after, less, count)) in
    let far : not (leb ((get_or positions (first + k) 0 + (256 - least)) % 256) (most - least)) ≡ true =
    ap (λ n. not (leb n (most - least))) (sym at) ∙ out in
    let more : most - least < (get_or positions (first + k) 0 + (256 - least)) % 256 =
    grind (arith, nat_tests, far) in
    λ high. omega (arith, more, low, high, small (first + k), range, top)

-- how many bytes there are from one on
pub later_length : (positions : List ℕ) (first from least : ℕ) → first + 16 ≤ length positions
    → length (drop from (map (λ x. (x + (256 - least)) % 256) (chunk first 16 positions))) ≡ 16 - from
later_length positions first from least room =
    length-drop from (map (λ x. (x + (256 - least)) % 256) (chunk first 16 positions))
    ∙ ap (λ n. n - from)
    (length-map (chunk first 16 positions) (λ x. (x + (256 - least)) % 256)
    ∙ length-chunk first 16 positions room)
