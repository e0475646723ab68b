-- Numbers as bits, and lists of them.
use Rattle.std.proofs.Common.{◌≡◌, ◌==◌, ℕ, zero, suc, ◌+◌, ◌-◌, ◌*◌, ◌/◌, ◌%◌, ◌^◌, ◌<◌, ◌≤◌, ◌⊎◌, Bool}
use Rattle.std.proofs.Common.{true, false, List, [], ◌∷◌, length, get_or, ap, refl, ◌∙◌, inl, inr, arith}
use Rattle.std.proofs.Common.{replicate}
use Rattle.std.specs.Int.{bit_at}
use Rattle.std.specs.Int.Bits.{bit_or, or_zero_l}
use Rattle.std.specs.Int.RustNames.{count_ones}
use Rattle.std.specs.Int.Count.{ones_step}
use Rattle.std.specs.Simd.Lanes.{fold_l}
use Rattle.std.proofs.lemmas.Nat.{pow-add, pow_pos, le_or_l, le_or_r, ones_le_self}
use Rattle.std.proofs.lemmas.Nat.Bits.{bit_at_lowest, bit_at-suc, bit_at-zero, bit_at_mask_inside}
use Rattle.std.proofs.lemmas.Nat.Bits.{bit_at_mask_below, bit_at_mask_above}
use Rattle.std.proofs.lemmas.Bool.{cases_eq, cases_Bool, cases_lt}
use Rattle.std.proofs.lemmas.Bool.Decides.{nat_tests}
use Rattle.std.proofs.Math.Nat.{two-pow-succ, mod-eq_of_lt, mul_comm, mul-add, mul-sub}
use Rattle.std.proofs.Math.Pow.{pow_mono}
use Rattle.twp_grid.specs.Spans.{Interval, in_span}
use Rattle.twp_grid.specs.Spans.{total, one_where}
use Rattle.twp_land.specs.steps.BitLanes.{LANE_BITS}
use Rattle.twp_grid.proofs.TotalFacts.{total-zero, total-ext, total-front}

-- consecutive ones are a span
pub bit_of_ones : (span : Interval) (i : ℕ)
    → bit_at (2 ^ (span.start + span.len) - 2 ^ span.start) i ≡ one_where (in_span span i)
bit_of_ones span i = elim (cases_lt i span.start) [
  | inl below ↦
      let out : in_span span i ≡ false = grind (arith, nat_tests) in
      rw out (bit_at_mask_below span.start (span.start + span.len) i below)
  | inr from ↦ elim (cases_lt i (span.start + span.len)) [
    | inl within ↦
        let there : in_span span i ≡ true = grind (arith, nat_tests) in
        rw there (bit_at_mask_inside span.start (span.start + span.len) i (omega arith) within)
    | inr above ↦
        let out : in_span span i ≡ false = grind (arith, nat_tests) in
        rw out (bit_at_mask_above span.start (span.start + span.len) i (omega arith))
  ]
]

-- the bitwise or of zeros is 0
pub or_of_zeros : (first : ℕ) (lanes : List ℕ) → first ≡ 0
    → ((i : ℕ) → i < length lanes → get_or lanes i 0 ≡ 0) → fold_l bit_or first lanes ≡ 0
or_of_zeros first [] none each = none
or_of_zeros first (lane ∷ lanes) none each =
    let front : lane ≡ 0 = each 0 (omega arith) in
    or_of_zeros (bit_or first lane) lanes (ap (λ a. bit_or a lane) none ∙ or_zero_l lane ∙ front)
    (λ i below. each (suc i) (omega arith))

pub zeros_of_or : (first : ℕ) (lanes : List ℕ) → fold_l bit_or first lanes ≡ 0
    → (first ≡ 0) × ((i : ℕ) → i < length lanes → get_or lanes i 0 ≡ 0)
zeros_of_or first [] none = (none, λ i below. absurd (omega arith))
zeros_of_or first (lane ∷ lanes) none =
    let rest = zeros_of_or (bit_or first lane) lanes none in
    let is : bit_or first lane ≡ 0 = rest.0 in
    (omega (arith, le_or_l first lane), each lane lanes (omega (arith, le_or_r first lane)) rest.1)
  where
    each : (lane : ℕ) (lanes : List ℕ) → lane ≡ 0 → ((i : ℕ) → i < length lanes → get_or lanes i 0 ≡ 0)
        → (i : ℕ) → i < suc (length lanes) → get_or (lane ∷ lanes) i 0 ≡ 0
    each lane lanes none rest zero below = none
    each lane lanes none rest (suc i) below = rest i (omega arith)

-- the ones of a number with this many digits
pub ones_are_total : (digits n : ℕ) → n < 2 ^ digits → count_ones n ≡ total digits (λ i. bit_at n i)
ones_are_total zero n below =
    let none : n ≡ 0 = omega (arith, below) in
    rw (none, total-zero (λ i. bit_at 0 i)) (omega (arith, ones_le_self 0))
ones_are_total (suc digits) n below =
    let twice = two-pow-succ digits in
    let half = ones_are_total digits (n / 2) (omega arith) in
    let front = total-front digits (λ i. bit_at n i) in
    let rest = total-ext digits (λ i. bit_at n (i + 1)) (λ i. bit_at (n / 2) i) (λ i _. later i) in
    let lowest = bit_at_lowest n in
    ones_step n ∙ omega (arith, half, front, rest, lowest)
  where
    later : (i : ℕ) → bit_at n (i + 1) ≡ bit_at (n / 2) i
    later i = let e : i + 1 ≡ suc i = omega arith in rw e (bit_at-suc n i)

-- the ones of two numbers, side by side
pub ones_beside : (digits low high : ℕ) → low < 2 ^ digits
    → count_ones (low + high * 2 ^ digits) ≡ count_ones low + count_ones high
ones_beside zero low high below =
    let none : low ≡ 0 = omega (arith, below) in
    let zeros : count_ones low ≡ 0 = omega (arith, ones_le_self low, none) in
    let same : low + high * 2 ^ 0 ≡ high = omega (arith, none) in
    ap count_ones same ∙ omega (arith, zeros)
ones_beside (suc digits) low high below =
    let twice = two-pow-succ digits in
    let shifted : high * 2 ^ suc digits ≡ 2 * (high * 2 ^ digits) =
    ap (λ n. high * n) twice ∙ mul-add high (2 ^ digits) (2 ^ digits) ∙ omega arith in
    let half = ones_beside digits (low / 2) high (omega arith) in
    ap (λ n. count_ones (low + n)) shifted
    ∙ ones_step (low + 2 * (high * 2 ^ digits))
    ∙ halves low (high * 2 ^ digits)
    ∙ omega (arith, half, ones_step low)
  where
    halves : (low rest : ℕ) → (low + 2 * rest) % 2 + count_ones ((low + 2 * rest) / 2)
        ≡ low % 2 + count_ones (low / 2 + rest)
    halves low rest =
        let odd : (low + 2 * rest) % 2 ≡ low % 2 = omega arith in
        let half : (low + 2 * rest) / 2 ≡ low / 2 + rest = omega arith in
        rw (odd, half) refl

-- a first one that passes the test, or none
pub some_or_none : (n : ℕ) (test : ℕ → Bool)
    → ((k : ℕ) × (k < n) × (test k ≡ true)) ⊎ ((k : ℕ) → k < n → test k ≡ false)
some_or_none zero test = inr (λ k below. absurd (omega arith))
some_or_none (suc n) test = elim (cases_Bool (test n)) [
  | inl here ↦ inl (n, omega arith, here)
  | inr not_here ↦ elim (some_or_none n test) [
    | inl found ↦ inl (found.0, let h : found.0 < n = found.1 in omega arith, found.2)
    | inr none ↦ inr (λ k below. elim (cases_eq k n) [
      | inl last ↦ ap test last ∙ not_here
      | inr earlier ↦ none k (omega arith)
    ])
  ]
]

-- ones from the bit of a start on, as the code computes them
abbrev pub computed_ones : ℕ → ℕ → ℕ
computed_ones start len =
    (1 * 2 ^ len % 18446744073709551616 - 1) * 2 ^ start % 18446744073709551616

-- they are the ones from the start to the end, and fit in a lane
pub shifted_ones : (start len : ℕ) → start + len ≤ LANE_BITS
    → computed_ones start len ≡ 2 ^ (start + len) - 2 ^ start
shifted_ones start len within =
    let few : 2 ^ len ≤ 2 ^ LANE_BITS = pow_mono {i = len} {j = LANE_BITS} (omega (arith, within)) in
    let most : 2 ^ (start + len) ≤ 2 ^ LANE_BITS = pow_mono {i = start + len} {j = LANE_BITS} within in
    let ones : 1 * 2 ^ len % 18446744073709551616 ≡ 2 ^ len =
    ap (λ n. n % 18446744073709551616) (omega arith) ∙ mod-eq_of_lt (omega (arith, few)) in
    let product : (2 ^ len - 1) * 2 ^ start ≡ 2 ^ (start + len) - 2 ^ start =
    mul_comm (2 ^ len - 1) (2 ^ start)
    ∙ mul-sub (2 ^ start) (2 ^ len) 1
    ∙ omega (arith, pow-add 2 start len) in
    ap (λ n. (n - 1) * 2 ^ start % 18446744073709551616) ones
    ∙ ap (λ n. n % 18446744073709551616) product
    ∙ mod-eq_of_lt (omega (arith, most))

pub ones_fit_a_lane : (start len : ℕ) → start + len ≤ LANE_BITS → computed_ones start len < 2 ^ LANE_BITS
ones_fit_a_lane start len within =
    let most : 2 ^ (start + len) ≤ 2 ^ LANE_BITS = pow_mono {i = start + len} {j = LANE_BITS} within in
    omega (arith, shifted_ones start len within, most, pow_pos start, pow_pos (start + len))

-- lanes without bits
pub no_bit : (n column row : ℕ) → (bit_at (get_or (replicate n 0) row 0) column == 1) ≡ false
no_bit zero column row = rw (bit_at-zero column) refl
no_bit (suc n) column zero = rw (bit_at-zero column) refl
no_bit (suc n) column (suc row) = no_bit n column row
