-- Halves of dyadic spans.
use Rattle.std.proofs.Common.{◌≡◌, ℕ, zero, suc, ◌+◌, ◌*◌, ◌/◌, ◌%◌, ◌^◌, ◌<◌, ◌≤◌, ap, inl, inr}
use Rattle.std.proofs.Common.{arith}
use Rattle.std.proofs.Math.Nat.{pow-succ'}
use Rattle.std.proofs.lemmas.Nat.{div-add-mod', mod-mul-add, mul-le}
use Rattle.std.proofs.lemmas.Bool.{cases_lt}
use Rattle.twp_grid.specs.Spans.{Interval, lower_half, upper_half, IsDyadic}

-- an odd divisor of a power of two is 1
odd_divisor : (g half times : ℕ) → times * (2 * half + 1) ≡ 2 ^ g → half ≡ 0
odd_divisor zero half zero is = absurd (omega arith)
odd_divisor zero half (suc times) is =
    let least = mul-le 1 (2 * half + 1) (suc times) (2 * half + 1) (omega arith) (omega arith) in
    omega arith
odd_divisor (suc g) half times is =
    let power = pow-succ' 2 g in
    let even : times ≡ 2 * (times / 2) = omega arith in
    let product : times * half ≡ 2 * (times / 2) * half = ap (λ t. t * half) even in
    odd_divisor g half (times / 2) (omega arith)

multiple : (n times len : ℕ) → 0 < len → n ≡ times * len → n % len ≡ 0
multiple n times len some is =
    let rest = mod-mul-add times len 0 some in
    let same : times * len + 0 ≡ n = omega arith in
    rw same at rest

-- if a length divides something, so does half of it
divided : (n len half : ℕ) → 0 < half → len ≡ 2 * half → n % len ≡ 0
    → (n % half ≡ 0) × ((n + half) % half ≡ 0)
divided n len half some twice divides =
    let times = n / len in
    let whole : times * len + n % len ≡ n = div-add-mod' n len in
    let product : times * len ≡ times * (2 * half) = ap (λ t. times * t) twice in (
      multiple n (2 * times) half some (omega arith),
      multiple (n + half) (2 * times + 1) half some (omega arith),
    )

-- the length of a dyadic span is twice its half
even_length : (g : ℕ) (span : Interval) → IsDyadic g span → 1 < span.len → span.len ≡ 2 * (span.len / 2)
even_length g span even more = elim (cases_lt 0 (span.len % 2)) [
  | inl odd ↦
      let half = span.len / 2 in
      let times = 2 ^ g / span.len in
      let whole : times * span.len + 2 ^ g % span.len ≡ 2 ^ g = div-add-mod' (2 ^ g) span.len in
      let length_is : span.len ≡ 2 * half + 1 = omega arith in
      let divides : 2 ^ g % span.len ≡ 0 = even.divides in
      let product : times * span.len ≡ times * (2 * half + 1) = ap (λ t. times * t) length_is in
      let none : half ≡ 0 = odd_divisor g half times (omega arith) in
      absurd (omega arith)
  | inr none_left ↦ omega arith
]

pub lower_is_dyadic : (g : ℕ) (span : Interval) → IsDyadic g span → 1 < span.len
    → IsDyadic g (lower_half span)
lower_is_dyadic g span even more =
    let twice = even_length g span even more in
    let half = span.len / 2 in
    let within : span.start + span.len ≤ 2 ^ g = even.within in
    record {
      some = omega arith;
      within = omega arith;
      divides = (divided (2 ^ g) span.len half (omega arith) twice even.divides).0;
      aligned = (divided span.start span.len half (omega arith) twice even.aligned).0;
    }

pub upper_is_dyadic : (g : ℕ) (span : Interval) → IsDyadic g span → 1 < span.len
    → IsDyadic g (upper_half span)
upper_is_dyadic g span even more =
    let twice = even_length g span even more in
    let half = span.len / 2 in
    let within : span.start + span.len ≤ 2 ^ g = even.within in
    record {
      some = omega arith;
      within = omega arith;
      divides = (divided (2 ^ g) span.len half (omega arith) twice even.divides).0;
      aligned = (divided span.start span.len half (omega arith) twice even.aligned).1;
    }
