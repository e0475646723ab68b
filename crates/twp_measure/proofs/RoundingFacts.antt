-- Rounding half up: a quotient lies within half a hundredth, and is the greatest number that an
-- area reaches.
use Rattle.std.proofs.Common.{◌≡◌, ◌↔◌, ℕ, zero, suc, ◌+◌, ◌-◌, ◌*◌, ◌/◌, ◌%◌, ◌≤◌, ◌<◌, inl, inr}
use Rattle.std.proofs.Common.{arith}
use Rattle.std.proofs.Math.Nat.{div-add-mod, mod-lt, mul-le-mul_right}
use Rattle.std.proofs.lemmas.Bool.{cases_lt}
use Rattle.twp_measure.specs.Areas.{Fraction, IsRounded}
use Rattle.twp_measure.specs.Laws.{Reaches}

-- the quotient of a number by d lies between multiples of d
quotient : (n d : ℕ) → 0 < d → (d * (n / d) ≤ n) × (n < d * (n / d + 1))
quotient n d some =
    let whole : d * (n / d) + n % d ≡ n = div-add-mod n d in
    let rest : n % d < d = mod-lt n some in
    (omega arith, omega arith)

pub rounded : (units over : ℕ) → 0 < over
    → IsRounded (record { units = units; over = over }) ((2 * units + 100000 * over) / (2 * (100000 * over)))
rounded units over some =
    let d : ℕ = 100000 * over in
    let q : ℕ = (2 * units + d) / (2 * d) in
    let between = quotient (2 * units + d) (2 * d) (omega arith) in
    record { least = omega (arith, between.0); most = omega (arith, between.1) }

-- u is the doubled units, and d is a hundredth of an acre in units
reached_by : (h u d : ℕ) → 2 * h * d ≤ u + d → (2 * h - 1) * d ≤ u
reached_by zero u d least = omega arith
reached_by (suc k) u d least =
    let odd : 2 * suc k - 1 ≡ 2 * k + 1 = omega arith in
    rw odd (omega arith)

least_by : (h u d : ℕ) → (2 * h - 1) * d ≤ u → 2 * h * d ≤ u + d
least_by zero u d reached = omega arith
least_by (suc k) u d reached =
    let odd : 2 * suc k - 1 ≡ 2 * k + 1 = omega arith in
    let known : (2 * k + 1) * d ≤ u = rw odd at reached in
    omega arith

bound_by : (h more u d : ℕ) → u < 2 * h * d + d → (2 * more - 1) * d ≤ u → more ≤ h
bound_by h more u d below reached = elim (cases_lt h more) [
  | inl over ↦
      let grown : (2 * h + 1) * d ≤ (2 * more - 1) * d = mul-le-mul_right d (omega arith) in
      absurd (omega arith)
  | inr under ↦ under
]

regrouped : (h over : ℕ) → (2 * h - 1) * over * 100000 ≡ (2 * h - 1) * (100000 * over)
regrouped h over = omega arith

reaches : (area : Fraction) (h : ℕ) → IsRounded area h → Reaches area h
reaches area h is = rw (regrouped h area.over) (reached_by h (2 * area.units) (100000 * area.over) is.least)

bounds : (area : Fraction) (h more : ℕ) → IsRounded area h → Reaches area more → more ≤ h
bounds area h more is reached =
    bound_by h more (2 * area.units) (100000 * area.over) is.most (rw (regrouped more area.over) at reached)

greatest_is : (area : Fraction) (h : ℕ) → Reaches area h → ((more : ℕ) → Reaches area more → more ≤ h)
    → IsRounded area h
greatest_is area h reached greatest = record {
  least = least_by h (2 * area.units) (100000 * area.over) (rw (regrouped h area.over) at reached);
  most = elim (cases_lt (2 * area.units) (2 * h * (100000 * area.over) + 100000 * area.over)) [
    | inl below ↦ below
    | inr above ↦
        let odd : 2 * (h + 1) - 1 ≡ 2 * h + 1 = omega arith in
        let next : Reaches area (h + 1) = rw odd (omega arith) in
        let over : h + 1 ≤ h = greatest (h + 1) next in
        absurd (omega arith)
  ];
}

-- the rounding is the greatest number that the area reaches
pub rounding_is_greatest : (area : Fraction) (h : ℕ)
    → IsRounded area h ↔ (Reaches area h × ((more : ℕ) → Reaches area more → more ≤ h))
rounding_is_greatest area h =
    (λ is. (reaches area h is, λ more. bounds area h more is), λ is. greatest_is area h is.0 is.1)

-- an area has one rounding
pub one_rounding : (area : Fraction) (h h' : ℕ) → IsRounded area h → IsRounded area h' → h ≡ h'
one_rounding area h h' is is' =
    let up : h ≤ h' = bounds area h' h is' (reaches area h is) in
    let down : h' ≤ h = bounds area h h' is (reaches area h' is') in
    omega arith
