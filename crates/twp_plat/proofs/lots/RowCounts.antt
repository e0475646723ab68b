-- How many rows have a property.
use Rattle.std.proofs.Common.{◌≡◌, ℕ, zero, suc, ◌+◌, ◌≤◌, ◌<◌, inl, inr, refl, sym, ◌∙◌, subst, arith}
use Rattle.std.proofs.lemmas.Bool.{cases_eq}
use Rattle.twp_plat.specs.LandRecords.{IsCount}

-- counts are unique
pub one_count : (Has : ℕ → Type 0) (n count count' : ℕ) → IsCount Has n count → IsCount Has n count'
    → count ≡ count'
one_count Has zero count count' is is' = is ∙ sym is'
one_count Has (suc n) count count' (inl (has, (before, more, is))) (inl (has', (before', more', is'))) =
    omega (arith, more, more', one_count Has n before before' is is')
one_count Has (suc n) count count' (inl (has, _)) (inr (not, is')) = absurd (not has)
one_count Has (suc n) count count' (inr (not, is)) (inl (has, _)) = absurd (not has)
one_count Has (suc n) count count' (inr (not, is)) (inr (not', is')) = one_count Has n count count' is is'

-- of fewer numbers, no more have it
pub fewer : (Has : ℕ → Type 0) (n m count : ℕ) → n ≤ m → IsCount Has m count
    → (count' : ℕ) × (count' ≤ count) × IsCount Has n count'
fewer Has n zero count less is =
    let none : n ≡ zero = omega (arith, less) in
    (count, omega arith, subst (λ k. IsCount Has k count) (sym none) is)
fewer Has n (suc m) count less is = elim (cases_eq n (suc m)) [
  | inl same ↦ (count, omega arith, subst (λ k. IsCount Has k count) (sym same) is)
  | inr other ↦ elim is [
    | inl some ↦
        let rest = fewer Has n m some.1.0 (omega (arith, less, other)) some.1.2 in
        (rest.0, omega (arith, rest.1, some.1.1), rest.2)
    | inr none ↦ fewer Has n m count (omega (arith, less, other)) none.1
  ]
]

-- with one that has it, fewer have it before
pub fewer_before : (Has : ℕ → Type 0) (n m count count' : ℕ) → n < m → Has n → IsCount Has m count
    → IsCount Has n count' → count' < count
fewer_before Has n m count count' less has is is' =
    let next = fewer Has (suc n) m count (omega (arith, less)) is in
    let same = one_count Has (suc n) next.0 (suc count') next.2 (inl (has, (count', refl, is'))) in
    omega (arith, next.1, same)

-- rows counted by their numbers among the records
pub count_of_rows : (Has Is : ℕ → Type 0) → ((number : ℕ) → Has number → 3 ≤ number)
    → ((index : ℕ) → Has (index + 3) → Is index) → ((index : ℕ) → Is index → Has (index + 3))
    → (n count : ℕ) → IsCount Is n count → IsCount Has (n + 3) count
count_of_rows Has Is least to from zero count is =
    let three : zero + 3 ≡ suc (suc (suc zero)) = omega arith in
    subst (λ n. IsCount Has n count) (sym three)
    (inr (
      λ has. absurd (omega (arith, least (suc (suc zero)) has)),
      inr (
        λ has. absurd (omega (arith, least (suc zero) has)),
        inr (λ has. absurd (omega (arith, least zero has)), is),
      ),
    ))
count_of_rows Has Is least to from (suc n) count (inl (has, (before, more, is))) =
    let next : suc n + 3 ≡ suc (n + 3) = omega arith in
    subst (λ n. IsCount Has n count) (sym next)
    (inl (from n has, (before, more, count_of_rows Has Is least to from n before is)))
count_of_rows Has Is least to from (suc n) count (inr (not, is)) =
    let next : suc n + 3 ≡ suc (n + 3) = omega arith in
    subst (λ n. IsCount Has n count) (sym next)
    (inr (λ has. not (to n has), count_of_rows Has Is least to from n count is))
