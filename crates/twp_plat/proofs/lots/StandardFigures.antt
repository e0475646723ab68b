-- The figures of the standard lots, whose numbers follow each other in each section.
use Rattle.std.proofs.Common.{◌≡◌, ◌==◌, ℕ, zero, suc, ◌+◌, ◌-◌, ◌<◌, ◌≤◌, ◌||◌, true, false, List, []}
use Rattle.std.proofs.Common.{◌∷◌}
use Rattle.std.proofs.Common.{get_or, nat_le, refl, sym, ap, ◌∙◌, inl, inr, arith, if◌then◌else◌, ◌⊎◌}
use Rattle.std.proofs.lemmas.Bool.{cases_lt, cases_eq, eqb-true, eq-eqb, ne_eqb}
use Rattle.std.proofs.lemmas.Bool.Decides.{nat_tests}
use Rattle.twp_grid.specs.Winding.{IsSection}
use Rattle.twp_grid.specs.Lots.{lots, number_of_lots}
use Rattle.twp_grid.proofs.LotFacts.{each, each_of_three, either, a_section}
use Rattle.twp_land.proofs.LotFacts.{few_lots}
use Rattle.twp_plat.specs.LotTables.{LOT_COUNT, figure_among, figure_within, lots_before}
use Rattle.twp_plat.specs.LotTables.{standard_figure}
use Rattle.twp_plat.proofs.lots.IndexFacts.{before_by_code, before_is, end_is}

-- the code's table of numbers
abbrev pub numbers_by_code : List ℕ
numbers_by_code =
    1 ∷ 2 ∷ 3 ∷ 4 ∷ 1 ∷ 2 ∷ 3 ∷ 4 ∷ 1 ∷ 2 ∷ 3 ∷ 4 ∷ 1 ∷ 2 ∷ 3 ∷ 4 ∷ 1 ∷ 2 ∷ 3 ∷ 4
    ∷ 1 ∷ 2 ∷ 3 ∷ 4 ∷ 5 ∷ 6 ∷ 7 ∷ 1 ∷ 2 ∷ 3 ∷ 4 ∷ 1 ∷ 2 ∷ 3 ∷ 4 ∷ 1 ∷ 2 ∷ 3 ∷ 4
    ∷ 1 ∷ 2 ∷ 3 ∷ 4 ∷ 1 ∷ 2 ∷ 3 ∷ 4 ∷ []

number_test : each 37 (λ s. each 8 (λ k. each 1 (λ z.
    (s == 0) || (nat_le (number_of_lots s) k || (get_or numbers_by_code (lots_before s + k) 0 == k + 1)))))
    ≡ true
unfolding each lots_before number_of_lots lots
number_test = refl

end_test : each 37 (λ s. each 1 (λ y. each 1 (λ z.
    (s == 0) || (get_or before_by_code s 0 == lots_before s + number_of_lots s)))) ≡ true
unfolding each lots_before number_of_lots lots
end_test = refl

number_is : (s k : ℕ) → IsSection s → k < number_of_lots s
    → get_or numbers_by_code (lots_before s + k) 0 ≡ k + 1
number_is s k range less =
    let few = few_lots s range in
    let below : nat_le (number_of_lots s) k ≡ false = grind (arith, nat_tests, less) in
    eqb-true _ _
    (either (nat_le (number_of_lots s) k) _
    (either (s == 0) _
    (each_of_three 37 8 1 (λ s k z.
    (s == 0) || (nat_le (number_of_lots s) k || (get_or numbers_by_code (lots_before s + k) 0 == k + 1))) s k
    0
    number_test (omega (arith, range.1)) (omega (arith, less, few)) (omega arith))
    (a_section s range))
    below)

pub bound_is : (s : ℕ) → IsSection s → get_or before_by_code s 0 ≡ lots_before s + number_of_lots s
bound_is s range =
    eqb-true _ _
    (either (s == 0) _
    (each_of_three 37 1 1 (λ s y z.
    (s == 0) || (get_or before_by_code s 0 == lots_before s + number_of_lots s)) s 0 0
    end_test (omega (arith, range.1)) (omega arith) (omega arith))
    (a_section s range))

-- of numbers that follow each other, the figure of one
in_order : (figures numbers : List ℕ) (number start count passed left : ℕ) → left + passed ≡ count
    → ((k : ℕ) → k < count → get_or numbers (start + k) 0 ≡ k + 1) → passed < number
    → figure_among figures numbers number (start + passed) left
    ≡ (if nat_le number count then figure_within (get_or figures (start + (number - 1)) 0) else 0)
in_order figures numbers number start count passed zero all follow more =
    let out : nat_le number count ≡ false = grind (arith, nat_tests, all, more) in
    rw out refl
in_order figures numbers number start count passed (suc left) all follow more =
    let here = follow passed (omega (arith, all)) in
    elim (cases_eq number (passed + 1)) [
      | inl same ↦
          let at : number - 1 ≡ passed = omega (arith, same) in
          let within : nat_le number count ≡ true = grind (arith, nat_tests, same, all) in
          rw (here, eq-eqb (passed + 1) number (sym same), within, at) refl
      | inr other ↦
          let next : start + passed + 1 ≡ start + (passed + 1) = omega arith in
          rw (here, ne_eqb (passed + 1) number (λ same. other (sym same)), next)
          (in_order figures numbers number start count (passed + 1) left (omega (arith, all)) follow
          (omega (arith, more, other)))
    ]

pub standard_is : (returned figures numbers : List ℕ) (s number : ℕ) → IsSection s → 1 ≤ number
    → ((k : ℕ) → k < LOT_COUNT → get_or figures k 0 ≡ get_or returned k 0)
    → ((k : ℕ) → k < LOT_COUNT → get_or numbers k 0 ≡ get_or numbers_by_code k 0)
    → figure_among figures numbers number (get_or before_by_code (s - 1) 0)
    (get_or before_by_code s 0 - get_or before_by_code (s - 1) 0) ≡ standard_figure returned s number
standard_is returned figures numbers s number range some same same' =
    let start = lots_before s in
    let count = number_of_lots s in
    let end = end_is s range in
    let left : lots_before s + number_of_lots s - lots_before s ≡ number_of_lots s = omega arith in
    let first : lots_before s ≡ lots_before s + 0 = omega arith in
    rw (before_is s range, bound_is s range, left)
    (ap (λ k. figure_among figures numbers number k (number_of_lots s)) first
    ∙ in_order figures numbers number (lots_before s) (number_of_lots s) 0 (number_of_lots s) (omega arith)
    (λ k less. same' (lots_before s + k) (omega (arith, less, end)) ∙ number_is s k range less)
    (omega (arith, some))
    ∙ copied (cases_lt (number_of_lots s) number))
  where
    copied : (number_of_lots s < number) ⊎ (number ≤ number_of_lots s)
        → (if nat_le number (number_of_lots s)
        then figure_within (get_or figures (lots_before s + (number - 1)) 0) else 0)
        ≡ standard_figure returned s number
    copied (inl more) =
        let out : nat_le number (number_of_lots s) ≡ false = grind (arith, nat_tests, more) in rw out refl
    copied (inr most) =
        let within : nat_le number (number_of_lots s) ≡ true = grind (arith, nat_tests, most) in
        let end = end_is s range in
        rw (within, same (lots_before s + (number - 1)) (omega (arith, most, some, end))) refl
