-- For how many lots something is entered.
use Rattle.std.proofs.Common.{◌≡◌, ◌≢◌, ℕ, zero, suc, ◌+◌, ◌-◌, ◌≤◌, ◌<◌, nat_lt, List, inl, inr, refl}
use Rattle.std.proofs.Common.{ap, subst, ◌∙◌, arith, true}
use Rattle.std.proofs.lemmas.Bool.{cases_lt}
use Rattle.std.proofs.lemmas.Bool.Decides.{nat_tests}
use Rattle.twp_grid.specs.Winding.{IsSection, SECTION_COUNT}
use Rattle.twp_grid.specs.Spans.{total, one_where}
use Rattle.twp_grid.specs.Lands.{LOT_NUMBER_MOST}
use Rattle.twp_grid.proofs.TotalFacts.{total-ext, total-all_zero}
use Rattle.twp_plat.specs.LotTables.{entered_count, entered_for}
use Rattle.twp_plat.specs.steps.LandEntries.{OthersStay}

-- one term is greater by 1, and the others are the same
total-one_more : (n j : ℕ) (f g : ℕ → ℕ) → j < n → ((k : ℕ) → k < n → k ≢ j → g k ≡ f k) → g j ≡ f j + 1
    → total n g ≡ total n f + 1
unfolding total
total-one_more zero j f g less same more = absurd (omega (arith, less))
total-one_more (suc n) j f g less same more = elim (cases_lt j n) [
  | inl before ↦
      omega (
        arith,
        total-one_more n j f g before (λ k below other. same k (omega (arith, below)) other) more,
        same n (omega arith) (λ last. absurd (omega (arith, last, before))),
      )
  | inr after ↦
      let last : j ≡ n = omega (arith, less, after) in
      let here : g n ≡ f n + 1 = subst (λ k. g k ≡ f k + 1) last more in
      omega (
        arith,
        total-ext n g f (λ k below.
            same k (omega (arith, below)) (λ is. absurd (omega (arith, is, last, below)))),
        here,
      )
]

-- 1 if something is entered for the lot
abbrev one_for : List (List ℕ) → ℕ → ℕ → ℕ
one_for entries before less = one_where (nat_lt 0 (entered_for entries (before + 1) (less + 1)))

-- nothing is entered
pub none_counted : (entries : List (List ℕ))
    → ((section lot : ℕ) → entered_for entries section lot ≡ 0) → entered_count entries ≡ 0
none_counted entries none =
    total-all_zero SECTION_COUNT (λ before. total LOT_NUMBER_MOST (one_for entries before)) (λ before _.
    total-all_zero LOT_NUMBER_MOST (one_for entries before) (λ less _.
    ap (λ n. one_where (nat_lt 0 n)) (none (before + 1) (less + 1))))

-- something is entered for one more lot
pub one_counted : (entries entries' : List (List ℕ)) (section lot : ℕ) → IsSection section → 1 ≤ lot
    → lot ≤ LOT_NUMBER_MOST → entered_for entries section lot ≡ 0 → 0 < entered_for entries' section lot
    → OthersStay section lot entries entries' → entered_count entries' ≡ entered_count entries + 1
one_counted entries entries' section lot range least most none some others =
    total-one_more SECTION_COUNT (section - 1) (λ before. total LOT_NUMBER_MOST (one_for entries before))
    (λ before. total LOT_NUMBER_MOST (one_for entries' before)) (omega (arith, range.0, range.1))
    (λ before _ other.
    total-ext LOT_NUMBER_MOST (one_for entries' before) (one_for entries before) (λ less _.
    ap (λ n. one_where (nat_lt 0 n))
    (others (before + 1) (less + 1) (omega arith) (omega arith)
    (inl (λ same. other (omega (arith, same)))))))
    (total-one_more LOT_NUMBER_MOST (lot - 1) (one_for entries (section - 1)) (one_for entries' (section - 1))
    (omega (arith, least, most))
    (λ less _ other.
    ap (λ n. one_where (nat_lt 0 n))
    (others (section - 1 + 1) (less + 1) (omega arith) (omega arith)
    (inr (λ same. other (omega (arith, same))))))
    here)
  where
    section_is : section - 1 + 1 ≡ section
    section_is = omega (arith, range.0)

    lot_is : lot - 1 + 1 ≡ lot
    lot_is = omega (arith, least)

    entry : (all : List (List ℕ))
        → entered_for all (section - 1 + 1) (lot - 1 + 1) ≡ entered_for all section lot
    entry all = λ i. entered_for all (section_is i) (lot_is i)

    one : (n : ℕ) → 0 < n → one_where (nat_lt 0 n) ≡ 1
    one n more =
        let test : nat_lt 0 n ≡ true = grind (arith, nat_tests, more) in
        rw test refl

    here : one_for entries' (section - 1) (lot - 1) ≡ one_for entries (section - 1) (lot - 1) + 1
    here =
        let now : one_for entries' (section - 1) (lot - 1) ≡ 1 =
        ap (λ n. one_where (nat_lt 0 n)) (entry entries') ∙ one (entered_for entries' section lot) some in
        let was : one_for entries (section - 1) (lot - 1) ≡ 0 =
        ap (λ n. one_where (nat_lt 0 n)) (entry entries ∙ none) in
        omega (arith, now, was)
