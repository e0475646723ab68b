-- The indexes of lots. The cases are finitely many and are computed.
use Rattle.std.proofs.Common.{◌≡◌, ◌==◌, ℕ, ◌+◌, ◌-◌, ◌≤◌, ◌||◌, true, List, [], ◌∷◌, refl, arith}
use Rattle.std.proofs.Common.{get_or, nat_le}
use Rattle.std.proofs.lemmas.Bool.{eqb-true}
use Rattle.std.proofs.lemmas.Bool.Decides.{nat_tests}
use Rattle.twp_grid.specs.Winding.{IsSection}
use Rattle.twp_grid.specs.Lots.{lots, number_of_lots}
use Rattle.twp_grid.proofs.LotFacts.{each, each_of_three, either, a_section}
use Rattle.twp_plat.specs.LotTables.{LOT_COUNT, lots_before}

-- the code's table
abbrev pub before_by_code : List ℕ
before_by_code =
    0 ∷ 4 ∷ 8 ∷ 12 ∷ 16 ∷ 20 ∷ 27 ∷ 31 ∷ 31 ∷ 31 ∷ 31 ∷ 31 ∷ 31 ∷ 31 ∷ 31 ∷ 31 ∷ 31 ∷ 31 ∷ 35 ∷ 39 ∷ 39
    ∷ 39 ∷ 39 ∷ 39 ∷ 39 ∷ 39 ∷ 39 ∷ 39 ∷ 39 ∷ 39 ∷ 43 ∷ 47 ∷ 47 ∷ 47 ∷ 47 ∷ 47 ∷ 47 ∷ []

before_test : each 37 (λ s. each 1 (λ y. each 1 (λ z.
    (s == 0) || (get_or before_by_code (s - 1) 0 == lots_before s)))) ≡ true
unfolding each lots_before lots
before_test = refl

end_test : each 37 (λ s. each 1 (λ y. each 1 (λ z.
    (s == 0) || nat_le (lots_before s + number_of_lots s) LOT_COUNT))) ≡ true
unfolding each lots_before number_of_lots lots
end_test = refl

pub before_is : (s : ℕ) → IsSection s → get_or before_by_code (s - 1) 0 ≡ lots_before s
before_is s range =
    eqb-true _ _
    (either (s == 0) _
    (each_of_three 37 1 1 (λ s y z. (s == 0) || (get_or before_by_code (s - 1) 0 == lots_before s)) s 0 0
    before_test (omega (arith, range.1)) (omega arith) (omega arith))
    (a_section s range))

pub end_is : (s : ℕ) → IsSection s → lots_before s + number_of_lots s ≤ LOT_COUNT
end_is s range =
    let test =
    either (s == 0) _
    (each_of_three 37 1 1 (λ s y z. (s == 0) || nat_le (lots_before s + number_of_lots s) LOT_COUNT) s 0 0
    end_test (omega (arith, range.1)) (omega arith) (omega arith))
    (a_section s range) in
    grind (arith, nat_tests, test)
