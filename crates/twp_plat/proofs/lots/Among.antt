-- The figure of a lot among those of its section, and what is appended to them.
use Rattle.std.proofs.Common.{◌≡◌, ◌≢◌, ◌==◌, ℕ, zero, suc, ◌+◌, ◌-◌, ◌<◌, ◌≤◌, ◌&&◌, Bool, true, false, List}
use Rattle.std.proofs.Common.{get_or, set, length, if◌then◌else◌, nat_le, nat_lt, refl, ap}
use Rattle.std.proofs.Common.{◌∙◌}
use Rattle.std.proofs.Common.{inl, inr, arith, ◌⊎◌}
use Rattle.std.proofs.lemmas.Bool.{cases_Bool, cases_eq, cases_lt, eq-eqb, ne_eqb}
use Rattle.std.proofs.lemmas.Bool.Decides.{nat_tests}
use Rattle.std.proofs.lemmas.List.{get_or-set_same, get_or-set_other, get_or_past}
use Rattle.twp_plat.specs.LotTables.{figure_among, figure_within}

-- one number after another
pub among_next : (figures numbers : List ℕ) (number index end : ℕ) → index < end
    → get_or numbers index 0 ≢ number
    → figure_among figures numbers number index (end - index)
    ≡ figure_among figures numbers number (index + 1) (end - (index + 1))
among_next figures numbers number index end less other =
    let more : end - index ≡ suc (end - (index + 1)) = omega (arith, less) in
    rw (more, ne_eqb (get_or numbers index 0) number other) refl

pub among_here : (figures numbers : List ℕ) (number index end : ℕ) → index < end
    → get_or numbers index 0 ≡ number
    → figure_among figures numbers number index (end - index) ≡ figure_within (get_or figures index 0)
among_here figures numbers number index end less same =
    let more : end - index ≡ suc (end - (index + 1)) = omega (arith, less) in
    rw (more, eq-eqb (get_or numbers index 0) number same) refl

pub among_none : (figures numbers : List ℕ) (number index end : ℕ) → end ≤ index
    → figure_among figures numbers number index (end - index) ≡ 0
among_none figures numbers number index end past =
    let none : end - index ≡ 0 = omega (arith, past) in rw none refl

-- past all figures there is none
pub among_past : (figures numbers : List ℕ) (number index left : ℕ) → length figures ≤ index
    → figure_among figures numbers number index left ≡ 0
among_past figures numbers number index zero past = refl
among_past figures numbers number index (suc left) past =
    elim (cases_Bool (get_or numbers index 0 == number)) [
      | inl same ↦ rw (same, get_or_past figures index 0 past) refl
      | inr other ↦ rw other (among_past figures numbers number (index + 1) left (omega (arith, past)))
    ]

-- the figure of a lot, or another value if none of the lots has its number
abbrev pub among : ℕ → List ℕ → List ℕ → ℕ → ℕ → ℕ → ℕ
among other figures numbers number index zero = other
among other figures numbers number index (suc left) =
    if get_or numbers index 0 == number
    then figure_within (get_or figures index 0)
    else among other figures numbers number (index + 1) left

pub among_is : (figures numbers : List ℕ) (number index left : ℕ)
    → figure_among figures numbers number index left ≡ among 0 figures numbers number index left
among_is figures numbers number index zero = refl
among_is figures numbers number index (suc left) =
    ap (λ rest. if get_or numbers index 0 == number then figure_within (get_or figures index 0) else rest)
    (among_is figures numbers number (index + 1) left)

-- with one figure more, its lot counts if none before has the number
among_last : (other : ℕ) (figures numbers : List ℕ) (number index left : ℕ)
    → among other figures numbers number index (suc left)
    ≡ among
    (if get_or numbers (index + left) 0
    == number then figure_within (get_or figures (index + left) 0) else other)
    figures numbers number index left
among_last other figures numbers number index zero =
    let here : index ≡ index + 0 = omega arith in
    ap (λ k. among (if get_or numbers k 0 == number then figure_within (get_or figures k 0) else other)
    figures numbers number index zero) here
among_last other figures numbers number index (suc left) =
    let there : index + 1 + left ≡ index + suc left = omega arith in
    ap (λ rest. if get_or numbers index 0 == number then figure_within (get_or figures index 0) else rest)
    (among_last other figures numbers number (index + 1) left)
    ∙ ap (λ k. among (if get_or numbers k 0 == number then figure_within (get_or figures k 0) else other)
    figures numbers number index (suc left)) there

-- only the figures that are looked at count
pub among-ext : (other : ℕ) (figures numbers figures' numbers' : List ℕ) (number index left : ℕ)
    → ((k : ℕ) → index ≤ k → k < index + left → get_or figures k 0 ≡ get_or figures' k 0)
    → ((k : ℕ) → index ≤ k → k < index + left → get_or numbers k 0 ≡ get_or numbers' k 0)
    → among other figures numbers number index left ≡ among other figures' numbers' number index left
among-ext other figures numbers figures' numbers' number index zero same same' = refl
among-ext other figures numbers figures' numbers' number index (suc left) same same' =
    let rest =
    among-ext other figures numbers figures' numbers' number (index + 1) left
    (λ k from to. same k (omega (arith, from)) (omega (arith, to)))
    (λ k from to. same' k (omega (arith, from)) (omega (arith, to))) in
    rw (same index (omega arith) (omega arith), same' index (omega arith) (omega arith), rest) refl

-- what is entered for a lot up to a number, or another value
abbrev pub entered_or : List ℕ → ℕ → ℕ → ℕ → ℕ
entered_or entered count other number =
    if (nat_le number count && nat_lt 0 (get_or entered (number - 1) 0))
    then figure_within (get_or entered (number - 1) 0)
    else other

-- the figures from a number on to an end are those of the lots up to a number
abbrev pub AreAppended : List ℕ → List ℕ → List ℕ → ℕ → ℕ → ℕ → Type 0
AreAppended figures numbers entered used end count =
    (other number : ℕ) → 1 ≤ number
    → among other figures numbers number used (end - used) ≡ entered_or entered count other number

pub appended_none : (figures numbers entered : List ℕ) (used : ℕ)
    → AreAppended figures numbers entered used used 0
appended_none figures numbers entered used other number some =
    let none : used - used ≡ 0 = omega arith in
    let few : nat_le number 0 ≡ false = grind (arith, nat_tests, some) in
    rw (none, few) refl

pub appended_skip : (figures numbers entered : List ℕ) (used end count : ℕ) → get_or entered count 0 ≡ 0
    → AreAppended figures numbers entered used end count
    → AreAppended figures numbers entered used end (count + 1)
appended_skip figures numbers entered used end count is so_far other number some =
    so_far other number some ∙ elim (cases_eq number (count + 1)) [
      | inl same ↦
          let last : number - 1 ≡ count = omega (arith, same) in
          let none : nat_lt 0 (get_or entered (number - 1) 0) ≡ false =
          rw (last, is) (grind (arith, nat_tests)) in
          rw none
          (no (nat_le number count) (nat_le number (count + 1))
          (figure_within (get_or entered (number - 1) 0)) other)
      | inr differs ↦
          let same : nat_le number count ≡ nat_le number (count + 1) = grind (arith, nat_tests, differs) in
          rw same refl
    ]
  where
    no : (a b : Bool) (x y : ℕ) → (if a && false then x else y) ≡ (if b && false then x else y)
    no true true x y = refl
    no true false x y = refl
    no false true x y = refl
    no false false x y = refl

pub appended_more : (figures numbers entered : List ℕ) (used end count : ℕ) → used ≤ end
    → end < length figures → end < length numbers → get_or entered count 0 ≢ 0
    → AreAppended figures numbers entered used end count
    → AreAppended (set figures end (get_or entered count 0)) (set numbers end (count + 1)) entered used
    (end + 1)
    (count + 1)
appended_more figures numbers entered used end count from less less' is so_far other number some =
    let figure = get_or entered count 0 in
    let more : end + 1 - used ≡ suc (end - used) = omega (arith, from) in
    let last : used + (end - used) ≡ end = omega (arith, from) in
    ap (λ left.
    among other (set figures end (get_or entered count 0)) (set numbers end (count + 1)) number used left)
    more
    ∙ among_last other (set figures end (get_or entered count 0)) (set numbers end (count + 1)) number used
    (end - used)
    ∙ ap (λ k. among (if get_or (set numbers end (count + 1)) k 0 == number
    then figure_within (get_or (set figures end (get_or entered count 0)) k 0) else other)
    (set figures end (get_or entered count 0)) (set numbers end (count + 1)) number used (end - used)) last
    ∙ among-ext (if get_or (set numbers end (count + 1)) end 0 == number
    then figure_within (get_or (set figures end (get_or entered count 0)) end 0) else other)
    (set figures end (get_or entered count 0)) (set numbers end (count + 1)) figures numbers number used
    (end - used)
    (λ k _ below. get_or-set_other figures end k (get_or entered count 0) 0 (λ same.
    absurd (omega (arith, same, below, from))))
    (λ k _ below.
    get_or-set_other numbers end k (count + 1) 0 (λ same. absurd (omega (arith, same, below, from))))
    ∙ so_far (if get_or (set numbers end (count + 1)) end 0 == number
    then figure_within (get_or (set figures end (get_or entered count 0)) end 0) else other) number some
    ∙ rw (
      get_or-set_same numbers end (count + 1) 0 less',
      get_or-set_same figures end (get_or entered count 0) 0 less,
    )
    (by (cases_eq number (count + 1)))
  where
    yes : (a : Bool) (x y : ℕ) → (if a && true then x else x) ≡ x
    yes true x y = refl
    yes false x y = refl

    by : (number ≡ count + 1) ⊎ (number ≢ count + 1)
        → entered_or entered count
        (if count + 1 == number then figure_within (get_or entered count 0) else other) number
        ≡ entered_or entered (count + 1) other number
    by (inl same) =
        let at : number - 1 ≡ count = omega (arith, same) in
        let equal : (count + 1 == number) ≡ true = eq-eqb (count + 1) number (omega (arith, same)) in
        let there : nat_lt 0 (get_or entered count 0) ≡ true = grind (arith, nat_tests, is) in
        let within : nat_le number (count + 1) ≡ true = grind (arith, nat_tests, same) in
        rw (at, equal, there, within)
        (yes (nat_le number count) (figure_within (get_or entered count 0)) other)
    by (inr differs) =
        let equal : (count + 1 == number) ≡ false =
        ne_eqb (count + 1) number (λ same. differs (omega (arith, same))) in
        let same : nat_le number count ≡ nat_le number (count + 1) = grind (arith, nat_tests, differs) in
        rw (equal, same) refl

pub appended_all : (figures numbers entered : List ℕ) (used end count : ℕ)
    → AreAppended figures numbers entered used end count
    → (number : ℕ) → 1 ≤ number → number ≤ count
    → figure_among figures numbers number used (end - used) ≡ figure_within (get_or entered (number - 1) 0)
appended_all figures numbers entered used end count so_far number some most =
    among_is figures numbers number used (end - used)
    ∙ so_far 0 number some
    ∙ by (cases_Bool (nat_lt 0 (get_or entered (number - 1) 0)))
  where
    within : nat_le number count ≡ true
    within = grind (arith, nat_tests, most)

    by : (nat_lt 0 (get_or entered (number - 1) 0) ≡ true)
        ⊎ (nat_lt 0 (get_or entered (number - 1) 0) ≡ false)
        → entered_or entered count 0 number ≡ figure_within (get_or entered (number - 1) 0)
    by (inl there) = rw (within, there) refl
    by (inr none) =
        let zeroth : get_or entered (number - 1) 0 ≡ 0 = grind (arith, nat_tests, none) in
        rw (within, zeroth) refl

-- nothing is entered for lots with greater numbers
pub appended_beyond : (figures numbers entered : List ℕ) (used end count : ℕ)
    → AreAppended figures numbers entered used end count
    → (number : ℕ) → count < number → figure_among figures numbers number used (end - used) ≡ 0
appended_beyond figures numbers entered used end count so_far number more =
    let past : nat_le number count ≡ false = grind (arith, nat_tests, more) in
    among_is figures numbers number used (end - used) ∙ so_far 0 number (omega (arith, more)) ∙ rw past refl

-- the same for all lots, if nothing is entered for those after the last
pub appended_rest : (figures numbers entered : List ℕ) (used end last : ℕ)
    → AreAppended figures numbers entered used end last
    → ((index : ℕ) → last ≤ index → get_or entered index 0 ≡ 0)
    → (number : ℕ) → 1 ≤ number
    → figure_among figures numbers number used (end - used) ≡ figure_within (get_or entered (number - 1) 0)
appended_rest figures numbers entered used end last so_far rest number some = elim (cases_lt last number) [
  | inl after ↦
      appended_beyond figures numbers entered used end last so_far number after
      ∙ rw (rest (number - 1) (omega (arith, after))) refl
  | inr within ↦ appended_all figures numbers entered used end last so_far number some (omega (arith, within))
]
