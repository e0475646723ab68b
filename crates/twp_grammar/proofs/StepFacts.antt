-- Steps are stored in two lists, and the second is empty until the first is full.
use Rattle.std.proofs.Common.{◌≡◌, ℕ, zero, suc, ◌-◌, ◌<◌, ◌≤◌, List, [], ◌∷◌, ◌++◌, length, slice_get, refl}
use Rattle.std.proofs.Common.{sym, ap, ◌∙◌, arith, append_assoc}
use Rattle.std.proofs.lemmas.List.{append-nil}
use Rattle.twp_grammar.specs.declared.item.Step.{Step}

pub push_first : (first more after : List Step) (step : Step) → more ≡ [] → after ≡ first ++ step ∷ []
    → after ++ more ≡ (first ++ more) ++ step ∷ []
push_first first more after step none is =
    ap (λ xs. after ++ xs) none
    ∙ append-nil after
    ∙ is
    ∙ ap (λ xs. xs ++ step ∷ []) (sym (ap (λ xs. first ++ xs) none ∙ append-nil first))

pub push_more : (first more after : List Step) (step : Step) → after ≡ more ++ step ∷ []
    → first ++ after ≡ (first ++ more) ++ step ∷ []
push_more first more after step is = ap (λ xs. first ++ xs) is ∙ sym (append_assoc first more (step ∷ []))

pub in_first : (first more : List Step) (i : ℕ) → i < length first
    → slice_get (first ++ more) i ≡ slice_get first i
in_first [] more i below = absurd (omega arith)
in_first (step ∷ first) more zero below = refl
in_first (step ∷ first) more (suc i) below = in_first first more i (omega arith)

pub in_more : (first more : List Step) (i : ℕ) → length first ≤ i
    → slice_get (first ++ more) i ≡ slice_get more (i - length first)
in_more [] more i past = ap (λ n. slice_get more n) (let e : i ≡ i - 0 = omega arith in e)
in_more (step ∷ first) more zero past = absurd (omega arith)
in_more (step ∷ first) more (suc i) past =
    in_more first more i (omega arith)
    ∙ ap (λ n. slice_get more n) (let e : i - length first ≡ suc i - suc (length first) = omega arith in e)

-- if the first list is not full, it contains all of them
pub all_first : (first more : List Step) → more ≡ [] → length first ≡ length (first ++ more)
all_first first more none = sym (ap (λ xs. length (first ++ xs)) none ∙ ap length (append-nil first))
