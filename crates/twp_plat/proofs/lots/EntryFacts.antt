-- Entries for lots.
use Rattle.std.proofs.Common.{◌≡◌, ◌≢◌, ◌⊎◌, ℕ, zero, suc, ◌-◌, ◌≤◌, ◌<◌, List, [], get_or, set, length}
use Rattle.std.proofs.Common.{replicate, refl}
use Rattle.std.proofs.Common.{sym, ap, ◌∙◌, inl, inr, arith}
use Rattle.std.proofs.lemmas.Bool.{cases_eq}
use Rattle.std.proofs.lemmas.List.{get_or-set_same, get_or-set_other}
use Rattle.twp_plat.specs.LotTables.{entered_for}

-- entries before any was set
pub no_entry : (n index : ℕ) → get_or (replicate n zero) index zero ≡ zero
no_entry zero zero = refl
no_entry zero (suc index) = refl
no_entry (suc n) zero = refl
no_entry (suc n) (suc index) = no_entry n index

pub no_entry_of : (n section index : ℕ)
    → get_or (get_or (replicate n (replicate 99 zero)) section []) index zero ≡ zero
no_entry_of zero zero zero = refl
no_entry_of zero zero (suc index) = refl
no_entry_of zero (suc section) zero = refl
no_entry_of zero (suc section) (suc index) = refl
no_entry_of (suc n) zero index = no_entry 99 index
no_entry_of (suc n) (suc section) index = no_entry_of n section index

-- the entry that was set
pub set_for : (entries : List (List ℕ)) (section lot value at : ℕ) (new : List ℕ) → at ≡ section - 1
    → section - 1 < length entries → new ≡ set (get_or entries at []) (lot - 1) value
    → lot - 1 < length (get_or entries at [])
    → entered_for (set entries at new) section lot ≡ value
set_for entries section lot value at new is fits new_is most =
    ap (λ (row : List ℕ). get_or row (lot - 1) 0)
    (ap (λ n. get_or (set entries at new) n []) (sym is)
    ∙ get_or-set_same entries at new [] (omega (arith, is, fits)))
    ∙ ap (λ (row : List ℕ). get_or row (lot - 1) 0) new_is
    ∙ get_or-set_same (get_or entries at []) (lot - 1) value 0 most

-- all others
pub others_for : (entries : List (List ℕ)) (section lot value section' lot' at : ℕ) (new : List ℕ)
    → at ≡ section - 1 → section - 1 < length entries → 1 ≤ section' → 1 ≤ lot' → 1 ≤ lot → 1 ≤ section
    → (section' ≢ section) ⊎ (lot' ≢ lot) → new ≡ set (get_or entries at []) (lot - 1) value
    → entered_for (set entries at new) section' lot' ≡ entered_for entries section' lot'
others_for entries section lot value section' lot' at new is fits least least' some range other new_is =
    elim (cases_eq section' section) [
      | inr apart ↦
          ap (λ (row : List ℕ). get_or row (lot' - 1) 0)
          (get_or-set_other entries at (section' - 1) new []
          (λ same. apart (omega (arith, same, is, least, range))))
      | inl same ↦ elim other [
        | inl apart ↦ absurd (apart same)
        | inr apart ↦ here same apart
      ]
    ]
  where
    here : section' ≡ section → lot' ≢ lot
        → entered_for (set entries at new) section' lot' ≡ entered_for entries section' lot'
    here same apart =
        let at_is : section' - 1 ≡ at = omega (arith, same, is) in
        ap (λ (row : List ℕ). get_or row (lot' - 1) 0)
        (ap (λ n. get_or (set entries at new) n []) at_is
        ∙ get_or-set_same entries at new [] (omega (arith, is, fits))
        ∙ new_is)
        ∙ get_or-set_other (get_or entries at []) (lot - 1) (lot' - 1) value 0
        (λ alike. apart (omega (arith, alike, least', some)))
        ∙ ap (λ n. get_or (get_or entries n []) (lot' - 1) 0) (sym at_is)
