-- Members of a list.
use Rattle.std.proofs.Common.{◌≡◌, zero, suc, ◌⊎◌, List, [], ◌∷◌, ◌++◌, sym, inl, inr, arith, Bool, true}
use Rattle.std.proofs.Common.{refl}
use Rattle.std.specs.List.{Contains, list_any}
use Rattle.std.proofs.lemmas.Bool.{cases_Bool}

-- a thing is in a list
abbrev pub Among : {T : Type 0} → T → List T → Type 0
Among thing [] = ⊥
Among thing (first ∷ list) = (thing ≡ first) ⊎ Among thing list

pub among_contains : {T : Type 0} (thing : T) (list : List T) → Among thing list → Contains list thing
among_contains thing [] there = absurd there
among_contains thing (first ∷ list) (inl here) = (0, omega arith, sym here)
among_contains thing (first ∷ list) (inr later) =
    let found = among_contains thing list later in
    (suc found.0, (let within = found.1 in omega arith), found.2)

pub contains_among : {T : Type 0} (thing : T) (list : List T) → Contains list thing → Among thing list
contains_among thing [] (k, within, is) = absurd (omega arith)
contains_among thing (first ∷ list) (zero, within, is) = inl (sym is)
contains_among thing (first ∷ list) (suc k, within, is) =
    inr (contains_among thing list (k, (omega arith), is))

-- a thing in two lists joined is in one of them
pub among_either : {T : Type 0} (thing : T) (list more : List T) → Among thing (list ++ more)
    → Among thing list ⊎ Among thing more
among_either thing [] more there = inr there
among_either thing (first ∷ list) more (inl here) = inl (inl here)
among_either thing (first ∷ list) more (inr later) =
    elim (among_either thing list more later) [ inl there ↦ inl (inr there) | inr there ↦ inr there ]

pub among_left : {T : Type 0} (thing : T) (list more : List T) → Among thing list → Among thing (list ++ more)
among_left thing [] more there = absurd there
among_left thing (first ∷ list) more (inl here) = inl here
among_left thing (first ∷ list) more (inr later) = inr (among_left thing list more later)

pub among_right : {T : Type 0} (thing : T) (list more : List T) → Among thing more
    → Among thing (list ++ more)
among_right thing [] more there = there
among_right thing (first ∷ list) more there = inr (among_right thing list more there)

-- a test that some member of a list passes
pub record Passes {T : Type 0} (test : T → Bool) (list : List T) : Type 0 where
  pub thing : T
  pub there : Among thing list
  pub passes : test thing ≡ true

pub some_passes : {T : Type 0} (test : T → Bool) (list : List T) → list_any test list ≡ true
    → Passes test list
some_passes test [] any = cc any
some_passes test (first ∷ list) any = elim (cases_Bool (test first)) [
  | inl here ↦ record { thing = first; there = inl refl; passes = here }
  | inr not_here ↦
      let found = some_passes test list (rw not_here at any) in
      record { thing = found.thing; there = inr found.there; passes = found.passes }
]

pub passed : {T : Type 0} (test : T → Bool) (list : List T) (thing : T) → Among thing list → test thing ≡ true
    → list_any test list ≡ true
passed test [] thing there passes = absurd there
passed test (first ∷ list) thing (inl here) passes = rw (sym here, passes) refl
passed test (first ∷ list) thing (inr later) passes = elim (cases_Bool (test first)) [
  | inl here ↦ rw here refl
  | inr not_here ↦ rw not_here (passed test list thing later passes)
]
