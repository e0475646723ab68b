-- Land contains each lot wholly or not at all, or it does not: there are finitely many places.
use Rattle.std.proofs.Common.{◌≡◌, ℕ, zero, suc, ◌<◌, ◌⊎◌, Bool, true, false, Option, Some}
use Rattle.std.proofs.Common.{refl, ap, subst, inl, inr, arith}
use Rattle.std.proofs.lemmas.Bool.{cases_Bool, cases_lt, eq-eqb}
use Rattle.twp_grid.specs.Winding.{IsSection}
use Rattle.twp_grid.specs.Places.{PLACE_DIGITS, places_across, position_along}
use Rattle.twp_grid.specs.Lands.{lot_of_place, IsWholeOrNot, HasWholeLots}
use Rattle.twp_grid.specs.Lands.{STANDARD_LOTS}
use Rattle.twp_land.proofs.LotFacts.{fills, few_lots, no_such_lot, is_lot, is_lot_tells}

abbrev Decided : Type 0 → Type 0
Decided A = A ⊎ (A → ⊥)

-- a fact about each number below n is decided if each is
decide_below : (n : ℕ) (P : ℕ → Type 0) → ((k : ℕ) → k < n → Decided (P k))
    → Decided ((k : ℕ) → k < n → P k)
decide_below zero P each = inl (λ k below. absurd (omega arith))
decide_below (suc n) P each = go (decide_below n P (λ k below. each k (omega arith))) (each n (omega arith))
  where
    go : Decided ((k : ℕ) → k < n → P k) → Decided (P n) → Decided ((k : ℕ) → k < suc n → P k)
    go (inl all) (inl here) = inl (λ k below. elim (cases_lt k n) [
      | inl further ↦ all k further
      | inr last ↦ let same : n ≡ k = omega arith in subst P same here
    ])
    go (inl all) (inr not) = inr (λ every. not (every n (omega arith)))
    go (inr not) here = inr (λ every. not (λ k below. every k (omega arith)))

same_decided : (a b : Bool) → Decided (a ≡ b)
same_decided true true = inl refl
same_decided true false = inr (λ e. cc e)
same_decided false true = inr (λ e. cc e)
same_decided false false = inl refl

lot_decided : (found : Option ℕ) (n : ℕ) → Decided (found ≡ Some n)
lot_decided found n = elim (cases_Bool (is_lot found n)) [
  | inl so ↦ inl (is_lot_tells found n so)
  | inr other ↦ inr (λ is. absurd (cc (other, ap (λ o. is_lot o n) is, eq-eqb n n refl)))
]

-- two places in the same lot are both in the set, or neither
abbrev Alike : ℕ → ℕ → (ℕ → ℕ → Bool) → ℕ → ℕ → ℕ → ℕ → Type 0
Alike s n held column row column' row' = lot_of_place PLACE_DIGITS s column row ≡ Some n
    → lot_of_place PLACE_DIGITS s column' row' ≡ Some n → held column row ≡ held column' row'

alike_decided : (s n : ℕ) (held : ℕ → ℕ → Bool) (column row column' row' : ℕ)
    → Decided (Alike s n held column row column' row')
alike_decided s n held column row column' row' =
    go (lot_decided (lot_of_place PLACE_DIGITS s column row) n)
    (lot_decided (lot_of_place PLACE_DIGITS s column' row') n)
    (same_decided (held column row) (held column' row'))
  where
    go : Decided (lot_of_place PLACE_DIGITS s column row ≡ Some n)
        → Decided (lot_of_place PLACE_DIGITS s column' row' ≡ Some n)
        → Decided (held column row ≡ held column' row')
        → Decided (Alike s n held column row column' row')
    go (inr not) second same = inl (λ lot lot'. absurd (not lot))
    go (inl first) (inr not) same = inl (λ lot lot'. absurd (not lot'))
    go (inl first) (inl second) (inl same) = inl (λ lot lot'. same)
    go (inl first) (inl second) (inr not) = inr (λ alike. not (alike first second))

-- a place of a lot lies in the section
in_section : (s n column row : ℕ) → IsSection s → lot_of_place PLACE_DIGITS s column row ≡ Some n
    → (column < places_across PLACE_DIGITS) × (row < places_across PLACE_DIGITS)
in_section s n column row range lot =
    let there = fills s (position_along PLACE_DIGITS column) (position_along PLACE_DIGITS row) n range lot in
    let in_column = there.in_column in
    let in_row = there.in_row in
    (grind arith, grind arith)

lot_whole_decided : (s n : ℕ) (held : ℕ → ℕ → Bool) → IsSection s
    → Decided (IsWholeOrNot STANDARD_LOTS s n held)
lot_whole_decided s n held range = go (
    decide_below most _ (λ column _. decide_below most _ (λ row _. decide_below most _ (λ column' _.
    decide_below most _ (λ row' _. alike_decided s n held column row column' row'))))
    )
  where
    most : ℕ
    most = places_across PLACE_DIGITS

    go : Decided ((column : ℕ) → column < most → (row : ℕ) → row < most → (column' : ℕ) → column' < most
        → (row' : ℕ) → row' < most → Alike s n held column row column' row')
        → Decided (IsWholeOrNot STANDARD_LOTS s n held)
    go (inl all) = inl (record {
      alike = λ column row column' row' lot lot'.
          let first = in_section s n column row range lot in
          let second = in_section s n column' row' range lot' in
          all column first.0 row first.1 column' second.0 row' second.1 lot lot';
    })
    go (inr not) = inr (λ whole. not (λ column _ row _ column' _ row' _. whole.alike column row column' row'))

section_whole_decided : (s : ℕ) (held : ℕ → ℕ → Bool) → IsSection s
    → Decided ((lot : ℕ) → IsWholeOrNot STANDARD_LOTS s lot held)
section_whole_decided s held range =
    go (decide_below 8 (λ lot. IsWholeOrNot STANDARD_LOTS s lot held)
    (λ lot _. lot_whole_decided s lot held range))
  where
    go : Decided ((lot : ℕ) → lot < 8 → IsWholeOrNot STANDARD_LOTS s lot held)
        → Decided ((lot : ℕ) → IsWholeOrNot STANDARD_LOTS s lot held)
    go (inl all) = inl (λ lot. elim (cases_lt lot 8) [
      | inl below ↦ all lot below
      | inr above ↦
          let few = few_lots s range in no_such_lot s lot held range (inr (omega (arith, few)))
    ])
    go (inr not) = inr (λ every. not (λ lot _. every lot))

pub whole_lots_decided : (places : ℕ → ℕ → ℕ → Bool)
    → HasWholeLots STANDARD_LOTS places ⊎ (HasWholeLots STANDARD_LOTS places → ⊥)
whole_lots_decided places =
    go
    (decide_below 37 (λ s. IsSection s → ((lot : ℕ) → IsWholeOrNot STANDARD_LOTS s lot (places s))) section)
  where
    section : (s : ℕ) → s < 37
        → Decided (IsSection s → ((lot : ℕ) → IsWholeOrNot STANDARD_LOTS s lot (places s)))
    section zero below = inl (λ range. absurd (omega (arith, range.0)))
    section (suc s) below = elim (section_whole_decided (suc s) (places (suc s)) (omega arith, omega arith)) [
      | inl whole ↦ inl (λ _. whole)
      | inr not ↦ inr (λ all. not (all (omega arith, omega arith)))
    ]

    go : Decided ((s : ℕ) → s < 37 → IsSection s → ((lot : ℕ) → IsWholeOrNot STANDARD_LOTS s lot (places s)))
        → HasWholeLots STANDARD_LOTS places ⊎ (HasWholeLots STANDARD_LOTS places → ⊥)
    go (inl all) = inl (λ s lot range. all s (omega (arith, range.1)) range lot)
    go (inr not) = inr (λ whole. not (λ s _ range lot. whole s lot range))
