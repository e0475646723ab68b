-- The land of the first tracts of a list.
use Rattle.std.proofs.Common.{◌≡◌, ◌↔◌, ℕ, ◌+◌, ◌<◌, ◌||◌, ◌⊎◌, Bool, true, false, List, ap, refl}
use Rattle.std.proofs.Common.{sym, ◌∙◌, inl, inr, subst, arith}
use Rattle.std.proofs.lemmas.Bool.{cases_lt}
use Rattle.twp_grid.specs.Townships.{Designation}
use Rattle.twp_grid.specs.Lands.{no_places, union}
use Rattle.twp_notes.specs.Records.{Fields, record_at}
use Rattle.twp_answers.specs.Answers.{Describe}
use Rattle.twp_answers.specs.Tracts.{description_in, IsInTract, IsLandOfTracts}
use Rattle.twp_answers.proofs.OneAnswer.{one_land}
use Rattle.twp_grid.specs.Lands.{Lotting}

-- an index is either earlier or the last
pub earlier_or_last : (count index : ℕ) → index < count + 1 → (index < count) ⊎ (index ≡ count)
earlier_or_last count index below = elim (cases_lt index count) [
  | inl earlier ↦ inl earlier
  | inr over ↦ inr (omega arith)
]

pub either_way : (a b : Bool) → (a || b) ≡ true → (a ≡ true) ⊎ (b ≡ true)
either_way true b is = inl refl
either_way false b is = inr is

pub with_left : (a b : Bool) → a ≡ true → (a || b) ≡ true
with_left true b is = refl
with_left false b is = cc is

pub with_right : (a b : Bool) → b ≡ true → (a || b) ≡ true
with_right true b is = refl
with_right false b is = is

-- without tracts there are no places
pub no_land : (lots : Lotting) (township : Designation) (rows : List Fields)
    → IsLandOfTracts lots township rows 0 no_places
no_land lots township rows section column row = (
  λ held. cc held,
  λ is. let below : is.index < 0 = is.within in absurd (omega arith),
)

-- one more tract
pub land_next : (lots : Lotting) (township : Designation) (rows : List Fields) (count : ℕ)
    (places more : ℕ → ℕ → ℕ → Bool)
    → IsLandOfTracts lots township rows count places
    → Describe lots township (description_in (record_at rows count)) more
    → IsLandOfTracts lots township rows (count + 1) (union places more)
land_next lots township rows count places more land next section column row = (
  λ held. elim (either_way (places section column row) (more section column row) held) [
    | inl there ↦
        let is = (land section column row).0 there in
        let within : is.index < count = is.within in
        record { index = is.index; within = omega arith; places = is.places; land = is.land; held = is.held }
    | inr here ↦ record { index = count; within = omega arith; places = more; land = next; held = here }
  ],
  λ is. elim (earlier_or_last count is.index is.within) [
    | inl earlier ↦ with_left _ _ ((land section column row).1 (record {
      index = is.index;
      within = earlier;
      places = is.places;
      land = is.land;
      held = is.held;
    }))
    | inr last ↦
        let described : Describe lots township (description_in (record_at rows count)) is.places =
        subst (λ i. Describe lots township (description_in (record_at rows i)) is.places) last
        is.land in
        let same : is.places ≡ more =
        one_land lots township (description_in (record_at rows count)) is.places more described next in
        with_right (places section column row) (more section column row)
        (ap (λ p. p section column row) (sym same) ∙ is.held)
  ],
)

same_test : (a b : Bool) (P : Type 0) → ((a ≡ true) ↔ P) → ((b ≡ true) ↔ P) → a ≡ b
same_test true true P is is' = refl
same_test true false P is is' = sym (is'.1 (is.0 refl))
same_test false true P is is' = is.1 (is'.0 refl)
same_test false false P is is' = refl

-- tracts have only one land
pub one_land_of_tracts : (lots : Lotting) (township : Designation) (rows : List Fields) (count : ℕ)
    (places places' : ℕ → ℕ → ℕ → Bool)
    → IsLandOfTracts lots township rows count places
    → IsLandOfTracts lots township rows count places' → places ≡ places'
one_land_of_tracts lots township rows count places places' land land' =
    λ i section column row.
    same_test (places section column row) (places' section column row)
    (IsInTract lots township rows count section column row) (land section column row)
    (land' section column row) i
