-- Sets of places that are made of two sets, section by section.
use Rattle.std.proofs.Common.{◌≡◌, ℕ, ◌+◌, ◌-◌, ◌≤◌, ◌<◌, Bool, false, List, length, nat_le, ap, sym, ◌∙◌}
use Rattle.std.proofs.Common.{refl, inl, inr, arith}
use Rattle.std.proofs.Math.Path.{fun_ext}
use Rattle.std.proofs.Math.ListN.{set}
use Rattle.std.proofs.lemmas.Bool.{cases_Bool}
use Rattle.std.proofs.lemmas.Bool.Decides.{nat_tests}
use Rattle.twp_grid.specs.Winding.{SECTION_COUNT, IsSection}
use Rattle.twp_land.specs.Storage.{is_section, held_by_section, held_by_lane, land_of_rows}
use Rattle.twp_land.specs.steps.Exchanges.{exchanged}
use Rattle.twp_land.proofs.LandFacts.{held_after}
use Rattle.twp_land.proofs.RowLands.{places_to, to_none, alike_next}

-- all sections
pub made_to_all : {P : Type 0} (held : P → ℕ → ℕ → Bool) (by : Bool → Bool → Bool) (plots others : List P)
    (most : ℕ)
    → SECTION_COUNT ≤ most → by false false ≡ false
    → places_to most (λ section column row.
    by (held_by_section held plots section column row) (held_by_section held others section column row))
    ≡ (λ section column row.
    by (held_by_section held plots section column row) (held_by_section held others section column row))
made_to_all held by plots others most all none =
    fun_ext (λ section. fun_ext (λ column. fun_ext (λ row. elim (cases_Bool (nat_le section most)) [
      | inl below ↦ rw below refl
      | inr above ↦
          let outside : is_section section ≡ false = grind (arith, nat_tests) in
          rw (above, outside) (sym none)
    ])))

-- there is no section 0
pub made_first : {P : Type 0} (held : P → ℕ → ℕ → Bool) (by : Bool → Bool → Bool) (made plots others : List P)
    → by false false ≡ false
    → places_to 0 (held_by_section held made)
    ≡ places_to 0 (λ section column row.
    by (held_by_section held plots section column row) (held_by_section held others section column row))
made_first held by made plots others none =
    sym (to_none held made)
    ∙ fun_ext (λ section. fun_ext (λ column. fun_ext (λ row. elim (cases_Bool (nat_le section 0)) [
      | inl zeroth ↦
          let outside : is_section section ≡ false = grind (arith, nat_tests) in
          rw (zeroth, outside) (sym none)
      | inr above ↦ rw above refl
    ])))

-- one more section's part is that of the set that is made
pub made_next : (made : List (List ℕ)) (places : ℕ → ℕ → ℕ → Bool) (index : ℕ) (lanes : List ℕ)
    → index < SECTION_COUNT → length made ≡ SECTION_COUNT
    → places_to index (land_of_rows made) ≡ places_to index places
    → held_by_lane lanes ≡ places (index + 1)
    → places_to (index + 1) (land_of_rows (set made index lanes)) ≡ places_to (index + 1) places
made_next made places index lanes below all before part =
    let back : index + 1 - 1 ≡ index = omega arith in
    let forth : index + 1 + 1 - 1 ≡ index + 1 = omega arith in
    let range : IsSection (index + 1) = (omega arith, omega arith) in
    let put : land_of_rows (set made index lanes)
    ≡ exchanged (land_of_rows made) (index + 1) (held_by_lane lanes) =
    ap (λ i. land_of_rows (set made i lanes)) (sym back)
    ∙ held_after held_by_lane made (index + 1) lanes range all in
    let start : places_to (index + 1 - 1) (land_of_rows made) ≡ places_to (index + 1 - 1) places =
    ap (λ i. places_to i (land_of_rows made)) back ∙ before ∙ ap (λ i. places_to i places) (sym back) in
    ap (λ p. places_to (index + 1) p) put
    ∙ ap (λ i. places_to i (exchanged (land_of_rows made) (index + 1) (held_by_lane lanes))) (sym forth)
    ∙ alike_next (land_of_rows made) places (index + 1) (held_by_lane lanes) (omega arith) start part
    ∙ ap (λ i. places_to i places) forth
