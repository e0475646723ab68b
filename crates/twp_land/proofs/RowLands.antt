-- Sets of places and their rows of bits, section by section.
use Rattle.std.proofs.Common.{sym, subst, ◌∙◌, ◌≡◌, ◌==◌, ℕ, ◌-◌, ◌≤◌, ◌+◌, ◌&&◌, nat_le}
use Rattle.std.proofs.Common.{Bool, true, false, List, length, ap, refl, inl, inr, arith}
use Rattle.std.proofs.Math.Path.{fun_ext}
use Rattle.std.proofs.Math.ListN.{set}
use Rattle.std.proofs.lemmas.Bool.{cases_eq, cases_Bool, ne_eqb, eq-eqb, and_right}
use Rattle.std.proofs.lemmas.Bool.Decides.{nat_tests}
use Rattle.twp_grid.specs.Winding.{SECTION_COUNT, IsSection}
use Rattle.twp_grid.specs.Lands.{no_places, LieWithin}
use Rattle.twp_land.specs.Storage.{is_section, held_by_section, nothing_held}
use Rattle.twp_land.specs.Storage.{SameHeld}
use Rattle.twp_land.specs.steps.Exchanges.{exchanged}
use Rattle.twp_land.proofs.LandFacts.{held_after}
use Rattle.twp_land.proofs.LandRanges.{exchanged_within}

-- one section's part is replaced where it is stored
pub put_within : {P : Type 0} (held : P → ℕ → ℕ → Bool) (plots : List P) (section : ℕ) (plot : P)
    (first last first' last' : ℕ)
    → IsSection section → length plots ≡ SECTION_COUNT
    → first' ≤ first → last ≤ last' → first' ≤ section → section ≤ last'
    → LieWithin (held_by_section held plots) first last
    → LieWithin (held_by_section held (set plots (section - 1) plot)) first' last'
put_within held plots section plot first last first' last' range all down up below above before =
    subst (λ p. LieWithin p first' last') (sym (held_after held plots section plot range all))
    (exchanged_within (held_by_section held plots) section (held plot) first last first' last' down up below
    above before)

-- the set's places in the sections up to one
abbrev pub places_to : ℕ → (ℕ → ℕ → ℕ → Bool) → ℕ → ℕ → ℕ → Bool
places_to most places section column row = nat_le section most && places section column row

-- there is no section 0
pub to_none : {P : Type 0} (held : P → ℕ → ℕ → Bool) (plots : List P)
    → no_places ≡ places_to 0 (held_by_section held plots)
to_none held plots =
    fun_ext (λ section. fun_ext (λ column. fun_ext (λ row. elim (cases_Bool (nat_le section 0)) [
      | inl zeroth ↦
          let outside : is_section section ≡ false = grind (arith, nat_tests) in
          rw (zeroth, outside) refl
      | inr above ↦ rw above refl
    ])))

-- all sections
pub to_all : {P : Type 0} (held : P → ℕ → ℕ → Bool) (plots : List P) (most : ℕ) → SECTION_COUNT ≤ most
    → places_to most (held_by_section held plots) ≡ held_by_section held plots
to_all held plots most all =
    fun_ext (λ section. fun_ext (λ column. fun_ext (λ row. elim (cases_Bool (nat_le section most)) [
      | inl below ↦ rw below refl
      | inr above ↦
          let outside : is_section section ≡ false = grind (arith, nat_tests) in
          rw (above, outside) refl
    ])))

-- one more section's part is put into a set
pub put_next : (places more : ℕ → ℕ → ℕ → Bool) (number : ℕ) (held : ℕ → ℕ → Bool) → 1 ≤ number
    → places ≡ places_to (number - 1) more → held ≡ more number
    → exchanged places number held ≡ places_to (number + 1 - 1) more
put_next places more number held least is part =
    fun_ext (λ section. fun_ext (λ column. fun_ext (λ row. elim (cases_eq number section) [
      | inl same ↦
          let test : (number == section) ≡ true = eq-eqb number section same in
          let within : nat_le section (number + 1 - 1) ≡ true = grind (arith, nat_tests) in
          rw (test, within)
          (ap (λ h. h column row) part ∙ ap (λ s. more s column row) same)
      | inr apart ↦
          let test : (number == section) ≡ false = ne_eqb number section apart in
          let alike : nat_le section (number - 1) ≡ nat_le section (number + 1 - 1) =
          grind (arith, nat_tests) in
          rw test
          (ap (λ p. p section column row) is ∙ ap (λ b. b && more section column row) alike)
    ])))

-- one more section has no places
pub skip_next : (places more : ℕ → ℕ → ℕ → Bool) (number : ℕ) → 1 ≤ number
    → places ≡ places_to (number - 1) more → SameHeld (more number) nothing_held
    → places ≡ places_to (number + 1 - 1) more
skip_next places more number least is none =
    is ∙ fun_ext (λ section. fun_ext (λ column. fun_ext (λ row. elim (cases_eq number section) [
      | inl same ↦
          let empty : more section column row ≡ false =
          ap (λ s. more s column row) (sym same) ∙ none column row in
          rw empty
          (and_right (nat_le section (number - 1)) false refl
          ∙ sym (and_right (nat_le section (number + 1 - 1)) false refl))
      | inr apart ↦
          let alike : nat_le section (number - 1) ≡ nat_le section (number + 1 - 1) =
          grind (arith, nat_tests) in
          ap (λ b. b && more section column row) alike
    ])))

-- one more section's part is replaced by that of another set
pub alike_next : (now places : ℕ → ℕ → ℕ → Bool) (number : ℕ) (held : ℕ → ℕ → Bool) → 1 ≤ number
    → places_to (number - 1) now ≡ places_to (number - 1) places → held ≡ places number
    → places_to (number + 1 - 1) (exchanged now number held) ≡ places_to (number + 1 - 1) places
alike_next now places number held least is part =
    fun_ext (λ section. fun_ext (λ column. fun_ext (λ row. elim (cases_eq number section) [
      | inl same ↦
          let test : (number == section) ≡ true = eq-eqb number section same in
          rw test
          (ap (λ b. nat_le section (number + 1 - 1) && b)
          (ap (λ h. h column row) part ∙ ap (λ s. places s column row) same))
      | inr apart ↦
          let test : (number == section) ≡ false = ne_eqb number section apart in
          let alike : nat_le section (number - 1) ≡ nat_le section (number + 1 - 1) =
          grind (arith, nat_tests) in
          rw test
          (ap (λ b. b && now section column row) (sym alike)
          ∙ ap (λ p. p section column row) is
          ∙ ap (λ b. b && places section column row) alike)
    ])))
