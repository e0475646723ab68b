-- Sets of places that are stored by section.
use Rattle.std.proofs.Common.{get_or, sym, ◌∙◌, ◌≡◌, ◌≢◌, ◌==◌, ℕ, zero, suc, ◌-◌, ◌<◌, ◌≤◌}
use Rattle.std.proofs.Common.{◌+◌, ◌&&◌, ◌||◌, Bool, true, false, List, [], ◌∷◌, length, Some, ap}
use Rattle.std.proofs.Common.{refl, inl, inr, arith, replicate}
use Rattle.std.proofs.Math.Path.{fun_ext}
use Rattle.std.proofs.Math.ListN.{set}
use Rattle.std.specs.List.{slice_get}
use Rattle.std.specs.Option.{option_map_or}
use Rattle.std.proofs.lemmas.Bool.{cases_eq, ne_eqb, eq-eqb, and_right}
use Rattle.std.proofs.lemmas.Bool.Decides.{nat_tests}
use Rattle.twp_grid.specs.Winding.{SECTION_COUNT, IsSection}
use Rattle.twp_grid.specs.Spans.{Rectangle}
use Rattle.twp_grid.specs.Lands.{no_places, union, difference, block_places, SharePlace, SamePlaces}
use Rattle.twp_grid.specs.Lands.{LieWithin}
use Rattle.twp_land.specs.Storage.{is_section, held_by_section, with_block, without_block, nothing_held}
use Rattle.twp_land.specs.Storage.{ShareHeld, SameHeld}
use Rattle.twp_land.specs.steps.Exchanges.{exchanged}

number_is : (section : ℕ) → IsSection section → is_section section ≡ true
number_is section range = grind (arith, nat_tests)

slice_get-set_same : {P : Type 0} (plots : List P) (i : ℕ) (plot : P) → i < length plots
    → slice_get (set plots i plot) i ≡ Some plot
slice_get-set_same [] i plot inside = absurd (omega arith)
slice_get-set_same (p ∷ plots) zero plot inside = refl
slice_get-set_same (p ∷ plots) (suc i) plot inside = slice_get-set_same plots i plot (omega arith)

slice_get-set_other : {P : Type 0} (plots : List P) (i j : ℕ) (plot : P) → j ≢ i
    → slice_get (set plots i plot) j ≡ slice_get plots j
slice_get-set_other [] i j plot other = refl
slice_get-set_other (p ∷ plots) zero zero plot other = absurd (other refl)
slice_get-set_other (p ∷ plots) zero (suc j) plot other = refl
slice_get-set_other (p ∷ plots) (suc i) zero plot other = refl
slice_get-set_other (p ∷ plots) (suc i) (suc j) plot other =
    slice_get-set_other plots i j plot (λ e. other (ap (λ k. suc k) e))

-- replacing a part in the list replaces it in the set
pub held_after : {P : Type 0} (held : P → ℕ → ℕ → Bool) (plots : List P) (section : ℕ) (plot : P)
    → IsSection section
    → length plots ≡ SECTION_COUNT
    → held_by_section held (set plots (section - 1) plot)
    ≡ exchanged (held_by_section held plots) section (held plot)
held_after held plots section plot range all =
    fun_ext (λ other. fun_ext (λ column. fun_ext (λ row. elim (cases_eq section other) [
      | inl same ↦
          let test : (section == other) ≡ true = eq-eqb section other same in
          rw (
            test,
            ← same,
            number_is section range,
            slice_get-set_same plots (section - 1) plot (omega (arith, range.0)),
          ) refl
      | inr apart ↦
          let test : (section == other) ≡ false = ne_eqb section other apart in
          rw test (at_other other column row apart)
    ])))
  where
    keeps : (other column row : ℕ) (number : Bool) → (number ≡ true → other - 1 ≢ section - 1)
        → (number
        && option_map_or (λ p. held p column row) (slice_get (set plots (section - 1) plot) (other - 1))
        false)
        ≡ (number && option_map_or (λ p. held p column row) (slice_get plots (other - 1)) false)
    keeps other column row true differ =
        rw (slice_get-set_other plots (section - 1) (other - 1) plot (differ refl)) refl
    keeps other column row false differ = refl

    at_other : (other column row : ℕ) → section ≢ other
        → held_by_section held (set plots (section - 1) plot) other column row
        ≡ held_by_section held plots other column row
    at_other other column row apart =
        keeps other column row (is_section other) (λ number e. apart (grind (arith, nat_tests)))

-- replacing a section's part by itself with a block adds the block
pub exchanged_is_union : (places : ℕ → ℕ → ℕ → Bool) (section : ℕ) (block : Rectangle)
    → exchanged places section (with_block (places section) block) ≡ union places (block_places section block)
exchanged_is_union places section block =
    fun_ext (λ other. fun_ext (λ column. fun_ext (λ row. elim (cases_eq section other) [
      | inl same ↦
          let test : (section == other) ≡ true = eq-eqb section other same in
          rw (test, same) refl
      | inr apart ↦
          let test : (section == other) ≡ false = ne_eqb section other apart in
          rw test (or_false (places other column row))
    ])))
  where
    or_false : (b : Bool) → b ≡ (b || false)
    or_false true = refl
    or_false false = refl

-- replacing a section's part by itself without a block removes the block
exchanged_is_difference : (places : ℕ → ℕ → ℕ → Bool) (section : ℕ) (block : Rectangle)
    → exchanged places section (without_block (places section) block)
    ≡ difference places (block_places section block)
exchanged_is_difference places section block =
    fun_ext (λ other. fun_ext (λ column. fun_ext (λ row. elim (cases_eq section other) [
      | inl same ↦
          let test : (section == other) ≡ true = eq-eqb section other same in
          rw (test, same) refl
      | inr apart ↦
          let test : (section == other) ≡ false = ne_eqb section other apart in
          rw test (and_true (places other column row))
    ])))
  where
    and_true : (b : Bool) → b ≡ (b && true)
    and_true true = refl
    and_true false = refl

-- if each part is empty, so is the set
pub held_nowhere : {P : Type 0} (held : P → ℕ → ℕ → Bool) (plot : P) (n : ℕ) → held plot ≡ nothing_held
    → held_by_section held (replicate n plot) ≡ no_places
held_nowhere {P = P} held plot n none =
    fun_ext (λ section. fun_ext (λ column. fun_ext (λ row.
    and_right (is_section section) _ (no_part n (section - 1) column row))))
  where
    no_part : (n i column row : ℕ)
        → option_map_or (λ p. held p column row) (slice_get (replicate n plot) i) false ≡ false
    no_part zero i column row = refl
    no_part (suc n) zero column row = ap (λ h. h column row) none
    no_part (suc n) (suc i) column row = no_part n i column row

-- a section's part, changed where it is stored
changed_where_kept : {P : Type 0} (held : P → ℕ → ℕ → Bool) (change : (ℕ → ℕ → Bool) → ℕ → ℕ → Bool)
    (plots : List P) (section : ℕ) (plot plot' : P)
    → IsSection section → length plots ≡ SECTION_COUNT
    → held plot' ≡ change (held (get_or plots (section - 1) plot))
    → held_by_section held (set plots (section - 1) plot')
    ≡ exchanged (held_by_section held plots) section (change (held_by_section held plots section))
changed_where_kept {P = P} held change plots section plot plot' range all changed =
    held_after held plots section plot' range all
    ∙ ap (λ part. exchanged (held_by_section held plots) section part)
    (changed ∙ ap (λ part. change part) (sym kept))
  where
    found : (plots : List P) (i : ℕ) → i < length plots → slice_get plots i ≡ Some (get_or plots i plot)
    found [] i inside = absurd (omega arith)
    found (p ∷ plots) zero inside = refl
    found (p ∷ plots) (suc i) inside = found plots i (omega arith)

    kept : held_by_section held plots section ≡ held (get_or plots (section - 1) plot)
    kept = fun_ext (λ column. fun_ext (λ row.
        rw (number_is section range, found plots (section - 1) (omega (arith, range.0))) refl))

pub added_where_kept : {P : Type 0} (held : P → ℕ → ℕ → Bool) (plots : List P) (section : ℕ)
    (block : Rectangle) (plot plot' : P)
    → IsSection section
    → length plots ≡ SECTION_COUNT → held plot' ≡ with_block (held (get_or plots (section - 1) plot)) block
    → held_by_section held (set plots (section - 1) plot')
    ≡ union (held_by_section held plots) (block_places section block)
added_where_kept held plots section block plot plot' range all added =
    changed_where_kept held (λ part. with_block part block) plots section plot plot' range all added
    ∙ exchanged_is_union (held_by_section held plots) section block

pub removed_where_kept : {P : Type 0} (held : P → ℕ → ℕ → Bool) (plots : List P) (section : ℕ)
    (block : Rectangle) (plot plot' : P)
    → IsSection section
    → length plots ≡ SECTION_COUNT → held plot' ≡ without_block (held (get_or plots (section - 1) plot)) block
    → held_by_section held (set plots (section - 1) plot')
    ≡ difference (held_by_section held plots) (block_places section block)
removed_where_kept held plots section block plot plot' range all removed =
    changed_where_kept held (λ part. without_block part block) plots section plot plot' range all removed
    ∙ exchanged_is_difference (held_by_section held plots) section block

-- the part that is stored at an index belongs to the section whose number is one more
pub kept_at : {P : Type 0} (held : P → ℕ → ℕ → Bool) (plots : List P) (index : ℕ) (plot : P)
    → index < SECTION_COUNT → length plots ≡ SECTION_COUNT
    → held_by_section held plots (index + 1) ≡ held (get_or plots index plot)
kept_at {P = P} held plots index plot below all =
    let back : index + 1 - 1 ≡ index = omega arith in
    let number : is_section (index + 1) ≡ true = number_is (index + 1) (omega arith, omega arith) in
    fun_ext (λ column. fun_ext (λ row. rw (number, back, found plots index (omega arith)) refl))
  where
    found : (plots : List P) (i : ℕ) → i < length plots → slice_get plots i ≡ Some (get_or plots i plot)
    found [] i inside = absurd (omega arith)
    found (p ∷ plots) zero inside = refl
    found (p ∷ plots) (suc i) inside = found plots i (omega arith)

-- two sets share a place if two parts at one index do
pub share_found : {P : Type 0} (held : P → ℕ → ℕ → Bool) (plots others : List P) (index : ℕ) (plot other : P)
    → index < SECTION_COUNT
    → length plots ≡ SECTION_COUNT → length others ≡ SECTION_COUNT
    → ShareHeld (held (get_or plots index plot)) (held (get_or others index other))
    → SharePlace (held_by_section held plots) (held_by_section held others)
share_found held plots others index plot other below all all-others shared =
    record {
      section = index + 1;
      column = shared.column;
      row = shared.row;
      in_first =
          ap (λ h. h shared.column shared.row) (kept_at held plots index plot below all) ∙ shared.in_first;
      in_second =
          ap (λ h. h shared.column shared.row) (kept_at held others index other below all-others)
          ∙ shared.in_second;
    }

-- up to a section, no place is in both sets
abbrev pub AreApartTo : ℕ → (ℕ → ℕ → ℕ → Bool) → (ℕ → ℕ → ℕ → Bool) → Type 0
AreApartTo most places more = (section column row : ℕ) → section ≤ most
    → places section column row ≡ true → more section column row ≡ true → ⊥

pub apart_next : {P : Type 0} (held : P → ℕ → ℕ → Bool) (plots others : List P) (index : ℕ) (plot other : P)
    → index < SECTION_COUNT
    → length plots ≡ SECTION_COUNT → length others ≡ SECTION_COUNT
    → (ShareHeld (held (get_or plots index plot)) (held (get_or others index other)) → ⊥)
    → AreApartTo index (held_by_section held plots) (held_by_section held others)
    → AreApartTo (index + 1) (held_by_section held plots) (held_by_section held others)
apart_next held plots others index plot other below all all-others apart before section column row most is
    is' = elim (cases_eq section (index + 1)) [
      | inl here ↦
          let first : held_by_section held plots (index + 1) column row ≡ true =
          ap (λ s. held_by_section held plots s column row) (sym here) ∙ is in
          let second : held_by_section held others (index + 1) column row ≡ true =
          ap (λ s. held_by_section held others s column row) (sym here) ∙ is' in
          apart (record {
            column = column;
            row = row;
            in_first = sym (ap (λ h. h column row) (kept_at held plots index plot below all)) ∙ first;
            in_second =
                sym (ap (λ h. h column row) (kept_at held others index other below all-others)) ∙ second;
          })
      | inr earlier ↦ before section column row (omega arith) is is'
    ]

-- up to a section, the same places are in both sets
abbrev pub AreSameTo : ℕ → (ℕ → ℕ → ℕ → Bool) → (ℕ → ℕ → ℕ → Bool) → Type 0
AreSameTo most places more =
    (section column row : ℕ) → section ≤ most → places section column row ≡ more section column row

pub same_next : {P : Type 0} (held : P → ℕ → ℕ → Bool) (plots others : List P) (index : ℕ) (plot other : P)
    → index < SECTION_COUNT
    → length plots ≡ SECTION_COUNT → length others ≡ SECTION_COUNT
    → SameHeld (held (get_or plots index plot)) (held (get_or others index other))
    → AreSameTo index (held_by_section held plots) (held_by_section held others)
    → AreSameTo (index + 1) (held_by_section held plots) (held_by_section held others)
same_next held plots others index plot other below all all-others same before section column row most =
    elim (cases_eq section (index + 1)) [
      | inl here ↦
          ap (λ s. held_by_section held plots s column row) here
          ∙ ap (λ h. h column row) (kept_at held plots index plot below all) ∙ same column row
          ∙ sym (ap (λ h. h column row) (kept_at held others index other below all-others))
          ∙ sym (ap (λ s. held_by_section held others s column row) here)
      | inr earlier ↦ before section column row (omega arith)
    ]

-- if the sets are the same, so are the parts at one index
pub same_at : {P : Type 0} (held : P → ℕ → ℕ → Bool) (plots others : List P) (index : ℕ) (plot other : P)
    → index < SECTION_COUNT
    → length plots ≡ SECTION_COUNT → length others ≡ SECTION_COUNT
    → SamePlaces (held_by_section held plots) (held_by_section held others)
    → SameHeld (held (get_or plots index plot)) (held (get_or others index other))
same_at held plots others index plot other below all all-others same column row =
    sym (ap (λ h. h column row) (kept_at held plots index plot below all)) ∙ same (index + 1) column row
    ∙ ap (λ h. h column row) (kept_at held others index other below all-others)

-- one section's part is emptied
pub cleared_next : {P : Type 0} (held : P → ℕ → ℕ → Bool) (now : List P) (index last : ℕ) (empty : P)
    → index < SECTION_COUNT → length now ≡ SECTION_COUNT
    → held empty ≡ nothing_held → LieWithin (held_by_section held now) (index + 1) last
    → LieWithin (held_by_section held (set now index empty)) (index + 1 + 1) last
cleared_next held now index last empty below all none before section column row is =
    let back : index + 1 - 1 ≡ index = omega arith in
    let put : held_by_section held (set now index empty)
    ≡ exchanged (held_by_section held now) (index + 1) (held empty) =
    ap (λ i. held_by_section held (set now i empty)) (sym back)
    ∙ held_after held now (index + 1) empty (omega arith, omega arith) all in
    let there : exchanged (held_by_section held now) (index + 1) (held empty) section column row ≡ true =
    sym (ap (λ p. p section column row) put) ∙ is in
    elim (cases_eq (index + 1) section) [
      | inl same ↦
          let test : (index + 1 == section) ≡ true = eq-eqb (index + 1) section same in
          absurd (cc (rw test at there, ap (λ h. h column row) none))
      | inr apart ↦
          let test : (index + 1 == section) ≡ false = ne_eqb (index + 1) section apart in
          let lies = before section column row (rw test at there) in
          (omega (arith, lies.0, apart), lies.1)
    ]
