-- The places that two sets share, stored section by section.
use Rattle.std.proofs.Common.{get_or, sym, ◌∙◌, ◌≡◌, ◌==◌, ℕ, ◌-◌, ◌<◌, ◌≤◌, ◌+◌, ◌&&◌, ◌||◌, not, nat_le}
use Rattle.std.proofs.Common.{Bool, true, false, List, length, ap, refl, inl, inr, arith}
use Rattle.std.proofs.Math.Path.{fun_ext}
use Rattle.std.proofs.Math.ListN.{set}
use Rattle.std.proofs.lemmas.Bool.{cases_eq, cases_Bool, ne_eqb, eq-eqb, and_parts}
use Rattle.std.proofs.lemmas.Bool.Decides.{nat_tests}
use Rattle.twp_grid.specs.Winding.{SECTION_COUNT, IsSection}
use Rattle.twp_grid.specs.Lands.{intersection, LieWithin}
use Rattle.twp_land.specs.Storage.{held_by_section, held_by_both}
use Rattle.twp_land.specs.steps.Exchanges.{exchanged}
use Rattle.twp_land.proofs.LandFacts.{held_after, kept_at}

-- up to a section the places in both sets, and after it those of the first
abbrev pub common_to : ℕ → (ℕ → ℕ → ℕ → Bool) → (ℕ → ℕ → ℕ → Bool) → ℕ → ℕ → ℕ → Bool
common_to most places more section column row =
    places section column row && (not (nat_le section most) || more section column row)

-- before the first section that contains a place
pub common_first : (places more : ℕ → ℕ → ℕ → Bool) (before first last : ℕ) → LieWithin places first last
    → before < first
    → places ≡ common_to before places more
common_first places more before first last within after =
    fun_ext (λ section. fun_ext (λ column. fun_ext (λ row. elim (cases_Bool (places section column row)) [
      | inl held ↦
          let lies = within section column row held in
          let above : nat_le section before ≡ false = grind (arith, nat_tests, lies.0) in
          rw (held, above) refl
      | inr not ↦ rw not refl
    ])))

-- after the last section that contains a place
pub common_all : (places more : ℕ → ℕ → ℕ → Bool) (first last most : ℕ) → LieWithin places first last
    → last ≤ most
    → common_to most places more ≡ intersection places more
common_all places more first last most within all =
    fun_ext (λ section. fun_ext (λ column. fun_ext (λ row. elim (cases_Bool (places section column row)) [
      | inl held ↦
          let lies = within section column row held in
          let below : nat_le section most ≡ true = grind (arith, nat_tests, lies.1) in
          rw (held, below) refl
      | inr not ↦ rw not refl
    ])))

-- the common places lie in the same range of sections
pub common_within : (places more now : ℕ → ℕ → ℕ → Bool) (most first last : ℕ)
    → now ≡ common_to most places more → LieWithin places first last
    → LieWithin now first last
common_within places more now most first last is before section column row held =
    before section column row
    (and_parts (places section column row) _ (sym (ap (λ p. p section column row) is) ∙ held)).0

pub common_next : {P : Type 0} (held : P → ℕ → ℕ → Bool) (plots others now : List P) (index : ℕ)
    (plot other common : P)
    → index < SECTION_COUNT
    → length now ≡ SECTION_COUNT → length others ≡ SECTION_COUNT
    → held common ≡ held_by_both (held (get_or now index plot)) (held (get_or others index other))
    → held_by_section held now ≡ common_to index (held_by_section held plots) (held_by_section held others)
    → held_by_section held (set now index common)
    ≡ common_to (index + 1) (held_by_section held plots) (held_by_section held others)
common_next held plots others now index plot other common below all all-others is before =
    let back : index + 1 - 1 ≡ index = omega arith in
    let range : IsSection (index + 1) = (omega arith, omega arith) in
    let put : held_by_section held (set now index common)
    ≡ exchanged (held_by_section held now) (index + 1) (held common) =
    ap (λ i. held_by_section held (set now i common)) (sym back)
    ∙ held_after held now (index + 1) common range all in
    let part : held common
    ≡ held_by_both (held_by_section held now (index + 1)) (held_by_section held others (index + 1)) =
    is
    ∙ (λ i.
    held_by_both (sym (kept_at held now index plot below all) i)
    (sym (kept_at held others index other below all-others) i)) in
    put ∙ ap (λ h. exchanged (held_by_section held now) (index + 1) h) part
    ∙ ap
    (λ p. exchanged p (index + 1) (held_by_both (p (index + 1)) (held_by_section held others (index + 1))))
    before
    ∙ exchange (held_by_section held plots) (held_by_section held others) index
  where
    both : (a b c : Bool) → c ≡ false → ((a && (not c || b)) && b) ≡ (a && (not true || b))
    both true true c none = rw none refl
    both true false c none = rw none refl
    both false b c none = refl

    exchange : (places more : ℕ → ℕ → ℕ → Bool) (index : ℕ)
        → exchanged (common_to index places more) (index + 1)
        (held_by_both (common_to index places more (index + 1)) (more (index + 1)))
        ≡ common_to (index + 1) places more
    exchange places more index =
        fun_ext (λ section. fun_ext (λ column. fun_ext (λ row. elim (cases_eq (index + 1) section) [
          | inl same ↦
              let test : (index + 1 == section) ≡ true = eq-eqb (index + 1) section same in
              let above : nat_le (index + 1) index ≡ false = grind (arith, nat_tests) in
              let within : nat_le (index + 1) (index + 1) ≡ true = grind (arith, nat_tests) in
              rw (test, ← same, within)
              (both (places (index + 1) column row) (more (index + 1) column row) (nat_le (index + 1) index)
              above)
          | inr apart ↦
              let test : (index + 1 == section) ≡ false = ne_eqb (index + 1) section apart in
              let same : nat_le section index ≡ nat_le section (index + 1) = grind (arith, nat_tests) in
              rw test (ap (λ b. places section column row && (not b || more section column row)) same)
        ])))
