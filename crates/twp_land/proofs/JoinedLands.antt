-- Two sets of places, joined section by section.
use Rattle.std.proofs.Common.{get_or, sym, ◌∙◌, ◌≡◌, ◌==◌, ℕ, ◌-◌, ◌<◌, ◌≤◌, ◌+◌, ◌&&◌, ◌||◌, ◌⊎◌, nat_le}
use Rattle.std.proofs.Common.{Bool, true, false, List, length, ap, refl, inl, inr, arith}
use Rattle.std.proofs.Math.Path.{fun_ext}
use Rattle.std.proofs.Math.ListN.{set}
use Rattle.std.proofs.lemmas.Bool.{cases_eq, cases_Bool, ne_eqb, eq-eqb, and_right, and_parts}
use Rattle.std.proofs.lemmas.Bool.Decides.{nat_tests}
use Rattle.twp_grid.specs.Winding.{SECTION_COUNT, IsSection}
use Rattle.twp_grid.specs.Lands.{union, LieWithin}
use Rattle.twp_land.specs.Storage.{held_by_section, held_by_either}
use Rattle.twp_land.specs.steps.Exchanges.{exchanged}
use Rattle.twp_land.proofs.LandFacts.{held_after, kept_at}

-- the places in either set up to a section, and after it those of the first
abbrev pub joined_to : ℕ → (ℕ → ℕ → ℕ → Bool) → (ℕ → ℕ → ℕ → Bool) → ℕ → ℕ → ℕ → Bool
joined_to most places more section column row =
    places section column row || (nat_le section most && more section column row)

pub joined_first : (places more : ℕ → ℕ → ℕ → Bool) (before first last : ℕ) → LieWithin more first last
    → before < first
    → places ≡ joined_to before places more
joined_first places more before first last within after =
    fun_ext (λ section. fun_ext (λ column. fun_ext (λ row.
    none section column row (cases_Bool (more section column row)) (places section column row))))
  where
    none : (section column row : ℕ) → (more section column row ≡ true) ⊎ (more section column row ≡ false)
        → (b : Bool)
        → b ≡ (b || (nat_le section before && more section column row))
    none section column row held true = refl
    none section column row (inl held) false =
        let lies = within section column row held in
        let above : nat_le section before ≡ false = grind (arith, nat_tests) in
        rw above refl
    none section column row (inr not) false = rw not (sym (and_right (nat_le section before) false refl))

pub joined_all : (places more : ℕ → ℕ → ℕ → Bool) (first last most : ℕ) → LieWithin more first last
    → last ≤ most
    → joined_to most places more ≡ union places more
joined_all places more first last most within all =
    fun_ext (λ section. fun_ext (λ column. fun_ext (λ row.
    ap (λ b. places section column row || b)
    (inside section column row (cases_Bool (more section column row))))))
  where
    inside : (section column row : ℕ) → (more section column row ≡ true) ⊎ (more section column row ≡ false)
        → (nat_le section most && more section column row) ≡ more section column row
    inside section column row (inl held) =
        let lies = within section column row held in
        let below : nat_le section most ≡ true = grind (arith, nat_tests) in
        rw below refl
    inside section column row (inr not) = rw not (and_right (nat_le section most) false refl)

-- joined in a range wide enough for both
pub joined_within : (places more now : ℕ → ℕ → ℕ → Bool) (most first last first' last' : ℕ)
    → now ≡ joined_to most places more
    → first ≤ first' → last' ≤ last → LieWithin places first last → LieWithin more first' last'
    → LieWithin now first last
joined_within places more now most first last first' last' is down up before added section column row held =
    elim (cases_Bool (places section column row)) [
      | inl there ↦ before section column row there
      | inr not ↦
          let joined : joined_to most places more section column row ≡ true =
          sym (ap (λ p. p section column row) is) ∙ held in
          let lies = added section column row (and_parts (nat_le section most) _ (rw not at joined)).1 in
          (omega (arith, lies.0), omega (arith, lies.1))
    ]

pub joined_next : {P : Type 0} (held : P → ℕ → ℕ → Bool) (plots others now : List P) (index : ℕ)
    (plot other joined : P)
    → index < SECTION_COUNT
    → length now ≡ SECTION_COUNT → length others ≡ SECTION_COUNT
    → held joined ≡ held_by_either (held (get_or now index plot)) (held (get_or others index other))
    → held_by_section held now ≡ joined_to index (held_by_section held plots) (held_by_section held others)
    → held_by_section held (set now index joined)
    ≡ joined_to (index + 1) (held_by_section held plots) (held_by_section held others)
joined_next held plots others now index plot other joined below all all-others is before =
    let back : index + 1 - 1 ≡ index = omega arith in
    let range : IsSection (index + 1) = (omega arith, omega arith) in
    let put : held_by_section held (set now index joined)
    ≡ exchanged (held_by_section held now) (index + 1) (held joined) =
    ap (λ i. held_by_section held (set now i joined)) (sym back)
    ∙ held_after held now (index + 1) joined range all in
    let part : held joined
    ≡ held_by_either (held_by_section held now (index + 1)) (held_by_section held others (index + 1)) =
    is
    ∙ (λ i.
    held_by_either (sym (kept_at held now index plot below all) i)
    (sym (kept_at held others index other below all-others) i)) in
    put ∙ ap (λ h. exchanged (held_by_section held now) (index + 1) h) part
    ∙ ap
    (λ p. exchanged p (index + 1) (held_by_either (p (index + 1)) (held_by_section held others (index + 1))))
    before
    ∙ exchange (held_by_section held plots) (held_by_section held others) index
  where
    both : (a b c : Bool) → c ≡ false → ((a || (c && b)) || b) ≡ (a || (true && b))
    both true b c none = refl
    both false b c none = rw none refl

    exchange : (places more : ℕ → ℕ → ℕ → Bool) (index : ℕ)
        → exchanged (joined_to index places more) (index + 1)
        (held_by_either (joined_to index places more (index + 1)) (more (index + 1)))
        ≡ joined_to (index + 1) places more
    exchange places more index =
        fun_ext (λ section. fun_ext (λ column. fun_ext (λ row. elim (cases_eq (index + 1) section) [
          | inl same ↦
              let test : (index + 1 == section) ≡ true = eq-eqb (index + 1) section same in
              let above : nat_le (index + 1) index ≡ false = grind (arith, nat_tests) in
              let within : nat_le (index + 1) (index + 1) ≡ true = grind (arith, nat_tests) in
              rw (test, ← same, within)
              (both (places (index + 1) column row) (more (index + 1) column row) (nat_le (index + 1) index)
              above)
          | inr apart ↦
              let test : (index + 1 == section) ≡ false = ne_eqb (index + 1) section apart in
              let same : nat_le section index ≡ nat_le section (index + 1) = grind (arith, nat_tests) in
              rw test (ap (λ b. places section column row || (b && more section column row)) same)
        ])))
