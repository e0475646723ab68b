-- A set of places without those of another, and whether it contains them all, section by section.
use Rattle.std.proofs.Common.{get_or, sym, ◌∙◌, ◌≡◌, ◌==◌, ℕ, ◌-◌, ◌<◌, ◌≤◌, ◌+◌, ◌&&◌, ◌⊎◌, not, nat_le}
use Rattle.std.proofs.Common.{Bool, true, false, List, length, ap, refl, inl, inr, arith}
use Rattle.std.proofs.Math.Path.{fun_ext}
use Rattle.std.proofs.Math.ListN.{set}
use Rattle.std.proofs.lemmas.Bool.{cases_eq, cases_Bool, ne_eqb, eq-eqb, and_right, and_parts}
use Rattle.std.proofs.lemmas.Bool.Decides.{nat_tests}
use Rattle.twp_grid.specs.Winding.{SECTION_COUNT, IsSection}
use Rattle.twp_grid.specs.Lands.{difference, LieWithin, ContainsAll}
use Rattle.twp_land.specs.Storage.{held_by_section, held_without, ContainsHeld}
use Rattle.twp_land.specs.steps.Exchanges.{exchanged}
use Rattle.twp_land.proofs.LandFacts.{held_after, kept_at}

-- up to a section the places of the first set alone, and after it all of the first
abbrev pub taken_to : ℕ → (ℕ → ℕ → ℕ → Bool) → (ℕ → ℕ → ℕ → Bool) → ℕ → ℕ → ℕ → Bool
taken_to most places less section column row =
    places section column row && not (nat_le section most && less section column row)

-- before the first section that contains a place of the second
pub taken_first : (places less : ℕ → ℕ → ℕ → Bool) (before first last : ℕ) → LieWithin less first last
    → before < first
    → places ≡ taken_to before places less
taken_first places less before first last within after =
    fun_ext (λ section. fun_ext (λ column. fun_ext (λ row.
    none section column row (cases_Bool (less section column row)) (places section column row))))
  where
    none : (section column row : ℕ) → (less section column row ≡ true) ⊎ (less section column row ≡ false)
        → (b : Bool)
        → b ≡ (b && not (nat_le section before && less section column row))
    none section column row held false = refl
    none section column row (inl held) true =
        let lies = within section column row held in
        let above : nat_le section before ≡ false = grind (arith, nat_tests) in
        rw above refl
    none section column row (inr not_held) true =
        rw not_held (ap (λ b. not b) (sym (and_right (nat_le section before) false refl)))

-- after the last section that contains a place of the second
pub taken_all : (places less : ℕ → ℕ → ℕ → Bool) (first last most : ℕ) → LieWithin less first last
    → last ≤ most
    → taken_to most places less ≡ difference places less
taken_all places less first last most within all =
    fun_ext (λ section. fun_ext (λ column. fun_ext (λ row.
    ap (λ b. places section column row && not b)
    (inside section column row (cases_Bool (less section column row))))))
  where
    inside : (section column row : ℕ) → (less section column row ≡ true) ⊎ (less section column row ≡ false)
        → (nat_le section most && less section column row) ≡ less section column row
    inside section column row (inl held) =
        let lies = within section column row held in
        let below : nat_le section most ≡ true = grind (arith, nat_tests) in
        rw below refl
    inside section column row (inr not_held) =
        rw not_held (and_right (nat_le section most) false refl)

-- what is left lies in the same range of sections
pub taken_within : (places less now : ℕ → ℕ → ℕ → Bool) (most first last : ℕ)
    → now ≡ taken_to most places less → LieWithin places first last
    → LieWithin now first last
taken_within places less now most first last is before section column row held =
    before section column row
    (and_parts (places section column row) _ (sym (ap (λ p. p section column row) is) ∙ held)).0

pub taken_next : {P : Type 0} (held : P → ℕ → ℕ → Bool) (plots others now : List P) (index : ℕ)
    (plot other taken : P)
    → index < SECTION_COUNT
    → length now ≡ SECTION_COUNT → length others ≡ SECTION_COUNT
    → held taken ≡ held_without (held (get_or now index plot)) (held (get_or others index other))
    → held_by_section held now ≡ taken_to index (held_by_section held plots) (held_by_section held others)
    → held_by_section held (set now index taken)
    ≡ taken_to (index + 1) (held_by_section held plots) (held_by_section held others)
taken_next held plots others now index plot other taken below all all-others is before =
    let back : index + 1 - 1 ≡ index = omega arith in
    let range : IsSection (index + 1) = (omega arith, omega arith) in
    let put : held_by_section held (set now index taken)
    ≡ exchanged (held_by_section held now) (index + 1) (held taken) =
    ap (λ i. held_by_section held (set now i taken)) (sym back)
    ∙ held_after held now (index + 1) taken range all in
    let part : held taken
    ≡ held_without (held_by_section held now (index + 1)) (held_by_section held others (index + 1)) =
    is
    ∙ (λ i.
    held_without (sym (kept_at held now index plot below all) i)
    (sym (kept_at held others index other below all-others) i)) in
    put ∙ ap (λ h. exchanged (held_by_section held now) (index + 1) h) part
    ∙ ap
    (λ p. exchanged p (index + 1) (held_without (p (index + 1)) (held_by_section held others (index + 1))))
    before
    ∙ exchange (held_by_section held plots) (held_by_section held others) index
  where
    both : (a b c : Bool) → c ≡ false → ((a && not (c && b)) && not b) ≡ (a && not (true && b))
    both true true c none = rw none refl
    both true false c none = rw none refl
    both false b c none = refl

    exchange : (places less : ℕ → ℕ → ℕ → Bool) (index : ℕ)
        → exchanged (taken_to index places less) (index + 1)
        (held_without (taken_to index places less (index + 1)) (less (index + 1)))
        ≡ taken_to (index + 1) places less
    exchange places less index =
        fun_ext (λ section. fun_ext (λ column. fun_ext (λ row. elim (cases_eq (index + 1) section) [
          | inl same ↦
              let test : (index + 1 == section) ≡ true = eq-eqb (index + 1) section same in
              let above : nat_le (index + 1) index ≡ false = grind (arith, nat_tests) in
              let within : nat_le (index + 1) (index + 1) ≡ true = grind (arith, nat_tests) in
              rw (test, ← same, within)
              (both (places (index + 1) column row) (less (index + 1) column row) (nat_le (index + 1) index)
              above)
          | inr apart ↦
              let test : (index + 1 == section) ≡ false = ne_eqb (index + 1) section apart in
              let same : nat_le section index ≡ nat_le section (index + 1) = grind (arith, nat_tests) in
              rw test (ap (λ b. places section column row && not (b && less section column row)) same)
        ])))

-- up to a section, each place of the second set is in the first
abbrev pub ContainsTo : ℕ → (ℕ → ℕ → ℕ → Bool) → (ℕ → ℕ → ℕ → Bool) → Type 0
ContainsTo most places more = (section column row : ℕ) → section ≤ most
    → more section column row ≡ true → places section column row ≡ true

pub contains_next : {P : Type 0} (held : P → ℕ → ℕ → Bool) (plots others : List P) (index : ℕ)
    (plot other : P)
    → index < SECTION_COUNT
    → length plots ≡ SECTION_COUNT → length others ≡ SECTION_COUNT
    → ContainsHeld (held (get_or plots index plot)) (held (get_or others index other))
    → ContainsTo index (held_by_section held plots) (held_by_section held others)
    → ContainsTo (index + 1) (held_by_section held plots) (held_by_section held others)
contains_next held plots others index plot other below all all-others contains before section column row
    most is = elim (cases_eq section (index + 1)) [
      | inl here ↦
          let there : held_by_section held others (index + 1) column row ≡ true =
          ap (λ s. held_by_section held others s column row) (sym here) ∙ is in
          ap (λ s. held_by_section held plots s column row) here
          ∙ ap (λ h. h column row) (kept_at held plots index plot below all)
          ∙ contains column row
          (sym (ap (λ h. h column row) (kept_at held others index other below all-others)) ∙ there)
      | inr earlier ↦ before section column row (omega arith) is
    ]

-- if a set contains another, its part at one index contains the other's
pub contains_at : {P : Type 0} (held : P → ℕ → ℕ → Bool) (plots others : List P) (index : ℕ)
    (plot other : P)
    → index < SECTION_COUNT
    → length plots ≡ SECTION_COUNT → length others ≡ SECTION_COUNT
    → ContainsAll (held_by_section held plots) (held_by_section held others)
    → ContainsHeld (held (get_or plots index plot)) (held (get_or others index other))
contains_at held plots others index plot other below all all-others contains column row is =
    sym (ap (λ h. h column row) (kept_at held plots index plot below all))
    ∙ contains (index + 1) column row
    (ap (λ h. h column row) (kept_at held others index other below all-others) ∙ is)
