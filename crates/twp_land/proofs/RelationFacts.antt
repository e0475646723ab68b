-- How two sets of places relate in the sections up to one.
use Rattle.std.proofs.Common.{◌≡◌, ◌↔◌, IsTrue, ℕ, ◌+◌, ◌≤◌, ◌||◌, ◌⊎◌, Bool, true, false, List, nat_le}
use Rattle.std.proofs.Common.{ap, sym, subst, ◌∙◌, refl, inl, inr, arith}
use Rattle.std.proofs.lemmas.Bool.{cases_eq, and_parts}
use Rattle.std.proofs.lemmas.Bool.Decides.{nat_tests}
use Rattle.twp_grid.specs.Winding.{SECTION_COUNT, IsSection}
use Rattle.twp_land.specs.Storage.{is_section, held_by_section, held_by_either, nothing_held}
use Rattle.twp_land.specs.Storage.{ShareHeld, SameHeld, ContainsHeld}
use Rattle.twp_land.specs.declared.relation.Relation.{Relation}
use Rattle.twp_land.specs.steps.Relating.{Relates}

-- up to a section, each place of the second set is in the first
abbrev pub ContainsTo : ℕ → (ℕ → ℕ → ℕ → Bool) → (ℕ → ℕ → ℕ → Bool) → Type 0
ContainsTo most places more = (section column row : ℕ) → section ≤ most
    → more section column row ≡ true → places section column row ≡ true

-- up to a section, a place is in both sets
pub record ShareTo (most : ℕ) (places more : ℕ → ℕ → ℕ → Bool) : Type 0 where
  pub section : ℕ
  pub column : ℕ
  pub row : ℕ
  pub below : section ≤ most
  pub in_first : places section column row ≡ true
  pub in_second : more section column row ≡ true

-- the tests are those of these two sets up to a section
pub record RelatesTo (most : ℕ) (relation : Relation) (places more : ℕ → ℕ → ℕ → Bool) : Type 0 where
  pub contains : IsTrue relation.contains ↔ ContainsTo most places more
  pub is_contained : IsTrue relation.is_contained ↔ ContainsTo most more places
  pub shares : IsTrue relation.shares ↔ ShareTo most places more

contains_next : (places more : ℕ → ℕ → ℕ → Bool) (most : ℕ) (before after : Bool)
    → (IsTrue before ↔ ContainsTo most places more)
    → (IsTrue after ↔ (IsTrue before × ContainsHeld (places (most + 1)) (more (most + 1))))
    → (IsTrue after ↔ ContainsTo (most + 1) places more)
contains_next places more most before after is next = (
  λ so section column row below held. elim (cases_eq section (most + 1)) [
    | inl here ↦
        let there : more (most + 1) column row ≡ true =
        ap (λ s. more s column row) (sym here) ∙ held in
        ap (λ s. places s column row) here ∙ (next.0 so).1 column row there
    | inr earlier ↦ is.0 (next.0 so).0 section column row (omega arith) held
  ],
  λ all. next.1 (
    is.1 (λ section column row below held. all section column row (omega arith) held),
    λ column row held. all (most + 1) column row (omega arith) held,
  ),
)

shares_next : (places more : ℕ → ℕ → ℕ → Bool) (most : ℕ) (before after : Bool)
    → (IsTrue before ↔ ShareTo most places more)
    → (IsTrue after ↔ (IsTrue before ⊎ ShareHeld (places (most + 1)) (more (most + 1))))
    → (IsTrue after ↔ ShareTo (most + 1) places more)
shares_next places more most before after is next = (
  λ so. later (next.0 so),
  λ shared. next.1 (earlier shared (cases_eq shared.section (most + 1))),
)
  where
    later : IsTrue before ⊎ ShareHeld (places (most + 1)) (more (most + 1))
        → ShareTo (most + 1) places more
    later (inl so) =
        let shared = is.0 so in
        record {
          section = shared.section;
          column = shared.column;
          row = shared.row;
          below = omega (arith, shared.below);
          in_first = shared.in_first;
          in_second = shared.in_second;
        }
    later (inr here) = record {
      section = most + 1;
      column = here.column;
      row = here.row;
      below = omega arith;
      in_first = here.in_first;
      in_second = here.in_second;
    }

    earlier : (shared : ShareTo (most + 1) places more)
        → (shared.section ≡ most + 1) ⊎ (shared.section ≡ most + 1 → ⊥)
        → IsTrue before ⊎ ShareHeld (places (most + 1)) (more (most + 1))
    earlier shared (inl here) = inr (record {
      column = shared.column;
      row = shared.row;
      in_first = ap (λ s. places s shared.column shared.row) (sym here) ∙ shared.in_first;
      in_second = ap (λ s. more s shared.column shared.row) (sym here) ∙ shared.in_second;
    })
    earlier shared (inr before) = inl (is.1 (record {
      section = shared.section;
      column = shared.column;
      row = shared.row;
      below = omega (arith, shared.below, before);
      in_first = shared.in_first;
      in_second = shared.in_second;
    }))

-- one more section
pub relates_next : (places more : ℕ → ℕ → ℕ → Bool) (most : ℕ) (before after : Relation)
    (held other : ℕ → ℕ → Bool)
    → held ≡ places (most + 1) → other ≡ more (most + 1)
    → (IsTrue after.contains ↔ (IsTrue before.contains × ContainsHeld held other))
    → (IsTrue after.is_contained ↔ (IsTrue before.is_contained × ContainsHeld other held))
    → (IsTrue after.shares ↔ (IsTrue before.shares ⊎ ShareHeld held other))
    → RelatesTo most before places more → RelatesTo (most + 1) after places more
relates_next places more most before after held other part part' contains contained shares is = record {
  contains =
      contains_next places more most before.contains after.contains is.contains
      (rw (part, part') at contains);
  is_contained =
      contains_next more places most before.is_contained after.is_contained is.is_contained
      (rw (part, part') at contained);
  shares =
      shares_next places more most before.shares after.shares is.shares (rw (part, part') at shares);
}

neither : (a b : Bool) → (a || b) ≡ false → (a ≡ false) × (b ≡ false)
neither true b h = cc h
neither false b h = (refl, h)

-- neither of two sets in one section has a place
pub both_empty : (held other : ℕ → ℕ → Bool) → SameHeld (held_by_either held other) nothing_held
    → SameHeld held nothing_held × SameHeld other nothing_held
both_empty held other none = (
  λ column row. (neither (held column row) (other column row) (none column row)).0,
  λ column row. (neither (held column row) (other column row) (none column row)).1,
)

-- one more section, in which neither set has a place
pub relates_skip : (places more : ℕ → ℕ → ℕ → Bool) (most : ℕ) (relation : Relation)
    (held other : ℕ → ℕ → Bool)
    → held ≡ places (most + 1) → other ≡ more (most + 1)
    → SameHeld (held_by_either held other) nothing_held
    → RelatesTo most relation places more → RelatesTo (most + 1) relation places more
relates_skip places more most relation held other part part' none is =
    relates_next places more most relation relation held other part part'
    (λ so. (so, λ column row there. absurd (cc ((apart column row).1, there))), λ both. both.0)
    (λ so. (so, λ column row there. absurd (cc ((apart column row).0, there))), λ both. both.0)
    (λ so. inl so, λ either. only either)
    is
  where
    apart : (column row : ℕ) → (held column row ≡ false) × (other column row ≡ false)
    apart column row = neither (held column row) (other column row) (none column row)

    only : IsTrue relation.shares ⊎ ShareHeld held other → IsTrue relation.shares
    only (inl so) = so
    only (inr shared) = absurd (cc ((apart shared.column shared.row).0, shared.in_first))

-- each place of a stored set is in a section
pub in_section : {P : Type 0} (held : P → ℕ → ℕ → Bool) (plots : List P) (section column row : ℕ)
    → held_by_section held plots section column row ≡ true → IsSection section
in_section held plots section column row there =
    let number = (and_parts (is_section section) _ there).0 in
    let sides = and_parts (nat_le 1 section) (nat_le section SECTION_COUNT) number in
    (grind (arith, nat_tests), grind (arith, nat_tests))

-- there is no section 0
pub relates_first : {P : Type 0} (held : P → ℕ → ℕ → Bool) (plots others : List P)
    → RelatesTo 0 (record { contains = true; is_contained = true; shares = false })
    (held_by_section held plots) (held_by_section held others)
relates_first held plots others = record {
  contains = (
    λ _ section column row below there.
        absurd (none section below (in_section held others section column row there)),
    λ _. refl,
  );
  is_contained = (
    λ _ section column row below there.
        absurd (none section below (in_section held plots section column row there)),
    λ _. refl,
  );
  shares = (
    λ so. cc so,
    λ shared.
        absurd
        (none shared.section shared.below
        (in_section held plots shared.section shared.column shared.row shared.in_first)),
  );
}
  where
    none : (section : ℕ) → section ≤ 0 → IsSection section → ⊥
    none section below range = omega (arith, range.0)

-- all sections
pub relates_all : {P : Type 0} (held : P → ℕ → ℕ → Bool) (plots others : List P) (most : ℕ)
    (relation : Relation)
    → SECTION_COUNT ≤ most
    → RelatesTo most relation (held_by_section held plots) (held_by_section held others)
    → Relates relation (held_by_section held plots) (held_by_section held others)
relates_all held plots others most relation all is = record {
  contains = (
    λ so section column row there.
        is.contains.0 so section column row
        (omega (arith, (in_section held others section column row there).1)) there,
    λ contains. is.contains.1 (λ section column row below there. contains section column row there),
  );
  is_contained = (
    λ so section column row there.
        is.is_contained.0 so section column row
        (omega (arith, (in_section held plots section column row there).1)) there,
    λ contains. is.is_contained.1 (λ section column row below there. contains section column row there),
  );
  shares = (
    λ so.
        let shared = is.shares.0 so in
        record {
          section = shared.section;
          column = shared.column;
          row = shared.row;
          in_first = shared.in_first;
          in_second = shared.in_second;
        },
    λ shared. is.shares.1 (record {
      section = shared.section;
      column = shared.column;
      row = shared.row;
      below =
          omega
          (arith, (in_section held plots shared.section shared.column shared.row shared.in_first).1);
      in_first = shared.in_first;
      in_second = shared.in_second;
    }),
  );
}

-- one set contains another, each under another name
pub contains_as : (after before : Bool) (held held' other other' : ℕ → ℕ → Bool) → held ≡ held'
    → other ≡ other'
    → (IsTrue after ↔ (IsTrue before × ContainsHeld held other))
    → (IsTrue after ↔ (IsTrue before × ContainsHeld held' other'))
contains_as after before held held' other other' part more is =
    subst (λ o. IsTrue after ↔ (IsTrue before × ContainsHeld held' o)) more
    (subst (λ h. IsTrue after ↔ (IsTrue before × ContainsHeld h other)) part is)
