-- What is known of the marked places of a section after the blocks so far.
use Rattle.std.proofs.Common.{◌≡◌, ℕ, ◌<◌, ◌≤◌, ◌==◌, ◌&&◌, ◌||◌, Bool, true, false}
use Rattle.std.proofs.Common.{nat_lt, refl, sym, ap, subst, ◌∙◌, inl, inr, arith}
use Rattle.std.proofs.Math.Path.{fun_ext}
use Rattle.std.proofs.lemmas.Bool.{and_parts, cases_lt, cases_Bool, eqb-true, eq-eqb, false≢true}
use Rattle.std.proofs.lemmas.Bool.Decides.{nat_tests}
use Rattle.twp_grid.specs.Spans.{Rectangle, in_rectangle}
use Rattle.twp_grid.specs.Lands.{union, block_places, SharePlace, Meets}
use Rattle.twp_land.specs.LotMaps.{place_number}
use Rattle.twp_land.specs.steps.Marked.{PLACES, in_section, below, NoneLeft, IsNextBlock}

-- each place of a set that is numbered below this has a property
abbrev pub EachBelow : (ℕ → ℕ → Bool) → ℕ → (ℕ → ℕ → Type 0) → Type 0
EachBelow set from Is = (c r : ℕ) → set c r ≡ true → place_number c r < from → Is c r

pub each_next : (set : ℕ → ℕ → Bool) (from : ℕ) (Is : ℕ → ℕ → Type 0) (block : Rectangle) (end : ℕ)
    → IsNextBlock set from block end → EachBelow set from Is
    → ((c r : ℕ) → in_rectangle block c r ≡ true → Is c r) → EachBelow set end Is
each_next set from Is block end next so_far of_block c r here less = elim (cases_lt (place_number c r) from) [
  | inl before ↦ so_far c r here before
  | inr after ↦ of_block c r (next.all c r here (omega (arith, after)) less)
]

pub each_left : (set : ℕ → ℕ → Bool) (from : ℕ) (Is : ℕ → ℕ → Type 0)
    → NoneLeft set from → EachBelow set from Is → (c r : ℕ) → set c r ≡ true → Is c r
each_left set from Is none so_far c r here = so_far c r here (none c r here)

-- the places so far, and those of the next block
pub below_next : (set : ℕ → ℕ → Bool) (from : ℕ) (block : Rectangle) (end c r : ℕ)
    → IsNextBlock set from block end
    → (below set from c r || in_rectangle block c r) ≡ below set end c r
below_next set from block end c r next = elim (cases_Bool (in_rectangle block c r)) [
  | inl inside ↦
      let is_set = next.is_set c r inside in
      let number = next.numbered c r inside in
      let after : nat_lt (place_number c r) from ≡ false = grind (arith, nat_tests, number.0) in
      let before : nat_lt (place_number c r) end ≡ true = grind (arith, nat_tests, number.1) in
      rw (inside, is_set, after, before) refl
  | inr outside ↦ elim (cases_Bool (set c r)) [
    | inr other ↦ rw (outside, other) refl
    | inl here ↦ elim (cases_lt (place_number c r) from) [
      | inl less ↦
          let first : nat_lt (place_number c r) from ≡ true = grind (arith, nat_tests, less) in
          let second : nat_lt (place_number c r) end ≡ true = grind (arith, nat_tests, less, next.more) in
          rw (outside, here, first, second) refl
      | inr after ↦ elim (cases_lt (place_number c r) end) [
        | inl less ↦
            absurd (false≢true (sym outside ∙ next.all c r here (omega (arith, after)) (omega (arith, less))))
        | inr beyond ↦
            let first : nat_lt (place_number c r) from ≡ false = grind (arith, nat_tests, after) in
            let second : nat_lt (place_number c r) end ≡ false = grind (arith, nat_tests, beyond) in
            rw (outside, here, first, second) refl
      ]
    ]
  ]
]

-- a set to which the places so far have been added, none of which it contained
pub record AreAddedBelow (section : ℕ) (set : ℕ → ℕ → Bool) (from : ℕ) (old now : ℕ → ℕ → ℕ → Bool)
    : Type 0 where
  pub places : now ≡ union old (in_section section (below set from))
  pub apart : ¬ SharePlace old (in_section section (below set from))

pub added_none : (section : ℕ) (set : ℕ → ℕ → Bool) (old : ℕ → ℕ → ℕ → Bool)
    → AreAddedBelow section set 0 old old
added_none section set old = record {
  places =
      fun_ext (λ o. fun_ext (λ c. fun_ext (λ r.
      nothing (old o c r) (section == o) (set c r) (nat_lt (place_number c r) 0)
      (grind (arith, nat_tests)))));
  apart = λ shared.
      let parts =
      and_parts (section == shared.section) (below set 0 shared.column shared.row) shared.in_second in
      let number =
      and_parts (set shared.column shared.row) (nat_lt (place_number shared.column shared.row) 0) parts.1 in
      absurd (grind (arith, nat_tests, number.1));
}
  where
    nothing : (held here is_set less : Bool) → less ≡ false → held ≡ (held || (here && (is_set && less)))
    nothing true here is_set less none = refl
    nothing false true true less none = sym none
    nothing false true false less none = refl
    nothing false false is_set less none = refl

pub added_next : (section : ℕ) (set : ℕ → ℕ → Bool) (from : ℕ) (block : Rectangle) (end : ℕ)
    (old now new : ℕ → ℕ → ℕ → Bool) → IsNextBlock set from block end
    → AreAddedBelow section set from old now → ¬ Meets (now section) block
    → new ≡ union now (block_places section block) → AreAddedBelow section set end old new
added_next section set from block end old now new next so_far apart added = record {
  places =
      added
      ∙ ap (λ p. union p (block_places section block)) so_far.places
      ∙ fun_ext (λ o. fun_ext (λ c. fun_ext (λ r. joined o c r)));
  apart = λ shared.
      let parts =
      and_parts (section == shared.section) (below set end shared.column shared.row) shared.in_second in
      let same : section ≡ shared.section = eqb-true section shared.section parts.0 in
      elim (cases_Bool (in_rectangle block shared.column shared.row)) [
        | inl inside ↦ apart (record {
          column = shared.column;
          row = shared.row;
          inside = inside;
          is_held =
              ap (λ p. p section shared.column shared.row) so_far.places
              ∙ rw (ap (λ n. old n shared.column shared.row) same ∙ shared.in_first) refl;
        })
        | inr outside ↦ so_far.apart (record {
          section = shared.section;
          column = shared.column;
          row = shared.row;
          in_first = shared.in_first;
          in_second =
              let before : below set from shared.column shared.row ≡ true =
              not_in_block (below set from shared.column shared.row)
              (in_rectangle block shared.column shared.row)
              (below_next set from block end shared.column shared.row next ∙ parts.1) outside in
              rw (parts.0, before) refl;
        })
      ];
}
  where
    not_in_block : (a b : Bool) → (a || b) ≡ true → b ≡ false → a ≡ true
    not_in_block true b either other = refl
    not_in_block false b either other = absurd (false≢true (sym other ∙ either))

    distributed : (held here a b : Bool)
        → ((held || (here && a)) || (here && b)) ≡ (held || (here && (a || b)))
    distributed true here a b = refl
    distributed false true a b = refl
    distributed false false a b = refl

    joined : (o c r : ℕ)
        → union (union old (in_section section (below set from))) (block_places section block) o c r
        ≡ union old (in_section section (below set end)) o c r
    joined o c r =
        distributed (old o c r) (section == o) (below set from c r) (in_rectangle block c r)
        ∙ ap (λ b. old o c r || ((section == o) && b)) (below_next set from block end c r next)

-- nothing is left
all_below : (set : ℕ → ℕ → Bool) (from : ℕ) → NoneLeft set from → below set from ≡ set
all_below set from none = fun_ext (λ c. fun_ext (λ r. by c r))
  where
    by : (c r : ℕ) → below set from c r ≡ set c r
    by c r = elim (cases_Bool (set c r)) [
      | inr other ↦ rw other refl
      | inl here ↦
          let less : nat_lt (place_number c r) from ≡ true = grind (arith, nat_tests, none c r here) in
          rw (here, less) refl
    ]

pub added_all : (section : ℕ) (set : ℕ → ℕ → Bool) (from : ℕ) (old now : ℕ → ℕ → ℕ → Bool)
    → NoneLeft set from → AreAddedBelow section set from old now
    → (now ≡ union old (in_section section set)) × ¬ SharePlace old (in_section section set)
added_all section set from old now none so_far =
    let all = all_below set from none in (
      so_far.places ∙ ap (λ s. union old (in_section section s)) all,
      λ shared. so_far.apart (subst (λ s. SharePlace old (in_section section s)) (sym all) shared),
    )

-- a block that shares a place with the set so far shares one with what it was
pub met_next : (section : ℕ) (set : ℕ → ℕ → Bool) (from : ℕ) (block : Rectangle) (end : ℕ)
    (old now : ℕ → ℕ → ℕ → Bool) → IsNextBlock set from block end → AreAddedBelow section set from old now
    → Meets (now section) block → SharePlace old (in_section section set)
met_next section set from block end old now next so_far met =
    let number = next.numbered met.column met.row met.inside in
    let after : nat_lt (place_number met.column met.row) from ≡ false = grind (arith, nat_tests, number.0) in
    let held : union old (in_section section (below set from)) section met.column met.row ≡ true =
    sym (ap (λ p. p section met.column met.row) so_far.places) ∙ met.is_held in
    let itself : (section == section) ≡ true = eq-eqb section section refl in
    record {
      section = section;
      column = met.column;
      row = met.row;
      in_first =
          only_first (old section met.column met.row) (section == section) (set met.column met.row)
          (nat_lt (place_number met.column met.row) from) held after;
      in_second = rw (itself, next.is_set met.column met.row met.inside) refl;
    }
  where
    only_first : (a here b less : Bool) → (a || (here && (b && less))) ≡ true → less ≡ false → a ≡ true
    only_first true here b less either is = refl
    only_first false true true less either is = absurd (false≢true (sym is ∙ either))
    only_first false true false less either is = absurd (false≢true either)
    only_first false false b less either is = absurd (false≢true either)

-- a block after which nothing is left
pub only_next : (set : ℕ → ℕ → Bool) (from : ℕ) (block : Rectangle) (end : ℕ) → IsNextBlock set from block end
    → ((c r : ℕ) → set c r ≡ true → end ≤ place_number c r → PLACES ≤ place_number c r)
    → IsNextBlock set from block PLACES
only_next set from block end next rest = record {
  more = omega (arith, next.more, next.within);
  within = omega arith;
  some = next.some;
  is_set = next.is_set;
  numbered = λ c r inside.
      let number = next.numbered c r inside in
      (number.0, omega (arith, number.1, next.within));
  all = λ c r here after before. elim (cases_lt (place_number c r) end) [
    | inl less ↦ next.all c r here after less
    | inr beyond ↦ absurd (omega (arith, before, rest c r here (omega (arith, beyond))))
  ];
}
