-- Aliquot parts that are painted one after another.
use Rattle.std.proofs.Common.{◌≡◌, ◌≢◌, ◌⊎◌, ℕ, zero, suc, ◌+◌, ◌≤◌, ◌<◌, nat_lt, Bool, true, false, List, []}
use Rattle.std.proofs.Common.{◌∷◌}
use Rattle.std.proofs.Common.{◌++◌, if◌then◌else◌, refl, sym, ap, subst, ◌∙◌, inl, inr, arith, cond}
use Rattle.std.proofs.lemmas.Bool.{cases_Bool, cases_lt}
use Rattle.std.proofs.lemmas.Bool.Decides.{nat_tests}
use Rattle.std.proofs.lemmas.List.Sums.{sum_by-append}
use Rattle.twp_grid.specs.Places.{PLACE_DIGITS, IsPlace, is_place}
use Rattle.twp_grid.specs.Cuts.{AreWithin, reached}
use Rattle.twp_grid.specs.Spans.{Rectangle, in_rectangle}
use Rattle.twp_grid.proofs.CutFacts.{held_as_asked}
use Rattle.twp_grid.proofs.PlaceTests.{place_of_test}
use Rattle.twp_grammar.specs.declared.item.Step.{Step}
use Rattle.twp_grammar.specs.ItemPlaces.{cuts_of, in_chain}
use Rattle.twp_grammar.proofs.CutPlaces.{outside}
use Rattle.twp_land.specs.LotMarks.{HasMark, IsPainted, mark_at, marks_of}
use Rattle.twp_plat.specs.LandTexts.{IsOneOf, parts_at}
use Rattle.twp_plat.specs.steps.LandPaints.{AreFine, ArePainted, IsPlaceShared, IsTooFine}

-- a value that depends on whether a number is more than 0
pub if_some : (n m o : ℕ) → 0 < n → (if nat_lt 0 n then m else o) ≡ m
if_some n m o some =
    let test : nat_lt 0 n ≡ true = grind (arith, nat_tests, some) in
    rw test refl

pub if_none : (n m o : ℕ) → n ≡ 0 → (if nat_lt 0 n then m else o) ≡ o
if_none n m o none =
    let test : nat_lt 0 n ≡ false = grind (arith, nat_tests, none) in
    rw test refl

-- 1 if the part contains the place, and otherwise 0
abbrev pub one_at : List Step → ℕ → ℕ → ℕ
one_at part column row = cond (in_chain PLACE_DIGITS part column row) 1 0

pub parts_more : (parts : List (List Step)) (part : List Step) (column row : ℕ)
    → parts_at (parts ++ part ∷ []) column row ≡ parts_at parts column row + one_at part column row
parts_more parts part column row =
    let all = sum_by-append (λ (steps : List Step). one_at steps column row) parts (part ∷ []) in
    omega (arith, all)

-- the places of a part are those of its block
pub in_block : (part : List Step) (column row : ℕ) → AreWithin PLACE_DIGITS (cuts_of part)
    → IsPlace PLACE_DIGITS column row
    → in_chain PLACE_DIGITS part column row ≡ in_rectangle (reached PLACE_DIGITS (cuts_of part)) column row
in_block part column row within place =
    sym (held_as_asked PLACE_DIGITS (cuts_of part) within column row place)

pub block_place : (part : List Step) (column row : ℕ) → AreWithin PLACE_DIGITS (cuts_of part)
    → in_rectangle (reached PLACE_DIGITS (cuts_of part)) column row ≡ true → IsPlace PLACE_DIGITS column row
block_place part column row within inside = elim (cases_Bool (is_place PLACE_DIGITS column row)) [
  | inl place ↦ place_of_test PLACE_DIGITS column row place
  | inr not ↦ absurd (cc (sym inside ∙ outside PLACE_DIGITS (cuts_of part) column row within not))
]

-- one more part
pub one_of_more : (part last : List Step) (parts : List (List Step)) → IsOneOf part (parts ++ last ∷ [])
    → IsOneOf part parts ⊎ (part ≡ last)
one_of_more part last [] (inl here) = inr here
one_of_more part last [] (inr none) = absurd none
one_of_more part last (first ∷ parts) (inl here) = inl (inl here)
one_of_more part last (first ∷ parts) (inr later) = elim (one_of_more part last parts later) [
  | inl among ↦ inl (inr among)
  | inr is ↦ inr is
]

pub one_of_those : (part last : List Step) (parts : List (List Step)) → IsOneOf part parts
    → IsOneOf part (parts ++ last ∷ [])
one_of_those part last [] among = absurd among
one_of_those part last (first ∷ parts) (inl here) = inl here
one_of_those part last (first ∷ parts) (inr later) = inr (one_of_those part last parts later)

pub is_last : (last : List Step) (parts : List (List Step)) → IsOneOf last (parts ++ last ∷ [])
is_last last [] = inl refl
is_last last (first ∷ parts) = inr (is_last last parts)

pub fine_more : (parts : List (List Step)) (part : List Step) → AreFine parts
    → AreWithin PLACE_DIGITS (cuts_of part) → AreFine (parts ++ part ∷ [])
fine_more parts part fine within other among = elim (one_of_more other part parts among) [
  | inl before ↦ fine other before
  | inr same ↦ subst (λ (p : List Step). AreWithin PLACE_DIGITS (cuts_of p)) (sym same) within
]

pub too_fine_more : (parts : List (List Step)) (part : List Step) → IsTooFine parts
    → IsTooFine (parts ++ part ∷ [])
too_fine_more parts part (other, among, not) = (other, one_of_those other part parts among, not)

pub too_fine_last : (parts : List (List Step)) (part : List Step) → ¬ AreWithin PLACE_DIGITS (cuts_of part)
    → IsTooFine (parts ++ part ∷ [])
too_fine_last parts part not = (part, is_last part parts, not)

pub shared_more : (section : ℕ) (parts : List (List Step)) (part : List Step) (old : List (List ℕ))
    → IsPlaceShared section parts old → IsPlaceShared section (parts ++ part ∷ []) old
shared_more section parts part old is = record {
  column = is.column;
  row = is.row;
  place = is.place;
  shared = elim is.shared [
    | inl twice ↦ inl (omega (arith, twice, parts_more parts part is.column is.row))
    | inr (some, had) ↦ inr (omega (arith, some, parts_more parts part is.column is.row), had)
  ];
}

-- a place of the next part has a mark
pub shared_last : (section : ℕ) (parts : List (List Step)) (part : List Step) (mark : ℕ)
    (old mid : List (List ℕ))
    → ArePainted section parts mark old mid → AreWithin PLACE_DIGITS (cuts_of part)
    → HasMark (marks_of mid section) (reached PLACE_DIGITS (cuts_of part))
    → IsPlaceShared section (parts ++ part ∷ []) old
shared_last section parts part mark old mid painted within has =
    let place : IsPlace PLACE_DIGITS has.column has.row =
    block_place part has.column has.row within has.inside in
    let inside : in_chain PLACE_DIGITS part has.column has.row ≡ true =
    in_block part has.column has.row within place ∙ has.inside in
    let one : one_at part has.column has.row ≡ 1 = rw inside refl in
    let more = parts_more parts part has.column has.row in
    record {
      column = has.column;
      row = has.row;
      place = place;
      shared = elim (cases_lt 0 (parts_at parts has.column has.row)) [
        | inl some ↦ inl (omega (arith, some, one, more))
        | inr none ↦
            let was : mark_at (marks_of mid section) has.column has.row
            ≡ mark_at (marks_of old section) has.column has.row =
            painted.marks has.column has.row place
            ∙ if_none (parts_at parts has.column has.row) mark
            (mark_at (marks_of old section) has.column has.row) (omega (arith, none)) in
            inr (omega (arith, one, more), λ zero_was. has.is_marked (was ∙ zero_was))
      ];
    }

-- the places of one more part are painted
pub painted_more : (section : ℕ) (parts : List (List Step)) (part : List Step) (mark : ℕ)
    (old mid new : List (List ℕ))
    → 1 ≤ mark → ArePainted section parts mark old mid → AreWithin PLACE_DIGITS (cuts_of part)
    → IsPainted (reached PLACE_DIGITS (cuts_of part)) mark (marks_of mid section) (marks_of new section)
    → ((other : ℕ) → other ≢ section → 1 ≤ other → marks_of new other ≡ marks_of mid other)
    → ArePainted section (parts ++ part ∷ []) mark old new
painted_more section parts part mark old mid new some so_far within painted kept = record {
  fine = fine_more parts part so_far.fine within;
  apart = λ c r place. elim (cases_Bool (in_chain PLACE_DIGITS part c r)) [
    | inl inside ↦
        let one : one_at part c r ≡ 1 = rw inside refl in
        omega (arith, parts_more parts part c r, one, first_in c r place inside)
    | inr outside ↦
        let none : one_at part c r ≡ 0 = rw outside refl in
        omega (arith, parts_more parts part c r, none, so_far.apart c r place)
  ];
  free = λ c r place held. elim (cases_Bool (in_chain PLACE_DIGITS part c r)) [
    | inl inside ↦
        sym (if_none (parts_at parts c r) mark (mark_at (marks_of old section) c r)
        (first_in c r place inside))
        ∙ sym (so_far.marks c r place)
        ∙ painted.free c r (sym (in_block part c r within place) ∙ inside)
    | inr outside ↦
        let none : one_at part c r ≡ 0 = rw outside refl in
        so_far.free c r place (omega (arith, parts_more parts part c r, none, held))
  ];
  marks = λ c r place. elim (cases_Bool (in_chain PLACE_DIGITS part c r)) [
    | inl inside ↦
        let one : one_at part c r ≡ 1 = rw inside refl in
        painted.marks c r place
        ∙ chosen (in_rectangle (reached PLACE_DIGITS (cuts_of part)) c r) mark
        (mark_at (marks_of mid section) c r) (sym (in_block part c r within place) ∙ inside)
        ∙ sym (if_some (parts_at (parts ++ part ∷ []) c r) mark (mark_at (marks_of old section) c r)
        (omega (arith, parts_more parts part c r, one)))
    | inr outside ↦
        let none : one_at part c r ≡ 0 = rw outside refl in
        let same : parts_at parts c r ≡ parts_at (parts ++ part ∷ []) c r =
        omega (arith, parts_more parts part c r, none) in
        painted.marks c r place
        ∙ left (in_rectangle (reached PLACE_DIGITS (cuts_of part)) c r) mark
        (mark_at (marks_of mid section) c r) (sym (in_block part c r within place) ∙ outside)
        ∙ so_far.marks c r place
        ∙ ap (λ n. if nat_lt 0 n then mark else mark_at (marks_of old section) c r) same
  ];
  others = λ other is least. kept other is least ∙ so_far.others other is least;
}
  where
    chosen : (b : Bool) (m o : ℕ) → b ≡ true → (if b then m else o) ≡ m
    chosen true m o is = refl
    chosen false m o is = cc is

    left : (b : Bool) (m o : ℕ) → b ≡ false → (if b then m else o) ≡ o
    left false m o is = refl
    left true m o is = cc is

    first_in : (c r : ℕ) → IsPlace PLACE_DIGITS c r → in_chain PLACE_DIGITS part c r ≡ true
        → parts_at parts c r ≡ 0
    first_in c r place inside = elim (cases_lt 0 (parts_at parts c r)) [
      | inl before ↦
          let marked : mark_at (marks_of mid section) c r ≡ mark =
          so_far.marks c r place
          ∙ if_some (parts_at parts c r) mark (mark_at (marks_of old section) c r) before in
          let free : mark_at (marks_of mid section) c r ≡ 0 =
          painted.free c r (sym (in_block part c r within place) ∙ inside) in
          absurd (omega (arith, marked, free, some))
      | inr none ↦ omega (arith, none)
    ]

-- before the first part
pub none_painted : (section mark : ℕ) (old : List (List ℕ)) → ArePainted section [] mark old old
none_painted section mark old = record {
  fine = λ part among. absurd among;
  apart = λ c r place. omega arith;
  free = λ c r place some. absurd (omega (arith, some));
  marks = λ c r place. refl;
  others = λ other is least. refl;
}
