-- An aliquot part without its section's lots.
use Rattle.std.proofs.Common.{◌≡◌, ◌==◌, ℕ, ◌<◌, ◌&&◌, ◌↔◌, ◌⊎◌, not, Bool, true, false, List, Option, IsTrue}
use Rattle.std.proofs.Common.{Some, None, inl, inr, refl, sym, ap, subst, ◌∙◌, arith, nat_le, is_none}
use Rattle.std.proofs.Math.Path.{fun_ext}
use Rattle.std.proofs.lemmas.Bool.{cases_Bool, eqb-true, eq-eqb}
use Rattle.std.proofs.lemmas.Bool.Decides.{nat_tests}
use Rattle.twp_grid.specs.Cuts.{AreWithin, reached}
use Rattle.twp_grid.specs.Listing.{AreListed}
use Rattle.twp_grid.specs.Places.{PLACE_DIGITS, IsPlace, is_place}
use Rattle.twp_grid.specs.Spans.{Rectangle, in_rectangle}
use Rattle.twp_grid.specs.Townships.{Designation}
use Rattle.twp_grid.specs.Lands.{Layout, lotting, AreLots, IsWholeOrNot, LOT_NUMBER_MOST}
use Rattle.twp_grid.specs.Lands.{no_places, union, difference, intersection, block_places, section_places}
use Rattle.twp_grid.proofs.PlaceTests.{test_of_place}
use Rattle.twp_grammar.specs.declared.item.Step.{Step}
use Rattle.twp_grammar.specs.ItemPlaces.{cuts_of, is_lot_from}
use Rattle.twp_resolve.specs.steps.ResolvingSteps.{lots_from}
use Rattle.twp_spell.specs.CanonicalText.{IsLotHeld, IsCanonicalText}
use Rattle.twp_diagnose.specs.declared.finding.PartOfLots.{PartOfLots}
use Rattle.twp_diagnose.specs.PartOfLots.{left_of_section, IsPartOfLots}

-- what is added to no land, in its section
pub added_here : (s : ℕ) (block : Rectangle)
    → union no_places (block_places s block) s ≡ in_rectangle block
added_here s block = fun_ext (λ c. fun_ext (λ r. rw (eq-eqb s s refl) refl))

-- what is left of a set without the lots of a section, and what the plat doesn't have there
in_no_lot : (h p l : Bool) → (h ≡ true → p ≡ true)
    → ((h && not (p && (true && false))) && (p && (true && l))) ≡ (true && ((h && true) && l))
in_no_lot true true true place = refl
in_no_lot true true false place = refl
in_no_lot true false l place = cc (place refl)
in_no_lot false p true place = refl
in_no_lot false p false place = refl

in_lot : (h l : Bool) → ((h && not (true && (true && true))) && (true && (true && l)))
    ≡ (true && ((h && false) && l))
in_lot true true = refl
in_lot true false = refl
in_lot false true = refl
in_lot false false = refl

left_here : (layout : Layout) (s c r : ℕ) (held : Bool) → AreLots (lotting layout)
    → (held ≡ true → is_place PLACE_DIGITS c r ≡ true)
    → (lot : Option ℕ) → layout.lot_of s c r ≡ lot
    → ((held && not (lots_from (lotting layout) s 1 LOT_NUMBER_MOST s c r))
    && section_places (lotting layout) s s c r)
    ≡ left_of_section (lotting layout) s (λ column row. held) s c r
left_here layout s c r held fine place None at =
    rw (eq-eqb s s refl, at) (in_no_lot held (is_place PLACE_DIGITS c r) (layout.has_land s c r) place)
left_here layout s c r held fine place (Some n) at =
    let numbered = fine.numbered s n c r at in
    let there : is_place PLACE_DIGITS c r ≡ true =
    test_of_place PLACE_DIGITS c r (fine.within s n c r at).0 in
    let within : (nat_le 1 n && nat_le n LOT_NUMBER_MOST) ≡ true =
    grind (arith, nat_tests, numbered.0, numbered.1) in
    rw (eq-eqb s s refl, at, there, within) (in_lot held (layout.has_land s c r))

elsewhere : (h p x l : Bool) → ((h && not (p && (false && x))) && (p && (false && l))) ≡ false
elsewhere true true x l = refl
elsewhere true false x l = refl
elsewhere false p x l = refl

pub off_lots_kept : (layout : Layout) (s : ℕ) (old taken kept : ℕ → ℕ → ℕ → Bool) → AreLots (lotting layout)
    → ((o c r : ℕ) → old o c r ≡ true → IsPlace PLACE_DIGITS c r)
    → taken ≡ difference old (lots_from (lotting layout) s 1 LOT_NUMBER_MOST)
    → kept ≡ intersection taken (section_places (lotting layout) s)
    → kept ≡ left_of_section (lotting layout) s (old s)
off_lots_kept layout s old taken kept fine places less common =
    common ∙ ap (λ p. intersection p (section_places (lotting layout) s)) less
    ∙ fun_ext (λ o. fun_ext (λ c. fun_ext (λ r. at_place o c r (cases_Bool (s == o)))))
  where
    at_place : (o c r : ℕ) → ((s == o) ≡ true) ⊎ ((s == o) ≡ false)
        → ((old o c r && not (lots_from (lotting layout) s 1 LOT_NUMBER_MOST o c r))
        && section_places (lotting layout) s o c r)
        ≡ left_of_section (lotting layout) s (old s) o c r
    at_place o c r (inl here) =
        subst (λ there.
        ((old there c r && not (lots_from (lotting layout) s 1 LOT_NUMBER_MOST there c r))
        && section_places (lotting layout) s there c r)
        ≡ left_of_section (lotting layout) s (old s) there c r) (eqb-true s o here)
        (left_here layout s c r (old s c r) fine
        (λ held. test_of_place PLACE_DIGITS c r (places s c r held)) (layout.lot_of s c r) refl)
    at_place o c r (inr not) =
        rw not
        (elsewhere (old o c r) (is_place PLACE_DIGITS c r)
        (is_lot_from 1 LOT_NUMBER_MOST (layout.lot_of s c r))
        (layout.has_land o c r))

pub part_found : (layout : Layout) (township : Designation) (section : ℕ) (steps : List Step)
    (part : PartOfLots) (block : Rectangle) (empty with left : ℕ → ℕ → ℕ → Bool)
    → AreWithin PLACE_DIGITS (cuts_of steps) → block ≡ reached PLACE_DIGITS (cuts_of steps)
    → empty ≡ no_places → with ≡ union empty (block_places section block)
    → left ≡ left_of_section (lotting layout) section (with section)
    → part.section ≡ section
    → AreListed (IsLotHeld (lotting layout) section (with section)) ◌<◌ part.lots.items
    → (IsTrue part.are_whole ↔ ((lot : ℕ) → IsWholeOrNot (lotting layout) section lot (with section)))
    → IsCanonicalText (lotting layout) township left part.rest.items
    → IsPartOfLots (lotting layout) township section steps part
part_found layout township section steps part block empty with left within is none added off same lots whole
    rest =
    let reach : Rectangle = reached PLACE_DIGITS (cuts_of steps) in
    let here : with section ≡ in_rectangle reach =
    ap (λ p. p section)
    (added ∙ ap (λ p. union p (block_places section block)) none
    ∙ ap (λ b. union no_places (block_places section b)) is)
    ∙ added_here section reach in
    record {
      within = within;
      of_section = same;
      lots_are = subst
          (λ (held : ℕ → ℕ → Bool). AreListed (IsLotHeld (lotting layout) section held) ◌<◌ part.lots.items)
          here
          lots;
      are_whole = subst
          (λ (held : ℕ → ℕ → Bool).
          IsTrue part.are_whole ↔ ((lot : ℕ) → IsWholeOrNot (lotting layout) section lot held)) here
          whole;
      rest_is = subst
          (λ (p : ℕ → ℕ → ℕ → Bool). IsCanonicalText (lotting layout) township p part.rest.items)
          (off ∙ ap (λ (held : ℕ → ℕ → Bool). left_of_section (lotting layout) section held) here) rest;
    }
