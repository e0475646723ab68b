-- Ranges of sections and of lots: the places that they name, added one after another.
use Rattle.std.proofs.Common.{◌≡◌, ◌==◌, ℕ, ◌-◌, ◌<◌, ◌≤◌, ◌&&◌, ◌||◌, ◌⊎◌, Bool, true, false, Option, Some}
use Rattle.std.proofs.Common.{None, refl, sym, ap, ◌∙◌, inl, inr, arith, nat_le}
use Rattle.std.proofs.Math.Path.{fun_ext}
use Rattle.std.specs.Option.{option_map_or}
use Rattle.std.proofs.lemmas.Bool.{and_parts, eqb-true}
use Rattle.std.proofs.lemmas.Bool.Decides.{nat_tests}
use Rattle.twp_grid.specs.Places.{PLACE_DIGITS, is_place}
use Rattle.twp_grid.specs.Spans.{Rectangle, in_rectangle, whole_block}
use Rattle.twp_grid.specs.Lands.{STANDARD_LOTS, Lotting, HasLot, AreLots, LOT_NUMBER_MOST, lot_places}
use Rattle.twp_grid.specs.Lands.{section_places}
use Rattle.twp_grid.specs.Lands.{no_places, union, block_places, Meets, SharePlace}
use Rattle.twp_grammar.specs.ItemPlaces.{is_lot_from}
use Rattle.twp_resolve.specs.steps.ResolvingSteps.{sections_from, lots_from, AreAdded}
use Rattle.twp_grid.specs.Winding.{IsSection}
use Rattle.twp_grid.specs.Lots.{position_of_lot, number_of_lots}
use Rattle.twp_land.proofs.LotFacts.{block_of}
use Rattle.twp_land.proofs.LotBlocks.{share_of_meets, meets_of_share}
use Rattle.twp_land.proofs.LottingFacts.{standard_places}
use Rattle.twp_grid.proofs.PlaceTests.{whole_is_place}

-- places added block by block
or_assoc : (a b c : Bool) → ((a || b) || c) ≡ (a || (b || c))
or_assoc true b c = refl
or_assoc false b c = refl

or_false : (a : Bool) → a ≡ (a || false)
or_false true = refl
or_false false = refl

or_either : (a b : Bool) → (a || b) ≡ true → (a ≡ true) ⊎ (b ≡ true)
or_either true b h = inl refl
or_either false b h = inr h

pub added_none : (places old : ℕ → ℕ → ℕ → Bool) → places ≡ no_places → AreAdded places old old
added_none places old none = record {
  apart = λ shared. cc (sym shared.in_second ∙ ap (λ p. p shared.section shared.column shared.row) none);
  added = fun_ext (λ s. fun_ext (λ c. fun_ext (λ r.
      or_false (old s c r) ∙ ap (λ p. old s c r || p s c r) (sym none))));
}

-- places that share none with those before
pub more_added : (places next old mid new more : ℕ → ℕ → ℕ → Bool)
    → AreAdded places old mid → ¬ SharePlace mid more
    → new ≡ union mid more → next ≡ union places more
    → AreAdded next old new
more_added places next old mid new more so_far free is grown = record {
  apart = λ shared.
      elim
      (or_either (places shared.section shared.column shared.row) _
      (sym (ap (λ p. p shared.section shared.column shared.row) grown) ∙ shared.in_second)) [
        | inl before ↦ so_far.apart (record {
          section = shared.section;
          column = shared.column;
          row = shared.row;
          in_first = shared.in_first;
          in_second = before;
        })
        | inr now ↦ free (record {
          section = shared.section;
          column = shared.column;
          row = shared.row;
          in_first =
              ap (λ p. p shared.section shared.column shared.row) so_far.added ∙ rw shared.in_first refl;
          in_second = now;
        })
      ];
  added = is ∙ fun_ext (λ s. fun_ext (λ c. fun_ext (λ r.
      ap (λ p. p s c r || more s c r) so_far.added
      ∙ or_assoc (old s c r) (places s c r) (more s c r)
      ∙ ap (λ p. old s c r || p s c r) (sym grown))));
}

pub added_next : (places next old mid new : ℕ → ℕ → ℕ → Bool) (section : ℕ) (block : Rectangle)
    → AreAdded places old mid → ¬ Meets (mid section) block
    → new ≡ union mid (block_places section block) → next ≡ union places (block_places section block)
    → AreAdded next old new
added_next places next old mid new section block so_far free is grown =
    more_added places next old mid new (block_places section block) so_far
    (λ shared. free (meets_of_share mid section block shared)) is grown

-- places that are met, and that the added ones do not include, were met before they were added
pub more_stuck : (places all old mid more : ℕ → ℕ → ℕ → Bool) → AreAdded places old mid → SharePlace mid more
    → ((s c r : ℕ) → more s c r ≡ true → (places s c r ≡ false) × (all s c r ≡ true))
    → SharePlace old all
more_stuck places all old mid more so_far shared new =
    let there = new shared.section shared.column shared.row shared.in_second in
    let held : (old shared.section shared.column shared.row || places shared.section shared.column shared.row)
    ≡ true = sym (ap (λ p. p shared.section shared.column shared.row) so_far.added) ∙ shared.in_first in
    record {
      section = shared.section;
      column = shared.column;
      row = shared.row;
      in_first = elim (or_either (old shared.section shared.column shared.row) _ held) [
        | inl before ↦ before
        | inr now ↦ cc (now, there.0)
      ];
      in_second = there.1;
    }

pub added_stuck : (places all old mid : ℕ → ℕ → ℕ → Bool) (section : ℕ) (block : Rectangle)
    → AreAdded places old mid → Meets (mid section) block
    → ((s c r : ℕ) → block_places section block s c r ≡ true → (places s c r ≡ false) × (all s c r ≡ true))
    → SharePlace old all
added_stuck places all old mid section block so_far meets new =
    more_stuck places all old mid (block_places section block) so_far (share_of_meets mid section block meets)
    new

pub next_section : (lots : Lotting) (first n : ℕ) → 1 ≤ n → first ≤ n
    → sections_from lots first n ≡ union (sections_from lots first (n - 1)) (section_places lots n)
next_section lots first n least some = fun_ext (λ s. fun_ext (λ c. fun_ext (λ r.
    by_place (is_place lots.digits c r) (lots.has_land s c r) (nat_le first s && nat_le s n)
    (nat_le first s && nat_le s (n - 1)) (n == s) (grind (arith, nat_tests)))))
  where
    by_place : (p l a b c : Bool) → a ≡ (b || c) → (p && (a && l)) ≡ ((p && (b && l)) || (p && (c && l)))
    by_place false l a b c h = refl
    by_place true true true true c h = refl
    by_place true true true false true h = refl
    by_place true true true false false h = h
    by_place true true false true c h = h
    by_place true true false false true h = h
    by_place true true false false false h = refl
    by_place true false a b c h = off a b c
      where
        off : (a b c : Bool) → (a && false) ≡ ((b && false) || (c && false))
        off true true true = refl
        off true true false = refl
        off true false true = refl
        off true false false = refl
        off false true true = refl
        off false true false = refl
        off false false true = refl
        off false false false = refl

-- the land of a section of the range differs from that of those before it
pub in_next_section : (lots : Lotting) (first n last : ℕ) → 1 ≤ n → first ≤ n → n ≤ last → (s c r : ℕ)
    → section_places lots n s c r ≡ true
    → (sections_from lots first (n - 1) s c r ≡ false) × (sections_from lots first last s c r ≡ true)
in_next_section lots first n last least some most s c r is =
    let parts = and_parts (is_place lots.digits c r) ((n == s) && lots.has_land s c r) is in
    let here = and_parts (n == s) (lots.has_land s c r) parts.1 in
    let same : n ≡ s = eqb-true n s here.0 in
    let before : (nat_le first s && nat_le s (n - 1)) ≡ false = grind (arith, nat_tests) in
    let within : (nat_le first s && nat_le s last) ≡ true = grind (arith, nat_tests) in
    (rw (parts.0, before) refl, rw (parts.0, within, here.1) refl)

-- the number of a lot
pub number_of_lot : (lots : Lotting) (s n : ℕ) → AreLots lots → HasLot lots s n
    → (1 ≤ n) × (n ≤ LOT_NUMBER_MOST)
number_of_lot lots s n fine has = fine.numbered s n has.0 has.1 has.2

-- places of lots
is_lot_from-none : (first last : ℕ) (lot : Option ℕ) → last < first → is_lot_from first last lot ≡ false
is_lot_from-none first last None none = refl
is_lot_from-none first last (Some n) none = grind (arith, nat_tests)

pub no_lots : (lots : Lotting) (s first last : ℕ) → last < first → lots_from lots s first last ≡ no_places
no_lots lots s first last none = fun_ext (λ o. fun_ext (λ c. fun_ext (λ r.
    rw (is_lot_from-none first last (lots.lot_of s c r) none) (off (is_place lots.digits c r) (s == o)))))
  where
    off : (a b : Bool) → (a && (b && false)) ≡ false
    off true true = refl
    off true false = refl
    off false b = refl

-- a range of lots, and the lot after it
pub next_lot : (lots : Lotting) (s first n : ℕ) → 1 ≤ n → first ≤ n
    → lots_from lots s first n ≡ union (lots_from lots s first (n - 1)) (lot_places lots s n)
next_lot lots s first n least some =
    fun_ext (λ o. fun_ext (λ c. fun_ext (λ r.
    at_place (is_place lots.digits c r) (s == o) (lots.lot_of s c r))))
  where
    joined : (p b x y z : Bool) → x ≡ (y || z) → (p && (b && x)) ≡ ((p && (b && y)) || (p && (b && z)))
    joined true true x y z e = e
    joined true false x y z e = refl
    joined false b x y z e = refl

    at_place : (p b : Bool) (lot : Option ℕ)
        → (p && (b && is_lot_from first n lot))
        ≡ ((p && (b && is_lot_from first (n - 1) lot))
        || (p && (b && option_map_or (λ number. n == number) lot false)))
    at_place p b None = joined p b false false false refl
    at_place p b (Some k) =
        joined p b (nat_le first k && nat_le k n) (nat_le first k && nat_le k (n - 1)) (n == k)
        (grind (arith, nat_tests))

-- the same, with the block of a standard lot
pub next_standard_lot : (s first n : ℕ) (block : Rectangle) → IsSection s → 1 ≤ n → first ≤ n
    → n ≤ number_of_lots s → block_of (position_of_lot s n) ≡ Some block
    → lots_from STANDARD_LOTS s first n
    ≡ union (lots_from STANDARD_LOTS s first (n - 1)) (block_places s block)
next_standard_lot s first n block range least some most is =
    next_lot STANDARD_LOTS s first n least some
    ∙ ap (λ more. union (lots_from STANDARD_LOTS s first (n - 1)) more)
    (sym (standard_places s n block range most is))

-- a lot of the range differs from those before it
pub in_next_lot : (lots : Lotting) (s first n last : ℕ) → 1 ≤ n → first ≤ n → n ≤ last
    → (o c r : ℕ) → lot_places lots s n o c r ≡ true
    → (lots_from lots s first (n - 1) o c r ≡ false) × (lots_from lots s first last o c r ≡ true)
in_next_lot lots s first n last least some most o c r there =
    let outer =
    and_parts (is_place lots.digits c r)
    ((s == o) && option_map_or (λ number. n == number) (lots.lot_of s c r) false) there in
    let inner =
    and_parts (s == o) (option_map_or (λ number. n == number) (lots.lot_of s c r) false) outer.1 in
    at_place (lots.lot_of s c r) refl inner.1 outer.0 inner.0
  where
    at_place : (lot : Option ℕ) → lots.lot_of s c r ≡ lot
        → option_map_or (λ number. n == number) lot false ≡ true
        → is_place lots.digits c r ≡ true → (s == o) ≡ true
        → (lots_from lots s first (n - 1) o c r ≡ false) × (lots_from lots s first last o c r ≡ true)
    at_place None at is place here = cc is
    at_place (Some k) at is place here =
        let same : n ≡ k = eqb-true n k is in
        let before : (nat_le first k && nat_le k (n - 1)) ≡ false = grind (arith, nat_tests) in
        let within : (nat_le first k && nat_le k last) ≡ true = grind (arith, nat_tests) in
        (rw (place, here, at, before) refl, rw (place, here, at, within) refl)
