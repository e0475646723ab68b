-- The land of items, added one after another.
use Rattle.std.proofs.Common.{◌≡◌, ◌⊎◌, inl, inr, ℕ, ◌+◌, ◌<◌, ◌≤◌, ◌||◌, Bool, true, false, List, length}
use Rattle.std.proofs.Common.{take, drop, refl, sym, ap, subst}
use Rattle.std.specs.List.{AllPairs}
use Rattle.std.proofs.Common.{◌∙◌, arith, IfOk, Result, Ok, Err}
use Rattle.std.proofs.Math.Path.{fun_ext}
use Rattle.std.proofs.Math.ListN.{get_or}
use Rattle.std.proofs.lemmas.List.{take_all}
use Rattle.std.proofs.lemmas.List.Folds.{list_any_more}
use Rattle.twp_grid.specs.Places.{PLACE_DIGITS, IsPlace}
use Rattle.twp_grid.specs.Spans.{whole_block}
use Rattle.twp_grid.proofs.PlaceTests.{test_of_place, whole_is_place}
use Rattle.std.proofs.lemmas.Bool.{cases_lt, eq-eqb}
use Rattle.twp_grid.specs.Townships.{Designation}
use Rattle.twp_grid.specs.Lands.{Layout, Lotting, lotting, HasWholeLots, IsWholeOrNot, LacksLand, LieWithin}
use Rattle.twp_grid.specs.Lands.{Meets, SharePlace, difference, no_places, section_places}
use Rattle.twp_grammar.specs.declared.item.Item.{Item}
use Rattle.twp_grammar.specs.ItemPlaces.{ItemOfSection, item_of, item_places, land_of, parts_of}
use Rattle.twp_grammar.specs.ItemPlaces.{section_after, with_sections}
use Rattle.twp_grammar.specs.Sentences.{IsReadAs}
use Rattle.twp_spell.specs.CanonicalText.{IsCanonicalText}
use Rattle.twp_suggest.specs.Descriptions.{AreLotsNamed, AreNamed, NamesTownship, as_written}
use Rattle.twp_resolve.specs.steps.ResolvingSteps.{AreAdded}
use Rattle.twp_resolve.proofs.PlaceAnswers.{pairs_of_apart}
use Rattle.twp_resolve.proofs.ResolvingFacts.{IsNextItem, next_is, parts_count}

-- the land of the items before an index
pub record AreNamedTo (lots : Lotting) (items : List Item) (index section : ℕ) (places : ℕ → ℕ → ℕ → Bool)
    : Type 0 where
  pub left : drop index (parts_of items) ≡ with_sections section (drop index items)
  pub apart : (i : ℕ) (d : ItemOfSection) → i < index → i < length (parts_of items)
      → ¬ SharePlace (land_of lots (take i (parts_of items))) (item_places lots (get_or (parts_of items) i d))
  pub land : places ≡ land_of lots (take index (parts_of items))

pub named_none : (lots : Lotting) (items : List Item) (places : ℕ → ℕ → ℕ → Bool) → places ≡ no_places
    → AreNamedTo lots items 0 0 places
named_none lots items places none =
    record { left = refl; apart = λ i d before within. absurd (omega arith); land = none }

pub named_next : (lots : Lotting) (items : List Item) (index section : ℕ) (it : Item)
    (places new : ℕ → ℕ → ℕ → Bool)
    → index < length items → get_or items index it ≡ it → AreNamedTo lots items index section places
    → AreAdded (item_places lots (item_of section it)) places new
    → AreNamedTo lots items (index + 1) (section_after section it) new
named_next lots items index section it places new inside at so_far added =
    let next : IsNextItem items index section it = next_is items index section it inside at so_far.left in
    record {
      left = next.after;
      apart = λ i d before within. elim (cases_lt i index) [
        | inl earlier ↦ so_far.apart i d earlier within
        | inr here ↦
            let same : index ≡ i = omega arith in
            subst (λ n.
            ¬ SharePlace (land_of lots (take n (parts_of items)))
            (item_places lots (get_or (parts_of items) n d)))
            same
            (subst
            (λ (p : ItemOfSection).
            ¬ SharePlace (land_of lots (take index (parts_of items))) (item_places lots p))
            (sym (next.here d))
            (subst (λ land. ¬ SharePlace land (item_places lots (item_of section it))) so_far.land
            added.apart))
      ];
      land = added.added ∙ fun_ext (λ s. fun_ext (λ c. fun_ext (λ r.
          let d = item_of section it in
          ap (λ land. land s c r || item_places lots (item_of section it) s c r) so_far.land
          ∙ ap (λ (p : ItemOfSection).
          land_of lots (take index (parts_of items)) s c r || item_places lots p s c r)
          (sym (next.here d))
          ∙ sym
          (list_any_more (λ p. item_places lots p s c r) (parts_of items) index d next.within))));
    }

pub named_all : (lots : Lotting) (items : List Item) (index section : ℕ) (places : ℕ → ℕ → ℕ → Bool)
    → length items ≤ index → AreNamedTo lots items index section places
    → places ≡ land_of lots (parts_of items)
named_all lots items index section places end named =
    let count = parts_count 0 items in
    named.land ∙ ap (λ ps. land_of lots ps) (take_all index (parts_of items) (omega arith))

pub named_apart : (lots : Lotting) (items : List Item) (index section : ℕ) (places : ℕ → ℕ → ℕ → Bool)
    → length items ≤ index → AreNamedTo lots items index section places
    → AllPairs (λ part more. ¬ SharePlace (item_places lots part) (item_places lots more)) (parts_of items)
named_apart lots items index section places end named =
    let count = parts_count 0 items in
    pairs_of_apart lots (parts_of items) (λ i d within. named.apart i d (omega arith) within)

-- a fact for each number, where a result has a value
pub if_ok_at : {T E : Type 0} (result : Result T E) (P : ℕ → Type 0) (at : ℕ)
    → IfOk result (λ _. (n : ℕ) → P n) → IfOk result (λ _. P at)
if_ok_at (Ok value) P at all = all at
if_ok_at (Err fault) P at all = all

-- the land of a text that is read
pub are_named : (lots : Lotting) (text : List ℕ) (items : List Item) (places : ℕ → ℕ → ℕ → Bool)
    → IsReadAs text items
    → places ≡ land_of lots (parts_of items) → HasWholeLots lots places
    → ((section column row : ℕ) → places section column row ≡ true → lots.has_land section column row ≡ true)
    → AreNamed lots text places
are_named lots text items places read named whole on_land =
    record { items = items; read = read; places_are = named; whole = whole; on_land = on_land }

pub are_lots_named : (lots : Lotting) (made text full : List ℕ) (items : List Item) (township : Designation)
    (places : ℕ → ℕ → ℕ → Bool) → IsReadAs made items → NamesTownship items township
    → places ≡ land_of lots (parts_of items) → HasWholeLots lots places
    → ((section column row : ℕ) → places section column row ≡ true → lots.has_land section column row ≡ true)
    → IsCanonicalText lots township places full → text ≡ as_written items full
    → AreLotsNamed lots made text
are_lots_named lots made text full items township places read of_township named whole on_land spelled
    written =
    record {
      township = township;
      places = places;
      named = record { items = items; read = read; places_are = named; whole = whole; on_land = on_land };
      of_township = of_township;
      full = full;
      spelled = spelled;
      text_is = written;
    }

none_whole : (lots : Lotting) (s n : ℕ) (held : ℕ → ℕ → Bool)
    → ((column row : ℕ) → held column row ≡ false) → IsWholeOrNot lots s n held
none_whole lots s n held none = record {
  alike = λ column row column' row' lot lot'. none column row ∙ sym (none column' row');
}

-- land has no lots outside of the sections between which it is
whole_outside : (lots : Lotting) (places : ℕ → ℕ → ℕ → Bool) (first last section lot : ℕ)
    → LieWithin places first last
    → (section < first) ⊎ (last < section) → IsWholeOrNot lots section lot (places section)
whole_outside lots places first last section lot within out =
    none_whole lots section lot (places section) (λ column row.
    by_test column row (places section column row) refl)
  where
    by_test : (column row : ℕ) (x : Bool) → places section column row ≡ x → places section column row ≡ false
    by_test column row true e =
        let there = within section column row e in
        elim out [
          | inl before ↦ absurd (omega (arith, there.0))
          | inr after ↦ absurd (omega (arith, there.1))
        ]
    by_test column row false e = e

pub whole_after : (lots : Lotting) (places : ℕ → ℕ → ℕ → Bool) (first last section lot : ℕ)
    → LieWithin places first last
    → last < section → IsWholeOrNot lots section lot (places section)
whole_after lots places first last section lot within after =
    whole_outside lots places first last section lot within (inr after)

-- nor has no land any
pub whole_if_none : (lots : Lotting) (places : ℕ → ℕ → ℕ → Bool) → places ≡ no_places
    → HasWholeLots lots places
whole_if_none lots places none section lot range =
    none_whole lots section lot (places section) (λ column row.
    ap (λ (land : ℕ → ℕ → ℕ → Bool). land section column row) none)

-- the plat has land at each place of a section that isn't off it
pub on_land_here : (layout : Layout) (s : ℕ) (places : ℕ → ℕ → ℕ → Bool)
    → ((c r : ℕ) → places s c r ≡ true → IsPlace PLACE_DIGITS c r)
    → ¬ Meets (difference places (section_places (lotting layout) s) s) (whole_block PLACE_DIGITS)
    → (c r : ℕ) → places s c r ≡ true → layout.has_land s c r ≡ true
on_land_here layout s places within none c r held = by_test (layout.has_land s c r) refl
  where
    by_test : (x : Bool) → layout.has_land s c r ≡ x → layout.has_land s c r ≡ true
    by_test true is = is
    by_test false is =
        let place = test_of_place PLACE_DIGITS c r (within c r held) in
        absurd
        (none (record {
          column = c;
          row = r;
          inside = rw (whole_is_place c r) place;
          is_held = rw (held, place, eq-eqb s s refl, is) refl;
        }))

-- or if it lacks none
pub none_lacks : (layout : Layout) (s : ℕ) (places : ℕ → ℕ → ℕ → Bool)
    → ((c r : ℕ) → places s c r ≡ true → IsPlace PLACE_DIGITS c r)
    → ¬ LacksLand (lotting layout) s (whole_block PLACE_DIGITS)
    → (c r : ℕ) → places s c r ≡ true → layout.has_land s c r ≡ true
none_lacks layout s places within none c r held = by_test (layout.has_land s c r) refl
  where
    by_test : (x : Bool) → layout.has_land s c r ≡ x → layout.has_land s c r ≡ true
    by_test true is = is
    by_test false is =
        absurd
        (none (record {
          column = c;
          row = r;
          inside = rw (whole_is_place c r) (test_of_place PLACE_DIGITS c r (within c r held));
          none = is;
        }))
