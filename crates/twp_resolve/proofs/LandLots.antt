-- Each item on the plat names each lot wholly or not at all, and so does the land of items.
use Rattle.std.proofs.Common.{◌≡◌, ◌==◌, ℕ, suc, ◌<◌, ◌&&◌, ◌||◌, Bool, true, false, List, [], ◌∷◌}
use Rattle.std.proofs.Common.{Some, IsSome}
use Rattle.std.proofs.Common.{nat_le, length, refl, sym, ap, ◌∙◌, inl, inr, arith}
use Rattle.std.specs.List.{list_any}
use Rattle.std.proofs.Math.ListN.{get_or}
use Rattle.std.proofs.lemmas.Bool.{cases_Bool, eqb-true}
use Rattle.std.proofs.lemmas.Bool.Decides.{nat_tests}
use Rattle.twp_grid.proofs.PlaceTests.{test_of_place}
use Rattle.twp_grid.specs.Places.{PLACE_DIGITS, IsPlace, is_place}
use Rattle.twp_grid.specs.Townships.{Designation}
use Rattle.twp_grid.specs.Lands.{HasWholeLots, AreLots, Layout, lotting}
use Rattle.twp_grammar.specs.declared.item.Item.{Item}
use Rattle.twp_grammar.specs.declared.item.Item.TheVariants as item
use Rattle.twp_grammar.specs.declared.item.Step.{Step}
use Rattle.twp_grammar.specs.ItemPlaces.{is_lot_from, in_chain, in_item, item_places, parts_of, land_of}
use Rattle.twp_grammar.specs.OnPlat.{Names, LiesOnPlat, AreOnPlat}
use Rattle.twp_grammar.specs.ItemPlaces.{item_of}

-- an aliquot part on the plat names no place of a lot
not_of_lot : (layout : Layout) (section : ℕ) (steps : List Step) (at s lot column row : ℕ)
    → AreLots (lotting layout) → ¬ Names (lotting layout) section (item.Chain steps at)
    (λ c r. IsSome (layout.lot_of section c r))
    → layout.lot_of s column row ≡ Some lot
    → ((section == s) && in_chain PLACE_DIGITS steps column row) ≡ false
not_of_lot layout section steps at s lot column row fine off is = elim (cases_Bool (section == s)) [
  | inr other ↦ rw other refl
  | inl here ↦ elim (cases_Bool (in_chain PLACE_DIGITS steps column row)) [
    | inr outside ↦ rw (here, outside) refl
    | inl inside ↦
        let same : section ≡ s = eqb-true section s here in
        let place = test_of_place PLACE_DIGITS column row (fine.within s lot column row is).0 in
        let lot_there : layout.lot_of section column row ≡ Some lot =
        ap (λ n. layout.lot_of n column row) same ∙ is in
        let itself : (section == section) ≡ true = ap (λ n. section == n) same ∙ here in
        absurd (off (record {
          column = column;
          row = row;
          named = rw (place, itself, inside) refl;
          is = rw lot_there refl;
        }))
  ]
]

-- two places of a lot are either both in some lots of a section or neither is
same_lot : (layout : Layout) (section first last s lot column row column' row' : ℕ)
    → layout.lot_of s column row ≡ Some lot → layout.lot_of s column' row' ≡ Some lot
    → ((section == s) && is_lot_from first last (layout.lot_of section column row))
    ≡ ((section == s) && is_lot_from first last (layout.lot_of section column' row'))
same_lot layout section first last s lot column row column' row' is is' = elim (cases_Bool (section == s)) [
  | inr other ↦ rw other refl
  | inl here ↦
      let same : section ≡ s = eqb-true section s here in
      ap (λ l. (section == s) && is_lot_from first last l)
      (ap (λ n. layout.lot_of n column row) same
      ∙ is
      ∙ sym is'
      ∙ sym (ap (λ n. layout.lot_of n column' row') same))
]

-- the plat has land at each place of a lot
same_land : (layout : Layout) (s lot column row column' row' : ℕ) → AreLots (lotting layout)
    → layout.lot_of s column row ≡ Some lot → layout.lot_of s column' row' ≡ Some lot
    → layout.has_land s column row ≡ layout.has_land s column' row'
same_land layout s lot column row column' row' fine is is' =
    (fine.within s lot column row is).1 ∙ sym (fine.within s lot column' row' is').1

item_alike : (layout : Layout) (township : Designation) (section : ℕ) (it : Item)
    (s lot column row column' row' : ℕ)
    → LiesOnPlat (lotting layout) township section it → AreLots (lotting layout)
    → layout.lot_of s column row ≡ Some lot → layout.lot_of s column' row' ≡ Some lot
    → in_item (lotting layout) section it s column row ≡ in_item (lotting layout) section it s column' row'
item_alike layout township section (item.Heading number north_south range east_west at) s lot column row
    column'
    row' lies fine is is' = refl
item_alike layout township section (item.Sections first last true) s lot column row column' row' lies fine
    is is' =
    ap (λ b. (nat_le first.value s && nat_le s last.value) && b)
    (same_land layout s lot column row column' row' fine is is')
item_alike layout township section (item.Sections first last false) s lot column row column' row' lies fine
    is is' =
    refl
item_alike layout township section (item.Lots first last) s lot column row column' row' lies fine is is' =
    same_lot layout section first.value last.value s lot column row column' row' is is'
item_alike layout township section (item.Chain steps at) s lot column row column' row' lies fine is is' =
    not_of_lot layout section steps at s lot column row fine lies.1 is
    ∙ sym (not_of_lot layout section steps at s lot column' row' fine lies.1 is')
item_alike layout township section (item.All at) s lot column row column' row' lies fine is is' =
    ap (λ b. (section == s) && b) (same_land layout s lot column row column' row' fine is is')

any_alike : {X : Type 0} (test test' : X → Bool) (xs : List X)
    → ((k : ℕ) (d : X) → k < length xs → test (get_or xs k d) ≡ test' (get_or xs k d))
    → list_any test xs ≡ list_any test' xs
any_alike test test' [] each = refl
any_alike test test' (x ∷ xs) each =
    ap (λ b. b || list_any test xs) (each 0 x (omega arith))
    ∙ ap (λ b. test' x || b) (any_alike test test' xs (λ k d below. each (suc k) d (omega arith)))

pub land_has_whole_lots : (layout : Layout) (township : Designation) (items : List Item)
    → AreLots (lotting layout) → AreOnPlat (lotting layout) township items
    → HasWholeLots (lotting layout) (land_of (lotting layout) (parts_of items))
land_has_whole_lots layout township items fine on s lot range = record {
  alike = λ column row column' row' is is'.
      any_alike (λ p. item_places (lotting layout) p s column row)
      (λ p. item_places (lotting layout) p s column' row') (parts_of items) (λ k d below.
      let part = get_or (parts_of items) k d in
      rw (
        test_of_place PLACE_DIGITS column row (fine.within s lot column row is).0,
        test_of_place PLACE_DIGITS column' row' (fine.within s lot column' row' is').0,
      )
      (item_alike layout township part.section part.item s lot column row column' row' (on.each k d below)
      fine
      is is'));
}
