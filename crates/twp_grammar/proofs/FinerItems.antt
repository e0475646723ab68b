-- The items of a description when each place is divided into four: items on the plat remain on it,
-- and their land is the same.
use Rattle.std.proofs.Common.{◌*◌, ◌≡◌, ◌==◌, ℕ, suc, ◌/◌, ◌≤◌, ◌&&◌, ◌||◌, Bool, true, false, List, [], ◌∷◌}
use Rattle.std.proofs.Common.{IsSome, refl, sym, ap, subst, ◌∙◌, inl, inr, arith}
use Rattle.std.proofs.Math.Nat.{pow-succ'}
use Rattle.std.proofs.Math.Path.{fun_ext}
use Rattle.twp_grid.proofs.PlaceTests.{place_of_test, test_of_place}
use Rattle.twp_grid.specs.Lots.{POSITIONS_ACROSS}
use Rattle.twp_grid.specs.Cuts.{rows_asked, columns_asked, AreWithin}
use Rattle.twp_grid.specs.Places.{places_across, is_place, binary, begins}
use Rattle.twp_grid.specs.Townships.{Designation}
use Rattle.twp_grid.proofs.FinerPlaces.{axis_coarser, same_place}
use Rattle.twp_grid.specs.FinerLands.{finer_land}
use Rattle.twp_grid.proofs.FinerLands.{same_lot}
use Rattle.twp_grammar.specs.declared.item.Item.{Item}
use Rattle.twp_grammar.specs.declared.item.Item.TheVariants as item
use Rattle.twp_grammar.specs.declared.item.Step.{Step}
use Rattle.twp_grammar.specs.ItemPlaces.{cuts_of, in_chain, is_lot_from, in_item, ItemOfSection, item_places}
use Rattle.twp_grammar.specs.ItemPlaces.{parts_of, land_of}
use Rattle.twp_grammar.specs.OnPlat.{LiesOnPlat, AreOnPlat, IsLandOfItems}
use Rattle.twp_grammar.proofs.Membership.{Among, among_contains}
use Rattle.twp_grid.specs.Lands.{HasLot, HasLand, standard_lots}

-- the places of steps when each place is one of the four that a larger place was divided into
pub chain_coarser : (g : ℕ) (steps : List Step) (column row : ℕ) → AreWithin g (cuts_of steps)
    → in_chain (suc g) steps column row ≡ in_chain g steps (column / 2) (row / 2)
chain_coarser g steps column row within =
    ap (λ b. b && begins (rows_asked (cuts_of steps)) (binary (suc g) row))
    (axis_coarser g (columns_asked (cuts_of steps)) column within.columns)
    ∙ ap (λ b. begins (columns_asked (cuts_of steps)) (binary g (column / 2)) && b)
    (axis_coarser g (rows_asked (cuts_of steps)) row within.rows)

pub within_greater : (k g : ℕ) (steps : List Step) → k ≤ g → AreWithin k (cuts_of steps)
    → AreWithin g (cuts_of steps)
within_greater k g steps more within =
    let rows = within.rows in
    let columns = within.columns in
    record { rows = omega arith; columns = omega arith }

-- an aliquot part is no smaller than a place
abbrev IsInPlaces : ℕ → Item → Type 0
IsInPlaces g (item.Chain steps at) = AreWithin g (cuts_of steps)
IsInPlaces g other = Unit {0}

in_places : (g : ℕ) (township : Designation) (section : ℕ) (it : Item)
    → LiesOnPlat (standard_lots g) township section it
    → IsInPlaces g it
in_places g township section (item.Chain steps at) lies = lies.0
in_places g township section (item.Heading number north_south range east_west at) lies = tt
in_places g township section (item.Sections first last whole) lies = tt
in_places g township section (item.Lots first last) lies = tt
in_places g township section (item.All at) lies = tt

-- the places that an item names
same_in_item : (g section : ℕ) (it : Item) (other column row : ℕ) → POSITIONS_ACROSS ≤ places_across g
    → IsInPlaces g it
    → in_item (standard_lots (suc g)) section it other column row
    ≡ in_item (standard_lots g) section it other (column / 2) (row / 2)
same_in_item g section (item.Heading number north_south range east_west at) other column row fits within =
    refl
same_in_item g section (item.Sections first last true) other column row fits within = refl
same_in_item g section (item.Sections first last false) other column row fits within = refl
same_in_item g section (item.Lots first last) other column row fits within =
    ap (λ lot. (section == other) && is_lot_from first.value last.value lot)
    (same_lot g section column row fits)
same_in_item g section (item.Chain steps at) other column row fits within =
    ap (λ b. (section == other) && b) (chain_coarser g steps column row within)
same_in_item g section (item.All at) other column row fits within = refl

same_places : (g : ℕ) (part : ItemOfSection) (section column row : ℕ) → POSITIONS_ACROSS ≤ places_across g
    → IsInPlaces g part.item
    → item_places (standard_lots (suc g)) part section column row
    ≡ finer_land (item_places (standard_lots g) part) section column row
same_places g part section column row fits within =
    ap (λ b. b && in_item (standard_lots (suc g)) part.section part.item section column row)
    (same_place g column row)
    ∙ ap (λ b. is_place g (column / 2) (row / 2) && b)
    (same_in_item g part.section part.item section column row fits within)

same_land : (g : ℕ) (parts : List ItemOfSection) (section column row : ℕ) → POSITIONS_ACROSS ≤ places_across g
    → ((part : ItemOfSection) → Among part parts → IsInPlaces g part.item)
    → land_of (standard_lots (suc g)) parts section column row
    ≡ finer_land (land_of (standard_lots g) parts) section column row
same_land g [] section column row fits within = refl
same_land g (part ∷ parts) section column row fits within =
    ap (λ b. b || land_of (standard_lots (suc g)) parts section column row)
    (same_places g part section column row fits (within part (inl refl)))
    ∙ ap (λ b. item_places (standard_lots g) part section (column / 2) (row / 2) || b)
    (same_land g parts section column row fits (λ other there. within other (inr there)))

-- a lot that a section has
lot_finer : (g section lot : ℕ) → POSITIONS_ACROSS ≤ places_across g → HasLot (standard_lots g) section lot
    → HasLot (standard_lots (suc g)) section lot
lot_finer g section lot fits (column, row, is) =
    let column-is : 2 * column / 2 ≡ column = omega arith in
    let row-is : 2 * row / 2 ≡ row = omega arith in
    (2 * column, 2 * row, same_lot g section (2 * column) (2 * row) fits ∙ rw (column-is, row-is) is)

-- land that a section has
has_land_finer : (g section : ℕ) → HasLand (standard_lots g) section → HasLand (standard_lots (suc g)) section
has_land_finer g section has = record {
  column = 2 * has.column;
  row = 2 * has.row;
  place =
      let place = place_of_test g has.column has.row has.place in
      test_of_place (suc g) (2 * has.column) (2 * has.row)
      (omega (arith, place.0, pow-succ' 2 g), omega (arith, place.1, pow-succ' 2 g));
  is_land = refl;
}

-- an item that lies on the plat
lies_finer : (g : ℕ) (township : Designation) (section : ℕ) (it : Item) → POSITIONS_ACROSS ≤ places_across g
    → LiesOnPlat (standard_lots g) township section it
    → LiesOnPlat (standard_lots (suc g)) township section it
lies_finer g township section (item.Heading number north_south range east_west at) fits lies = lies
lies_finer g township section (item.Sections first last whole) fits lies = (
  lies.0,
  lies.1,
  lies.2,
  λ is other least most. has_land_finer g other (lies.3 is other least most),
)
lies_finer g township section (item.Lots first last) fits lies =
    (lies.0, λ lot least most. lot_finer g section lot fits (lies.1 lot least most))
lies_finer g township section (item.Chain steps at) fits lies = (
  within_greater g (suc g) steps (omega arith) lies.0,
  λ held. lies.1 (record {
    column = held.column / 2;
    row = held.row / 2;
    named =
        sym
        (same_places g (record { section = section; item = item.Chain steps at }) section held.column held.row
        fits lies.0)
        ∙ held.named;
    is = subst (λ lot. IsSome lot) (same_lot g section held.column held.row fits) held.is;
  }),
  λ named. cc named.is,
)
lies_finer g township section (item.All at) fits lies = has_land_finer g section lies

pub on_plat_finer : (g : ℕ) (township : Designation) (items : List Item) → POSITIONS_ACROSS ≤ places_across g
    → AreOnPlat (standard_lots g) township items → AreOnPlat (standard_lots (suc g)) township items
on_plat_finer g township items fits on = record {
  each = λ k d within. lies_finer g township _ _ fits (on.each k d within);
  apart = λ i j d less within shared. on.apart i j d less within (record {
    section = shared.section;
    column = shared.column / 2;
    row = shared.row / 2;
    in_first =
        sym (same_places g _ shared.section shared.column shared.row fits
        (in_places g township _ _ (on.each i d (omega arith))))
        ∙ shared.in_first;
    in_second =
        sym (same_places g _ shared.section shared.column shared.row fits
        (in_places g township _ _ (on.each j d within)))
        ∙ shared.in_second;
  });
}

pub land_finer : (g : ℕ) (township : Designation) (items : List Item) (places : ℕ → ℕ → ℕ → Bool)
    → POSITIONS_ACROSS ≤ places_across g
    → IsLandOfItems (standard_lots g) township items places
    → IsLandOfItems (standard_lots (suc g)) township items (finer_land places)
land_finer g township items places fits land = record {
  on_plat = on_plat_finer g township items fits land.on_plat;
  land_is =
      ap finer_land land.land_is
      ∙ fun_ext (λ section. fun_ext (λ column. fun_ext (λ row.
      sym (same_land g (parts_of items) section column row fits within))));
}
  where
    within : (part : ItemOfSection) → Among part (parts_of items) → IsInPlaces g part.item
    within part there =
        let found = among_contains part (parts_of items) there in
        in_places g township part.section part.item
        (subst (λ (p : ItemOfSection). LiesOnPlat (standard_lots g) township p.section p.item) found.2
        (land.on_plat.each found.0 part found.1))
