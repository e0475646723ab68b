-- Which items lie on the plat without overlapping, and their land.
use Rattle.std.specs.Prelude.{◌≡◌, ℕ, ◌≤◌, Bool, true, false, List, IsSome, IsTrue}
use Rattle.std.specs.List.{All, AllPairs}
use Rattle.twp_grid.specs.Winding.{IsSection}
use Rattle.twp_grid.specs.Cuts.{AreWithin}
use Rattle.twp_grid.specs.Townships.{Designation, designation}
use Rattle.twp_grid.specs.Lands.{SharePlace}
use Rattle.twp_grid.specs.Lands.{Lotting, HasLot, HasLand, HasWholeLots}
use Rattle.twp_grammar.specs.declared.item.Item.{Item}
use Rattle.twp_grammar.specs.ItemPlaces.{cuts_of, ItemOfSection, item_places, parts_of, land_of}
use Rattle.twp_grid.specs.Places.{IsPlace}
use Rattle.twp_grammar.specs.declared.item.Item.TheVariants as item

-- an item of this section names a place of this kind in it
pub record Names (lots : Lotting) (section : ℕ) (item : Item) (Is : ℕ → ℕ → Type 0) : Type 0 where
  pub column : ℕ
  pub row : ℕ
  pub named : item_places lots (record { section = section; item = item }) section column row ≡ true
  pub is : Is column row

-- each number from first to last has this property
abbrev pub Each : (ℕ → Type 0) → ℕ → ℕ → Type 0
Each Is first last = (number : ℕ) → first ≤ number → number ≤ last → Is number

-- The item lies on the plat: its heading, its sections, and its lots are there, no range runs backward,
-- an aliquot part isn't too small, contains no place of a lot, and, as a whole section, has land.
abbrev pub LiesOnPlat : Lotting → Designation → ℕ → Item → Type 0
LiesOnPlat lots township section (item.Heading number north_south range east_west at) =
    designation number north_south range east_west ≡ township
LiesOnPlat lots township section (item.Sections first last whole) =
    IsSection first.value × IsSection last.value × (first.value ≤ last.value)
    × (IsTrue whole → Each (HasLand lots) first.value last.value)
LiesOnPlat lots township section (item.Lots first last) =
    (first.value ≤ last.value) × Each (HasLot lots section) first.value last.value
LiesOnPlat lots township section (item.Chain steps at) = AreWithin lots.digits (cuts_of steps)
    × ¬ Names lots section (item.Chain steps at) (λ column row. IsSome (lots.lot_of section column row))
    × ¬ Names lots section (item.Chain steps at) (λ column row. lots.has_land section column row ≡ false)
LiesOnPlat lots township section (item.All at) = HasLand lots section

-- each item lies on the plat, and no place is named by two items
pub record AreOnPlat (lots : Lotting) (township : Designation) (items : List Item) : Type 0 where
  pub each : All (λ part. LiesOnPlat lots township part.section part.item) (parts_of items)
  pub apart : AllPairs (λ part more. ¬ SharePlace (item_places lots part) (item_places lots more))
      (parts_of items)

-- the items lie on the plat without overlapping, and this is their land
pub record IsLandOfItems (lots : Lotting) (township : Designation) (items : List Item)
    (places : ℕ → ℕ → ℕ → Bool) : Type 0 where
  pub on_plat : AreOnPlat lots township items
  pub land_is : places ≡ land_of lots (parts_of items)

-- land in a township: it contains only places of its sections at which the plat has land, and each
-- lot wholly or not at all
pub record IsTownshipLand (lots : Lotting) (places : ℕ → ℕ → ℕ → Bool) : Type 0 where
  pub within : (section column row : ℕ) → places section column row ≡ true
      → IsSection section × IsPlace lots.digits column row × (lots.has_land section column row ≡ true)
  pub whole_lots : HasWholeLots lots places
