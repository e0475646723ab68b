-- The result of each step of the search for two items that share land.
use Rattle.std.specs.Prelude.{◌≡◌, ℕ, ◌<◌, Bool, List, Some, slice_get}
use Rattle.twp_grid.specs.Townships.{Designation}
use Rattle.twp_grid.specs.Lands.{Lotting, intersection, SharePlace}
use Rattle.twp_grammar.specs.declared.item.Item.{Item}
use Rattle.twp_grammar.specs.ItemPlaces.{item_of, parts_of}
use Rattle.twp_resolve.specs.declared.place_fault.PlaceFault.{PlaceFault}
use Rattle.twp_resolve.specs.declared.place_fault.PlaceFault.TheVariants as fault
use Rattle.twp_resolve.specs.SharedLand.{places_at, AreRefusedForOverlap}

-- the fault is that land is named twice
abbrev pub IsOverlap : PlaceFault → Type 0
IsOverlap some = (at : ℕ) × (some ≡ fault.Overlap at)

-- the items are refused because the one at the index, of this section, names land again
pub record IsRefusedItem (lots : Lotting) (township : Designation) (items : List Item) (index section : ℕ)
    : Type 0 where
  pub refused : AreRefusedForOverlap lots township items
  pub index_is : refused.fault_is.index ≡ index
  pub part_is : (some : Item) → slice_get items index ≡ Some some
      → slice_get (parts_of items) index ≡ Some (item_of section some)

-- the items are refused because the item at the index names land again, and these are its places
pub record IsRefusedLand (lots : Lotting) (township : Designation) (items : List Item) (index : ℕ)
    (places : ℕ → ℕ → ℕ → Bool) : Type 0 where
  pub refused : AreRefusedForOverlap lots township items
  pub index_is : refused.fault_is.index ≡ index
  pub places_are : places ≡ places_at lots items index

-- the first item that shares a place with a later one, and the places that both name
pub record IsFirstSharing (lots : Lotting) (items : List Item) (earlier later : ℕ)
    (places : ℕ → ℕ → ℕ → Bool) : Type 0 where
  pub in_turn : earlier < later
  pub share : SharePlace (places_at lots items earlier) (places_at lots items later)
  pub first : (index : ℕ) → index < earlier
      → ¬ SharePlace (places_at lots items index) (places_at lots items later)
  pub places_are : places ≡ intersection (places_at lots items earlier) (places_at lots items later)
