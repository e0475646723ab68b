-- The land that two items of a description both name, if it is refused for that.
use Rattle.std.specs.Prelude.{◌≡◌, ℕ, ◌<◌, Bool, false, List, slice_get}
use Rattle.std.specs.Option.{option_map_or}
use Rattle.twp_grid.specs.Townships.{Designation}
use Rattle.twp_grid.specs.Lands.{Lotting, intersection, SharePlace}
use Rattle.twp_grammar.specs.declared.item.Item.{Item}
use Rattle.twp_grammar.specs.ItemPlaces.{item_places, parts_of}
use Rattle.twp_resolve.specs.declared.place_fault.PlaceFault.TheVariants as fault
use Rattle.twp_resolve.specs.declared.shared.SharingItems.{SharingItems}
use Rattle.twp_resolve.specs.PlaceFaults.{IsFirstPlaceFault}

-- the places that the item at an index names; none if there is no such item
abbrev pub places_at : Lotting → List Item → ℕ → ℕ → ℕ → ℕ → Bool
places_at lots items index section column row =
    option_map_or (λ part. item_places lots part section column row) (slice_get (parts_of items) index)
    false

-- the first fault of the items is that one of them names land again
pub record AreRefusedForOverlap (lots : Lotting) (township : Designation) (items : List Item) : Type 0 where
  pub at : ℕ
  pub fault_is : IsFirstPlaceFault lots township items (fault.Overlap at)

-- the items are refused for the later of the pair; the earlier is the first that names one of its
-- places, and these are the places that both name
pub record AreFirstSharing (lots : Lotting) (township : Designation) (items : List Item)
    (pair : SharingItems) (places : ℕ → ℕ → ℕ → Bool) : Type 0 where
  pub refused : AreRefusedForOverlap lots township items
  pub later_is : refused.fault_is.index ≡ pair.later
  pub in_turn : pair.earlier < pair.later
  pub share : SharePlace (places_at lots items pair.earlier) (places_at lots items pair.later)
  pub first : (index : ℕ) → index < pair.earlier
      → ¬ SharePlace (places_at lots items index) (places_at lots items pair.later)
  pub places_are : places
      ≡ intersection (places_at lots items pair.earlier) (places_at lots items pair.later)
