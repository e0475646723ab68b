-- What each step of resolving does with an item: it is added to the land of the items before it, or
-- its first fault is returned. No public contract cites this module; proofs/ResolvingFacts shows
-- that the steps lead to the land of all items, or to the first fault.
use Rattle.std.specs.Prelude.{◌≡◌, ◌==◌, ◌&&◌, nat_le, ℕ, ◌≤◌, Bool, Option, IsTrue}
use Rattle.std.specs.Option.{option_map_or}
use Rattle.twp_grid.specs.Places.{is_place}
use Rattle.twp_grid.specs.Townships.{Designation}
use Rattle.twp_grid.specs.Winding.{IsSection}
use Rattle.twp_grid.specs.Lands.{no_places, union, SharePlace}
use Rattle.twp_grid.specs.Lands.{Lotting}
use Rattle.twp_grammar.specs.declared.item.Item.{Item}
use Rattle.twp_grammar.specs.declared.item.Item.TheVariants as item
use Rattle.twp_resolve.specs.declared.place_fault.PlaceFault.{PlaceFault}
use Rattle.twp_grammar.specs.ItemPlaces.{is_lot_from, item_places}
use Rattle.twp_grammar.specs.OnPlat.{LiesOnPlat}
use Rattle.twp_resolve.specs.PlaceFaults.{HasFault, turn_of}
use Rattle.twp_grammar.specs.ItemPlaces.{item_of}

-- the places of the sections from a first number to a last at which the plat has land
abbrev pub sections_from : Lotting → ℕ → ℕ → ℕ → ℕ → ℕ → Bool
sections_from lots first last section column row = is_place lots.digits column row
    && ((nat_le first section && nat_le section last) && lots.has_land section column row)

-- the places of a section's lots from a first number to a last
abbrev pub lots_from : Lotting → ℕ → ℕ → ℕ → ℕ → ℕ → ℕ → Bool
lots_from lots section first last other column row =
    is_place lots.digits column row
    && ((section == other) && is_lot_from first last (lots.lot_of section column row))

-- the land contained none of these places, and now it contains them all
pub record AreAdded (places old new : ℕ → ℕ → ℕ → Bool) : Type 0 where
  pub apart : ¬ SharePlace old places
  pub added : new ≡ union old places

-- the item lies on the plat; the land contained none of its places, and now it contains them all
pub record IsItemTaken (lots : Lotting) (township : Designation) (section : ℕ) (some : Item)
    (old new : ℕ → ℕ → ℕ → Bool) : Type 0 where
  pub lies : LiesOnPlat lots township section some
  pub apart : ¬ SharePlace old (item_places lots (item_of section some))
  pub added : new ≡ union old (item_places lots (item_of section some))

-- the item, after items with this land, has the fault, and none with a smaller number
pub record IsItemsFirstFault (lots : Lotting) (township : Designation) (section : ℕ) (some : Item)
    (earlier : ℕ → ℕ → ℕ → Bool) (fault : PlaceFault) : Type 0 where
  pub is : HasFault lots township earlier section some fault
  pub first : (other : PlaceFault) → HasFault lots township earlier section some other
      → turn_of fault ≤ turn_of other

-- the item has a fault, whatever the items before it
pub record HasSomeFault (lots : Lotting) (township : Designation) (section : ℕ) (some : Item) : Type 0 where
  pub fault : PlaceFault
  pub is : HasFault lots township no_places section some fault

-- the number of the section named last, or 0
abbrev pub number_of_section : Option ℕ → ℕ
number_of_section section = option_map_or (λ number. number) section 0

-- a heading, or sections: the items that may come before any section is named
abbrev pub IsBeforeParts : Item → Type 0
IsBeforeParts (item.Heading number north_south range east_west at) = Unit {0}
IsBeforeParts (item.Sections first last whole) = Unit {0}
IsBeforeParts other = ⊥

-- there is room for the places of the sections from a first number to a last
abbrev pub HaveRoom : (ℕ → Bool) → ℕ → ℕ → Type 0
HaveRoom has_room first last = (section : ℕ) → IsSection section → first ≤ section → section ≤ last
    → IsTrue (has_room section)

-- there is room for the places of the item, after items of which the last named this section
abbrev pub HasRoomFor : (ℕ → Bool) → ℕ → Item → Type 0
HasRoomFor has_room section (item.Heading number north_south range east_west at) = Unit {0}
HasRoomFor has_room section (item.Sections first last whole) =
    IsTrue whole → HaveRoom has_room first.value last.value
HasRoomFor has_room section other = IsTrue (has_room section)
