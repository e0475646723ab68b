-- The first fault of items that do not lie on the plat without overlapping.
use Rattle.std.specs.Prelude.{◌≡◌, ◌≢◌, ◌⊎◌, ℕ, ◌≤◌, ◌<◌, Bool, false, IsTrue, IsSome, List, Option, Some}
use Rattle.std.specs.Prelude.{Result, Ok, Err, slice_get, take}
use Rattle.std.specs.Option.{option_map_or}
use Rattle.twp_grid.specs.Winding.{IsSection}
use Rattle.twp_grid.specs.Cuts.{AreWithin}
use Rattle.twp_grid.specs.Townships.{Designation, designation}
use Rattle.twp_grid.specs.declared.refusal.Refusal.{Refusal}
use Rattle.twp_grid.specs.Lands.{SharePlace, Lotting, HasLot, HasLand}
use Rattle.twp_grammar.specs.declared.item.Item.{Item}
use Rattle.twp_grammar.specs.declared.item.Item.TheVariants as item
use Rattle.twp_grammar.specs.declared.item.Numeral.{Numeral}
use Rattle.twp_resolve.specs.declared.place_fault.PlaceFault.{PlaceFault}
use Rattle.twp_resolve.specs.declared.place_fault.PlaceFault.TheVariants as fault
use Rattle.twp_grammar.specs.ItemPlaces.{cuts_of, ItemOfSection, item_places, parts_of, land_of}
use Rattle.twp_grammar.specs.OnPlat.{Names, Each}
pub use Rattle.twp_grammar.specs.OnPlat.{AreOnPlat, IsLandOfItems}

-- the number and the place of each fault
abbrev pub refusal_of : PlaceFault → Option Refusal
refusal_of (fault.OtherTownship at) = Some (record { number = 61; at = at })
refusal_of (fault.NoSection at) = Some (record { number = 62; at = at })
refusal_of (fault.Backward at) = Some (record { number = 63; at = at })
refusal_of (fault.NoLot at) = Some (record { number = 64; at = at })
refusal_of (fault.TooFine at) = Some (record { number = 65; at = at })
refusal_of (fault.OnLot at) = Some (record { number = 66; at = at })
refusal_of (fault.Overlap at) = Some (record { number = 67; at = at })
refusal_of (fault.NoLand at) = Some (record { number = 68; at = at })

-- the turn in which an item's faults are reported: by the numbers of their refusals, an overlap last
abbrev pub turn_of : PlaceFault → ℕ
turn_of (fault.Overlap at) = 69
turn_of place_fault = option_map_or (λ (refusal : Refusal). refusal.number) (refusal_of place_fault) 0

-- the place in the text of the first of two numbers that lacks a property
abbrev pub IsFirstUnlike : (ℕ → Type 0) → Numeral → Numeral → ℕ → Type 0
IsFirstUnlike IsOfKind first last at =
    ((at ≡ first.at) × ¬ IsOfKind first.value)
    ⊎ ((at ≡ last.at) × IsOfKind first.value × ¬ IsOfKind last.value)

-- where an item begins in the text; a range begins at its first number
abbrev pub start_of : Item → ℕ
start_of (item.Heading number north_south range east_west at) = at
start_of (item.Sections first last whole) = first.at
start_of (item.Lots first last) = first.at
start_of (item.Chain steps at) = at
start_of (item.All at) = at

-- the item, after items with this land, has the fault, which is reported at this place in the text
abbrev pub HasFault : Lotting → Designation → (ℕ → ℕ → ℕ → Bool) → ℕ → Item → PlaceFault → Type 0
HasFault lots township earlier section (item.Heading number north_south range east_west start)
    (fault.OtherTownship at) =
    (at ≡ start) × (designation number north_south range east_west ≢ township)
HasFault lots township earlier section (item.Sections first last whole) (fault.NoSection at) =
    IsFirstUnlike IsSection first last at
HasFault lots township earlier section (item.Sections first last whole) (fault.Backward at) =
    (at ≡ last.at) × (last.value < first.value)
HasFault lots township earlier section (item.Lots first last) (fault.Backward at) =
    (at ≡ last.at) × (last.value < first.value)
HasFault lots township earlier section (item.Lots first last) (fault.NoLot at) =
    IsFirstUnlike (Each (HasLot lots section) first.value) first last at
HasFault lots township earlier section (item.Chain steps start) (fault.TooFine at) =
    (at ≡ start) × ¬ AreWithin lots.digits (cuts_of steps)
HasFault lots township earlier section (item.Chain steps start) (fault.OnLot at) =
    (at ≡ start)
    × Names lots section (item.Chain steps start) (λ column row. IsSome (lots.lot_of section column row))
HasFault lots township earlier section (item.Sections first last whole) (fault.NoLand at) =
    IsTrue whole × IsFirstUnlike (Each (HasLand lots) first.value) first last at
HasFault lots township earlier section (item.Chain steps start) (fault.NoLand at) =
    (at ≡ start)
    × Names lots section (item.Chain steps start) (λ column row. lots.has_land section column row ≡ false)
HasFault lots township earlier section (item.All start) (fault.NoLand at) =
    (at ≡ start) × ¬ HasLand lots section
HasFault lots township earlier section some (fault.Overlap at) =
    (at ≡ start_of some)
    × SharePlace earlier (item_places lots (record { section = section; item = some }))
HasFault lots township earlier section some other = ⊥

-- the item at an index has the fault
pub record HasFaultAt (lots : Lotting) (township : Designation) (items : List Item) (index : ℕ)
    (place_fault : PlaceFault) : Type 0 where
  pub part : ItemOfSection
  pub part_is : slice_get (parts_of items) index ≡ Some part
  pub has : HasFault lots township (land_of lots (take index (parts_of items))) part.section part.item
      place_fault

-- an index and a fault that do not come before these; of the faults of one item, the one whose turn is first
abbrev pub IsFrom : ℕ → PlaceFault → ℕ → PlaceFault → Type 0
IsFrom index place_fault index' other =
    (index < index') ⊎ ((index ≡ index') × (turn_of place_fault ≤ turn_of other))

-- the fault of the first item that has one, and the first of that item's faults
pub record IsFirstPlaceFault (lots : Lotting) (township : Designation) (items : List Item)
    (place_fault : PlaceFault) : Type 0 where
  pub index : ℕ
  pub is : HasFaultAt lots township items index place_fault
  pub first : (index' : ℕ) (other : PlaceFault) → HasFaultAt lots township items index' other
      → IsFrom index place_fault index' other

-- the land of items that lie on the plat without overlapping, or their first fault
abbrev pub AnswersPlaces : Lotting → Designation → List Item
    → Result (ℕ → ℕ → ℕ → Bool) PlaceFault → Type 0
AnswersPlaces lots township items (Ok places) = IsLandOfItems lots township items places
AnswersPlaces lots township items (Err place_fault) = IsFirstPlaceFault lots township items place_fault
