-- Which number of a description's items is at a place of its text, and which section an item belongs to. No
-- public contract cites this module.
use Rattle.std.specs.Prelude.{◌≡◌, ◌⊎◌, ◌<◌, ℕ, List, [], ◌∷◌, take, Option, Some, SomeIff, slice_get}
use Rattle.twp_grid.specs.Winding.{IsSection}
use Rattle.twp_grammar.specs.ItemPlaces.{section_after}
use Rattle.twp_grammar.specs.declared.item.Item.{Item}
use Rattle.twp_grammar.specs.declared.item.Item.TheVariants as item
use Rattle.twp_grammar.specs.declared.item.Numeral.{Numeral}

-- one of two numbers is at a place, and this is its value
abbrev pub IsOneOfTwo : ℕ → Numeral → Numeral → ℕ → Type 0
IsOneOfTwo at first last value =
    ((first.at ≡ at) × (value ≡ first.value)) ⊎ ((last.at ≡ at) × (value ≡ last.value))

-- so is one of an item's numbers: the first or the last of its sections, or of its lots
abbrev pub HasNumberAt : ℕ → Item → ℕ → Type 0
HasNumberAt at (item.Sections first last whole) value = IsOneOfTwo at first last value
HasNumberAt at (item.Lots first last) value = IsOneOfTwo at first last value
HasNumberAt at other value = ⊥

-- none of an item's numbers is at the place
abbrev pub HasNoNumberAt : ℕ → Item → Type 0
HasNoNumberAt at found = (value : ℕ) → ¬ HasNumberAt at found value

-- one of the items has this number at the place
pub record IsNumberAt (at : ℕ) (items : List Item) (value : ℕ) : Type 0 where
  pub index : ℕ
  pub found : Item
  pub is : slice_get items index ≡ Some found
  pub has : HasNumberAt at found value

-- none of the first so many items has a number there
abbrev pub NoneHasNumberAt : ℕ → List Item → ℕ → Type 0
NoneHasNumberAt at items count = (index : ℕ) (other : Item) → index < count
    → slice_get items index ≡ Some other → HasNoNumberAt at other

-- the number of the section that is named last in items that follow this section
abbrev pub section_named : ℕ → List Item → ℕ
section_named section [] = section
section_named section (some ∷ items) = section_named (section_after section some) items

-- the section of a number, if it is a section's
abbrev pub IsSectionOf : ℕ → Option ℕ → Type 0
IsSectionOf number section = SomeIff section (IsSection number) number

-- the section of the next item, for the section of an item
abbrev pub IsSectionAfter : Option ℕ → Item → Option ℕ → Type 0
IsSectionAfter section found after = (number : ℕ) → IsSectionOf number section
    → IsSectionOf (section_after number found) after

-- the section that the first item with a number at the place belongs to: the one named last before it
abbrev pub IsSectionOfNumber : ℕ → List Item → Option ℕ → Type 0
IsSectionOfNumber at items section = (index value : ℕ) (found : Item) → slice_get items index ≡ Some found
    → HasNumberAt at found value → NoneHasNumberAt at items index
    → IsSectionOf (section_named 0 (take index items)) section
