-- Laws of the land that a description names.
use Rattle.std.specs.Prelude.{◌≢◌, ℕ, Bool, true, false, List}
use Rattle.std.specs.List.{All as Every}
use Rattle.twp_grid.specs.Townships.{Designation}
use Rattle.twp_grid.specs.Lands.{AreLots, Layout, lotting, no_places, SamePlaces}
use Rattle.twp_grammar.specs.declared.item.Item.{Item}
use Rattle.twp_grammar.specs.declared.item.Item.TheVariants.{Heading, Sections, Lots, Chain, All}
use Rattle.twp_grammar.specs.Tokens.{Token}
use Rattle.twp_grammar.specs.Sentences.{HasItems}
use Rattle.twp_grammar.specs.OnPlat.{IsLandOfItems}
use Rattle.twp_grammar.specs.OnPlat.{IsTownshipLand}

-- the land of a sentence is land of the township
abbrev pub DescribedLandIsOfTownship : Type 0
DescribedLandIsOfTownship = (layout : Layout) (township : Designation) (tokens : List Token)
    (items : List Item) (places : ℕ → ℕ → ℕ → Bool) → HasItems tokens items → AreLots (lotting layout)
    → IsLandOfItems (lotting layout) township items places → IsTownshipLand (lotting layout) places

-- a sentence whose items lie on the plat names some place
abbrev pub DescriptionNamesSomePlace : Type 0
DescriptionNamesSomePlace = (layout : Layout) (township : Designation) (tokens : List Token)
    (items : List Item) (places : ℕ → ℕ → ℕ → Bool) → HasItems tokens items → AreLots (lotting layout)
    → IsLandOfItems (lotting layout) township items places → places ≢ no_places

-- the item names neither a lot nor a whole section: it is a heading, sections before parts, or a part
abbrev pub NamesNoLots : Item → Type 0
NamesNoLots (Heading number north_south range east_west at) = Unit {0}
NamesNoLots (Sections first last true) = ⊥
NamesNoLots (Sections first last false) = Unit {0}
NamesNoLots (Lots first last) = ⊥
NamesNoLots (Chain steps at) = Unit {0}
NamesNoLots (All at) = ⊥

-- items that name neither a lot nor a whole section have the same land on each two plats on which they lie
abbrev pub SameLandOnEachPlat : Type 0
SameLandOnEachPlat = (layout other : Layout) (township : Designation) (items : List Item)
    (places more : ℕ → ℕ → ℕ → Bool) → Every NamesNoLots items
    → IsLandOfItems (lotting layout) township items places
    → IsLandOfItems (lotting other) township items more → SamePlaces places more
