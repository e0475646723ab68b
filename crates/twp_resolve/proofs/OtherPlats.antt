-- Items that name neither a lot nor a whole section: their land is the same on each plat on which they lie.
use Rattle.std.proofs.Common.{◌≡◌, ℕ, ◌||◌, Bool, true, false, List, [], ◌∷◌, suc, refl, sym, ap, ◌∙◌, arith}
use Rattle.std.specs.List.{All as Every}
use Rattle.twp_grid.specs.Townships.{Designation}
use Rattle.twp_grid.specs.Lands.{Layout, lotting, SamePlaces}
use Rattle.twp_grammar.specs.declared.item.Item.{Item}
use Rattle.twp_grammar.specs.declared.item.Item.TheVariants.{Heading, Sections, Lots, Chain, All}
use Rattle.twp_grammar.specs.ItemPlaces.{item_of, item_places, section_after, with_sections, land_of}
use Rattle.twp_grammar.specs.OnPlat.{IsLandOfItems}
use Rattle.twp_resolve.specs.DescribedLand.{NamesNoLots}

-- such an item names the same places by each layout
same_item : (layout other : Layout) (section : ℕ) (it : Item) (s c r : ℕ) → NamesNoLots it
    → item_places (lotting layout) (item_of section it) s c r
    ≡ item_places (lotting other) (item_of section it) s c r
same_item layout other section (Heading number north_south range east_west at) s c r only = refl
same_item layout other section (Sections first last true) s c r only = absurd only
same_item layout other section (Sections first last false) s c r only = refl
same_item layout other section (Lots first last) s c r only = absurd only
same_item layout other section (Chain steps at) s c r only = refl
same_item layout other section (All at) s c r only = absurd only

-- so do such items, after any section
same_places : (layout other : Layout) (section : ℕ) (its : List Item) (s c r : ℕ) → Every NamesNoLots its
    → land_of (lotting layout) (with_sections section its) s c r
    ≡ land_of (lotting other) (with_sections section its) s c r
same_places layout other section [] s c r only = refl
same_places layout other section (it ∷ its) s c r only =
    let after = with_sections (section_after section it) its in
    ap (λ b. b || land_of (lotting layout) after s c r)
    (same_item layout other section it s c r (only 0 it (omega arith)))
    ∙ ap (λ b. item_places (lotting other) (item_of section it) s c r || b)
    (same_places layout other (section_after section it) its s c r
    (λ k d below. only (suc k) d (omega arith)))

-- the land of such a description is the same on each plat on which it is accepted
pub same_land : (layout other : Layout) (township : Designation) (its : List Item)
    (places more : ℕ → ℕ → ℕ → Bool) → Every NamesNoLots its
    → IsLandOfItems (lotting layout) township its places
    → IsLandOfItems (lotting other) township its more → SamePlaces places more
same_land layout other township its places more only land land' s c r =
    ap (λ ps. ps s c r) land.land_is ∙ same_places layout other 0 its s c r only
    ∙ sym (ap (λ ps. ps s c r) land'.land_is)
