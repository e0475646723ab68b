-- The places that the items of a description name. A place is given by its section, its column from
-- the east, and its row from the south. g is the number of binary digits of a column or a row, and
-- lots is the lotting of the plat.
use Rattle.std.specs.Prelude.{ℕ, ◌==◌, ◌&&◌, nat_le, Bool, true, false, List, [], ◌∷◌, Option, Some}
use Rattle.std.specs.Prelude.{None, map}
use Rattle.std.specs.List.{list_any}
use Rattle.twp_grid.specs.Places.{is_place, binary, begins}
use Rattle.twp_grid.specs.Cuts.{Cut, rows_asked, columns_asked}
use Rattle.twp_grid.specs.Cuts.Cut.{half, quarter}
use Rattle.twp_grid.specs.Lands.{Lotting}
use Rattle.twp_grammar.specs.declared.item.Item.{Item}
use Rattle.twp_grammar.specs.declared.item.Item.TheVariants.{Heading, Sections, Lots, Chain, All}
use Rattle.twp_grammar.specs.declared.item.Step.{Step}
use Rattle.twp_grammar.specs.declared.item.Step.TheVariants.{Half, Quarter}

-- the half or the quarter that a step of an aliquot part takes
abbrev pub cut_of : Step → Cut
cut_of (Half side) = half side
cut_of (Quarter corner) = quarter corner

-- The cuts of an aliquot part, in the order in which it is written: the last step is taken first.
abbrev pub cuts_of : List Step → List Cut
cuts_of steps = map cut_of steps

-- the places whose first digits are those that the aliquot part asks for
abbrev pub in_chain : ℕ → List Step → ℕ → ℕ → Bool
in_chain g steps column row = begins (columns_asked (cuts_of steps)) (binary g column)
    && begins (rows_asked (cuts_of steps)) (binary g row)

-- a lot with a number from first to last
abbrev pub is_lot_from : ℕ → ℕ → Option ℕ → Bool
is_lot_from first last None = false
is_lot_from first last (Some lot) = nat_le first lot && nat_le lot last

-- whether an item of this section names the place at a section, a column, and a row
abbrev pub in_item : Lotting → ℕ → Item → ℕ → ℕ → ℕ → Bool
in_item lots section (Heading number north_south range east_west at) other column row = false
in_item lots section (Sections first last true) other column row =
    (nat_le first.value other && nat_le other last.value) && lots.has_land other column row
in_item lots section (Sections first last false) other column row = false
in_item lots section (Lots first last) other column row =
    (section == other) && is_lot_from first.value last.value (lots.lot_of section column row)
in_item lots section (Chain steps at) other column row =
    (section == other) && in_chain lots.digits steps column row
in_item lots section (All at) other column row =
    (section == other) && lots.has_land other column row

-- an item, and the number of the section that it belongs to
pub record ItemOfSection : Type 0 where
  pub section : ℕ
  pub item : Item

-- the places that an item names
abbrev pub item_places : Lotting → ItemOfSection → ℕ → ℕ → ℕ → Bool
item_places lots part section column row =
    is_place lots.digits column row && in_item lots part.section part.item section column row

-- the section of the next item: lots, aliquot parts, and `all` belong to the section named last
abbrev pub section_after : ℕ → Item → ℕ
section_after section (Sections first last whole) = first.value
section_after section other = section

-- each item of a list with its section, if the list follows this section
abbrev pub with_sections : ℕ → List Item → List ItemOfSection
with_sections section [] = []
with_sections section (item ∷ items) =
    record { section = section; item = item } ∷ with_sections (section_after section item) items

-- the items of a description, each with its section; before the first section there is none
abbrev pub parts_of : List Item → List ItemOfSection
parts_of items = with_sections 0 items

-- the land of items: all places that at least one of them names
abbrev pub land_of : Lotting → List ItemOfSection → ℕ → ℕ → ℕ → Bool
land_of lots parts section column row = list_any (λ part. item_places lots part section column row) parts

-- an item of a section
abbrev pub item_of : ℕ → Item → ItemOfSection
item_of section some = record { section = section; item = some }
