-- Room for the places of items.
use Rattle.std.proofs.Common.{ℕ, Bool, Option, IsTrue}
use Rattle.twp_grammar.specs.declared.item.Item.{Item}
use Rattle.twp_grammar.specs.declared.item.Item.TheVariants as item
use Rattle.twp_resolve.specs.steps.ResolvingSteps.{HasRoomFor, number_of_section}

-- if there is room for each section, there is room for each item
pub room_for_each : (has_room : ℕ → Bool) (section : Option ℕ) (it : Item)
    → ((number : ℕ) → IsTrue (has_room number)) → HasRoomFor has_room (number_of_section section) it
room_for_each has_room section (item.Heading number north_south range east_west at) roomy = tt
room_for_each has_room section (item.Sections first last whole) roomy =
    λ _ number range least most. roomy number
room_for_each has_room section (item.Lots first last) roomy = roomy (number_of_section section)
room_for_each has_room section (item.Chain steps at) roomy = roomy (number_of_section section)
room_for_each has_room section (item.All at) roomy = roomy (number_of_section section)
