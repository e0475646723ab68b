-- Where what a changed text names comes from in the text: the sections and the land of its items, each with
-- the place of its first byte.
use Rattle.std.specs.Prelude.{ℕ, ◌+◌, ◌-◌, nat_lt, List, [], ◌∷◌, ◌++◌, length, if◌then◌else◌}
use Rattle.twp_grammar.specs.declared.item.Item.{Item}
use Rattle.twp_grammar.specs.declared.item.Item.TheVariants.{Heading, Sections, Lots, Chain, All}
use Rattle.twp_grammar.specs.declared.item.Numeral.{Numeral}
use Rattle.twp_rules.specs.Changes.{Change}
use Rattle.twp_rules.specs.declared.mark.Mark.{Mark}
use Rattle.twp_rules.specs.declared.mark.Mark.TheVariants.{Section, Land}
use Rattle.twp_rules.specs.declared.rule.Rule.{Rule}
use Rattle.twp_rules.specs.declared.rule.Rule.TheVariants.{Copied, CopiedStep}

-- where what a change writes comes from: what it copies, or what it leaves out
abbrev pub origin_of : Rule → ℕ → ℕ
origin_of (Copied from to) start = from
origin_of (CopiedStep from to) start = from
origin_of rule start = start

-- THE ORIGIN of a byte of the changed text, by its offset there from a place of the text on
abbrev pub origin : ℕ → List Change → ℕ → ℕ
origin at [] offset = at + offset
origin at (change ∷ changes) offset =
    if nat_lt offset (change.start - at) then at + offset
    else (if nat_lt (offset - (change.start - at)) (length change.written)
    then origin_of change.rule change.start
    else origin change.end changes (offset - (change.start - at) - length change.written))

-- the number of a section, with its place in the text
abbrev pub section_mark : List Change → ℕ → Numeral → Mark
section_mark changes base number = Section number.value (origin 0 changes (base + number.at))

-- land, with its place in the text
abbrev pub land_mark : List Change → ℕ → ℕ → Mark
land_mark changes base at = Land (origin 0 changes (base + at))

-- what an item names, if the items are those of the changed text from an offset on
abbrev pub marks_of_item : List Change → ℕ → Item → List Mark
marks_of_item changes base (Heading number north_south range east_west at) = []
marks_of_item changes base (Sections first last whole) =
    section_mark changes base first ∷ section_mark changes base last ∷ []
marks_of_item changes base (Lots first last) = land_mark changes base first.at ∷ []
marks_of_item changes base (Chain steps at) = land_mark changes base at ∷ []
marks_of_item changes base (All at) = land_mark changes base at ∷ []

-- WHAT ITEMS NAME, from left to right
abbrev pub marks_of : List Change → ℕ → List Item → List Mark
marks_of changes base [] = []
marks_of changes base (item ∷ items) = marks_of_item changes base item ++ marks_of changes base items
