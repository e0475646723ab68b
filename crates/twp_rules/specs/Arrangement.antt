-- Where land lies: with the section to which the text assigns it. No other section is between them, except
-- those of the same list; no other section leads to the land by a colon; and if land before its section
-- follows land after its own section, or follows other sections, a semicolon or a line end separates them.
use Rattle.std.specs.Prelude.{◌==◌, ◌||◌, ◌&&◌, ℕ, suc, Bool, true, false, List, [], ◌∷◌, Option, Some, None}
use Rattle.std.specs.Prelude.{drop, if◌then◌else◌, length, nat_le, nat_lt, not, slice_index, slice_range}
use Rattle.std.specs.Prelude.{take}
use Rattle.twp_grammar.specs.declared.item.Item.{Item}
use Rattle.twp_rules.specs.Changes.{Change}
use Rattle.twp_rules.specs.Apart.{is_blank}
use Rattle.twp_rules.specs.Edges.{ends_with_one, is_one_of, without_white}
use Rattle.twp_rules.specs.Endings.{land_joints, section_joints}
use Rattle.twp_rules.specs.Naming.{begins_word, digits_of, word_of}
use Rattle.twp_rules.specs.Origins.{marks_of}
use Rattle.twp_rules.specs.Roles.{goes_on_with_list}
use Rattle.twp_rules.specs.Words.{section_names}
use Rattle.twp_rules.specs.declared.lying.Lying.{Lying}
use Rattle.twp_rules.specs.declared.mark.Mark.{Mark}
use Rattle.twp_rules.specs.declared.mark.Mark.TheVariants.{Section, Land}

-- a semicolon or a line end is in a text
abbrev pub has_break : List ℕ → Bool
has_break [] = false
has_break (byte ∷ bytes) = (byte == 59) || (byte == 10) || has_break bytes

-- the word at a place, if one begins there, is of a list of sections
abbrev pub is_listed_at : List ℕ → ℕ → List ℕ → Bool
is_listed_at seen at rest =
    not (begins_word seen at) || goes_on_with_list (word_of rest) || is_one_of (word_of rest) section_names

-- so is each word from a place on
abbrev pub is_list_from : List ℕ → ℕ → List ℕ → Bool
is_list_from seen at [] = true
is_list_from seen at (byte ∷ bytes) =
    is_listed_at seen at (byte ∷ bytes) && is_list_from seen (suc at) bytes

-- only words of a list of sections are between two places
abbrev pub is_one_list : List ℕ → ℕ → ℕ → Bool
is_one_list text one other =
    if nat_le one other then is_list_from (slice_range text one other) 0 (slice_range text one other)
    else is_list_from (slice_range text other one) 0 (slice_range text other one)

-- a colon, with white space, is all of a text
abbrev pub is_colon : List ℕ → Bool
is_colon seen = (slice_index (without_white seen) 0 == 58) && is_blank (drop 1 (without_white seen))

-- the digits of a number, and a colon, are all of a text
abbrev pub is_number_with_colon : List ℕ → Bool
is_number_with_colon seen = is_colon (drop (length (digits_of seen)) seen)

-- the number of a section leads to land: only a colon is between them
abbrev pub leads_to : List ℕ → ℕ → ℕ → Bool
leads_to text section land = is_number_with_colon (slice_range text section land)

-- a mark is no other section, neither from one place up to another, nor where it leads to the land; or it is
-- one of the same list
abbrev pub is_no_other : List ℕ → Lying → ℕ → ℕ → Mark → Bool
is_no_other text it from to (Land place) = true
is_no_other text it from to (Section number place) =
    (number == it.number)
    || (nat_lt place from || nat_le to place) && not (leads_to text place it.land)
    || is_one_list text it.section place

-- NO OTHER SECTION is from one place up to another, or leads to the land, but those of the same list
abbrev pub has_no_other : List ℕ → Lying → ℕ → ℕ → List Mark → Bool
has_no_other text it from to [] = true
has_no_other text it from to (mark ∷ marks) =
    is_no_other text it from to mark && has_no_other text it from to marks

-- land is after its section
abbrev pub is_after : Lying → Bool
is_after it = nat_le it.section it.land

-- land that is after its section: the land before it is, too; or a break is between the two sections; or, if
-- one section has land on both sides, a break is between the section and the land after it, or no other
-- section is named
abbrev pub lies_after : List ℕ → List Mark → Option Lying → Lying → Bool
lies_after text marks None it = true
lies_after text marks (Some last) it =
    is_after last
    || (if last.section == it.section
    then has_break (slice_range text it.section it.land) || has_no_other text it 0 (length text) marks
    else has_break (slice_range text last.section it.section))

-- `and` joins land to sections before it, and `of` is between the land and its own section
abbrev pub is_joined : List ℕ → Lying → Bool
is_joined text it =
    ends_with_one (take it.land text) land_joints && ends_with_one (take it.section text) section_joints

-- land that is before its section: the land before it is, too; or the only break between the two sections is
-- between the two pieces of land. If there is no land before it, no other section is before it, or a break
-- is, or it is joined to the sections before it
abbrev pub lies_before : List ℕ → List Mark → Option Lying → Lying → Bool
lies_before text marks None it =
    has_no_other text it 0 it.land marks || has_break (slice_range text 0 it.land) || is_joined text it
lies_before text marks (Some last) it =
    not (is_after last)
    || has_break (slice_range text last.land it.land)
    && not (has_break (slice_range text last.section last.land))
    && not (has_break (slice_range text it.land it.section))

-- LAND LIES WITH ITS SECTION, after other land
abbrev pub lies : List ℕ → List Mark → Option Lying → Lying → Bool
lies text marks last it =
    if is_after it
    then has_no_other text it it.section it.land marks && lies_after text marks last it
    else has_no_other text it it.land it.section marks && lies_before text marks last it

-- so does all land from a mark on, in the section named last
abbrev pub lie_from : List ℕ → List Mark → ℕ → ℕ → Option Lying → List Mark → Bool
lie_from text all number section last [] = true
lie_from text all number section last (Section next place ∷ marks) =
    lie_from text all next place last marks
lie_from text all number section last (Land place ∷ marks) =
    lies text all last (record { number = number; section = section; land = place })
    && lie_from text all number section (Some (record { number = number; section = section; land = place }))
    marks

-- ALL LAND LIES WITH ITS SECTIONS: that of items, which are those of the changed text from an offset on
abbrev pub lie_with_sections : List ℕ → List Change → ℕ → List Item → Bool
lie_with_sections text changes base items =
    lie_from text (marks_of changes base items) 0 0 None (marks_of changes base items)
