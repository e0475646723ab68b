-- The machine reads a sentence along its derivation: after the tokens of a tree it stands where the tree
-- says, and has the tree's items. Each lemma reads one nonterminal of the grammar.
use Rattle.std.proofs.Common.{◌≡◌, ℕ, true, false, List, [], ◌∷◌, ◌++◌, map, Some, refl, sym, ap, ◌∙◌, inl}
use Rattle.std.proofs.Common.{inr}
use Rattle.std.specs.List.{flat_map}
use Rattle.std.proofs.lemmas.List.{append-nil}
use Rattle.twp_grammar.specs.declared.item.Item.{Item}
use Rattle.twp_grammar.specs.declared.item.Item.TheVariants as item
use Rattle.twp_grammar.specs.declared.item.Numeral.{Numeral}
use Rattle.twp_grammar.specs.declared.state.State.{State}
use Rattle.twp_grammar.specs.declared.state.State.TheVariants as past
use Rattle.twp_grid.specs.declared.township.NorthSouth.TheVariants as ns
use Rattle.twp_grid.specs.declared.township.EastWest.TheVariants as ew
use Rattle.twp_grammar.specs.Tokens.{Token}
use Rattle.twp_grammar.specs.Grammar.{sec, all, and, t, r, north_south, east_west, number, comma, semicolon}
use Rattle.twp_grammar.specs.Grammar.{stop, Ebnf, one, ◌⨾◌, many, maybe, through, entry, separator, several}
use Rattle.twp_grammar.specs.Grammar.{parts, comma_or_colon, group, heading, description}
use Rattle.twp_grammar.specs.Items.{Leaf, token_of, ◌&◌, after, Tree, tokens, numeral, end_of, range_of}
use Rattle.twp_grammar.specs.Items.{ranges_of_several, whole_sections_item, parts_items, group_items}
use Rattle.twp_grammar.specs.Items.{heading_item, items}
use Rattle.twp_grammar.specs.Machine.{is_final}
use Rattle.twp_read.specs.steps.TokenSteps.{run}
use Rattle.twp_grammar.proofs.TreeFacts.{onto, onto_is}
use Rattle.twp_read.proofs.ListWalk.{newest_first, newest_first-append, EntryEnd, at_number, at_last}
use Rattle.twp_read.proofs.ListWalk.{at_inclusive, at_and, of_sections, ended, listed_item, one_section}
use Rattle.twp_read.proofs.ListWalk.{through_end, read_through, EntryStart, second_section, listed_entry}
use Rattle.twp_read.proofs.ListWalk.{entry_start, list_of_entry, end_of_entry, read_entry, further_entries}
use Rattle.twp_read.proofs.ListWalk.{end_of_entries, read_entries}
use Rattle.twp_read.proofs.PartWalk.{section_number, section_comma, before, PartEnd, chain_end, all_end}
use Rattle.twp_read.proofs.PartWalk.{lots_end, part_end, end_of_all_parts, read_parts}

-- a group begins the text, or follows a heading, a semicolon, or `and`
data GroupStart : Type 0 where
  first_group : GroupStart
  after_range : GroupStart
  after_range_stop : GroupStart
  next_group : GroupStart
  before_group : GroupStart

abbrev group_start : GroupStart → State
group_start first_group = past.Start
group_start after_range = past.RangeSide
group_start after_range_stop = past.RangeSideStop
group_start next_group = past.Semicolon
group_start before_group = past.BeforeGroup

read_section : (from : GroupStart) (word : Leaf sec) (v : Tree (maybe (one stop))) (n : Leaf number)
    (is : List Item) (ts : List Token)
    → run (Some (group_start from)) is
    (token_of sec word ∷ onto (maybe (one stop)) v (token_of number n ∷ ts))
    ≡ run (Some past.SectionNumber) (item.Sections (numeral n) (numeral n) true ∷ is) ts
read_section first_group word (inl _) n is ts = refl
read_section first_group word (inr _) n is ts = refl
read_section after_range word (inl _) n is ts = refl
read_section after_range word (inr _) n is ts = refl
read_section after_range_stop word (inl _) n is ts = refl
read_section after_range_stop word (inr _) n is ts = refl
read_section next_group word (inl _) n is ts = refl
read_section next_group word (inr _) n is ts = refl
read_section before_group word (inl _) n is ts = refl
read_section before_group word (inr _) n is ts = refl

-- where a group ends
data GroupEnd : Type 0 where
  section_end : GroupEnd
  sections_end : EntryEnd → GroupEnd
  all_sections_end : GroupEnd
  parts_end : PartEnd → GroupEnd

abbrev group_end : GroupEnd → State
group_end section_end = past.SectionNumber
group_end (sections_end end) = ended of_sections end
group_end all_sections_end = past.ListAll
group_end (parts_end end) = part_end end

read_section_parts : (cc : Tree comma_or_colon) (v : Tree parts) (n : Numeral) (is : List Item)
    (ts : List Token)
    → run (Some past.SectionNumber) (item.Sections n n true ∷ is) (onto comma_or_colon cc (onto parts v ts))
    ≡ run (Some (part_end (end_of_all_parts v))) (newest_first (parts_items v) (item.Sections n n false ∷ is))
    ts
read_section_parts (inl (inl _)) v n is ts = read_parts section_comma v (item.Sections n n true ∷ is) ts
read_section_parts (inl (inr _)) v n is ts = read_parts before v (item.Sections n n false ∷ is) ts
read_section_parts (inr _) v n is ts = read_parts section_number v (item.Sections n n true ∷ is) ts

abbrev second_entry : Tree separator → EntryStart
second_entry (inl (_ & inl _)) = listed_entry of_sections at_and
second_entry (inl (_ & inr _)) = second_section
second_entry (inr _) = listed_entry of_sections at_and

second_is_section : (v : Tree separator) → list_of_entry (second_entry v) ≡ of_sections
second_is_section (inl (_ & inl _)) = refl
second_is_section (inl (_ & inr _)) = refl
second_is_section (inr _) = refl

read_first_separator : (v : Tree separator) (is : List Item) (ts : List Token)
    → run (Some past.SectionNumber) is (onto separator v ts) ≡ run (Some (entry_start (second_entry v))) is ts
read_first_separator (inl (_ & inl _)) is ts = refl
read_first_separator (inl (_ & inr _)) is ts = refl
read_first_separator (inr _) is ts = refl

read_second_entry : (s : Tree separator) (v : Tree entry) (is : List Item) (ts : List Token)
    → run (Some past.SectionNumber) is (onto separator s (onto entry v ts))
    ≡ run (Some (ended of_sections (end_of_entry v))) (whole_sections_item (range_of v) ∷ is) ts
read_second_entry s v is ts =
    read_first_separator s is (onto entry v ts) ∙ read_entry (second_entry s) v is ts
    ∙ ap (λ listed. run (Some (ended listed (end_of_entry v))) (listed_item listed (range_of v) ∷ is) ts)
    (second_is_section s)

abbrev end_of_several : Tree several → EntryEnd
end_of_several (_ & inl thru & more) = end_of_entries (through_end thru) more
end_of_several (_ & inr (_ & second) & more) = end_of_entries (end_of_entry second) more

-- several entries after the word
read_several : (word : Leaf sec) (from : GroupStart) (st : Tree (maybe (one stop))) (v : Tree several)
    (is : List Item) (ts : List Token)
    → run (Some (group_start from)) is (token_of sec word ∷ onto (maybe (one stop)) st (onto several v ts))
    ≡ run (Some (ended of_sections (end_of_several v)))
    (newest_first (map whole_sections_item (ranges_of_several v)) is) ts
read_several word from st (n & inl thru & more) is ts =
    read_section from word st n is (onto through thru (onto further_entries more ts))
    ∙ read_through one_section thru (numeral n) (numeral n) is (onto further_entries more ts)
    ∙ read_entries of_sections (through_end thru) more (item.Sections (numeral n) (end_of thru) true ∷ is) ts
read_several word from st (n & inr (s & second) & more) is ts =
    read_section from word st n is (onto separator s (onto entry second (onto further_entries more ts)))
    ∙ read_second_entry s second (item.Sections (numeral n) (numeral n) true ∷ is)
    (onto further_entries more ts)
    ∙ read_entries of_sections (end_of_entry second) more
    (whole_sections_item (range_of second) ∷ item.Sections (numeral n) (numeral n) true ∷ is) ts

abbrev end_of_sections : EntryEnd → Tree (maybe (comma_or_colon ⨾ one all)) → GroupEnd
end_of_sections end (inl _) = all_sections_end
end_of_sections end (inr _) = sections_end end

read_sections_all : (end : EntryEnd) (v : Tree (maybe (comma_or_colon ⨾ one all))) (is : List Item)
    (ts : List Token)
    → run (Some (ended of_sections end)) is (onto (maybe (comma_or_colon ⨾ one all)) v ts)
    ≡ run (Some (group_end (end_of_sections end v))) is ts
read_sections_all at_number (inl (inl (inl _) & _)) is ts = refl
read_sections_all at_number (inl (inl (inr _) & _)) is ts = refl
read_sections_all at_number (inl (inr _ & _)) is ts = refl
read_sections_all at_number (inr _) is ts = refl
read_sections_all at_last (inl (inl (inl _) & _)) is ts = refl
read_sections_all at_last (inl (inl (inr _) & _)) is ts = refl
read_sections_all at_last (inl (inr _ & _)) is ts = refl
read_sections_all at_last (inr _) is ts = refl
read_sections_all at_inclusive (inl (inl (inl _) & _)) is ts = refl
read_sections_all at_inclusive (inl (inl (inr _) & _)) is ts = refl
read_sections_all at_inclusive (inl (inr _ & _)) is ts = refl
read_sections_all at_inclusive (inr _) is ts = refl

abbrev end_of_group : Tree group → GroupEnd
end_of_group (inl (_ & _ & _ & inl (_ & v))) = parts_end (end_of_all_parts v)
end_of_group (inl (_ & _ & _ & inr _)) = section_end
end_of_group (inr (_ & _ & v & w)) = end_of_sections (end_of_several v) w

read_group : (from : GroupStart) (v : Tree group) (is : List Item) (ts : List Token)
    → run (Some (group_start from)) is (onto group v ts)
    ≡ run (Some (group_end (end_of_group v))) (newest_first (group_items v) is) ts
read_group from (inl (word & st & n & inl (cc & v))) is ts =
    read_section from word st n is (onto comma_or_colon cc (onto parts v ts))
    ∙ read_section_parts cc v (numeral n) is ts
read_group from (inl (word & st & n & inr _)) is ts = read_section from word st n is ts
read_group from (inr (word & st & v & w)) is ts =
    read_several word from st v is (onto (maybe (comma_or_colon ⨾ one all)) w ts)
    ∙ read_sections_all (end_of_several v) w (newest_first (map whole_sections_item (ranges_of_several v)) is)
    ts

read_semicolon : (end : GroupEnd) (mark : Leaf semicolon) (is : List Item) (ts : List Token)
    → run (Some (group_end end)) is (token_of semicolon mark ∷ ts) ≡ run (Some past.Semicolon) is ts
read_semicolon section_end mark is ts = refl
read_semicolon (sections_end at_number) mark is ts = refl
read_semicolon (sections_end at_last) mark is ts = refl
read_semicolon (sections_end at_inclusive) mark is ts = refl
read_semicolon all_sections_end mark is ts = refl
read_semicolon (parts_end chain_end) mark is ts = refl
read_semicolon (parts_end all_end) mark is ts = refl
read_semicolon (parts_end (lots_end at_number)) mark is ts = refl
read_semicolon (parts_end (lots_end at_last)) mark is ts = refl
read_semicolon (parts_end (lots_end at_inclusive)) mark is ts = refl

abbrev further_groups : Ebnf
further_groups = many (one semicolon ⨾ maybe (one and) ⨾ group)

read_next_group : (end : GroupEnd) (v : Tree (one semicolon ⨾ maybe (one and) ⨾ group)) (is : List Item)
    (ts : List Token)
    → run (Some (group_end end)) is (onto (one semicolon ⨾ maybe (one and) ⨾ group) v ts)
    ≡ run (Some (group_end (end_of_group (after (after (λ g. g)) v))))
    (newest_first (after (after group_items) v) is) ts
read_next_group end (mark & inl word & v) is ts =
    read_semicolon end mark is (token_of and word ∷ onto group v ts) ∙ read_group before_group v is ts
read_next_group end (mark & inr _ & v) is ts =
    read_semicolon end mark is (onto group v ts) ∙ read_group next_group v is ts

abbrev end_of_groups : GroupEnd → Tree further_groups → GroupEnd
end_of_groups end [] = end
end_of_groups end (v ∷ vs) = end_of_groups (end_of_group (after (after (λ g. g)) v)) vs

read_groups : (end : GroupEnd) (vs : Tree further_groups) (is : List Item) (ts : List Token)
    → run (Some (group_end end)) is (onto further_groups vs ts)
    ≡ run (Some (group_end (end_of_groups end vs)))
    (newest_first (flat_map (after (after group_items)) vs) is) ts
read_groups end [] is ts = refl
read_groups end (v ∷ vs) is ts =
    let last : GroupEnd = end_of_group (after (after (λ g. g)) v) in
    let its : List Item = after (after group_items) v in
    read_next_group end v is (onto further_groups vs ts) ∙ read_groups last vs (newest_first its is) ts
    ∙ ap (λ all_items. run (Some (group_end (end_of_groups last vs))) all_items ts)
    (sym (newest_first-append its (flat_map (after (after group_items)) vs) is))

-- a sentence ends with a period or without
abbrev end_of_text : GroupEnd → Tree (maybe (one stop)) → State
end_of_text end (inl _) = past.End
end_of_text end (inr _) = group_end end

read_end : (end : GroupEnd) (v : Tree (maybe (one stop))) (is : List Item)
    → run (Some (group_end end)) is (onto (maybe (one stop)) v []) ≡ Some (end_of_text end v, is)
read_end section_end (inl _) is = refl
read_end section_end (inr _) is = refl
read_end (sections_end at_number) (inl _) is = refl
read_end (sections_end at_number) (inr _) is = refl
read_end (sections_end at_last) (inl _) is = refl
read_end (sections_end at_last) (inr _) is = refl
read_end (sections_end at_inclusive) (inl _) is = refl
read_end (sections_end at_inclusive) (inr _) is = refl
read_end all_sections_end (inl _) is = refl
read_end all_sections_end (inr _) is = refl
read_end (parts_end chain_end) (inl _) is = refl
read_end (parts_end chain_end) (inr _) is = refl
read_end (parts_end all_end) (inl _) is = refl
read_end (parts_end all_end) (inr _) is = refl
read_end (parts_end (lots_end at_number)) (inl _) is = refl
read_end (parts_end (lots_end at_number)) (inr _) is = refl
read_end (parts_end (lots_end at_last)) (inl _) is = refl
read_end (parts_end (lots_end at_last)) (inr _) is = refl
read_end (parts_end (lots_end at_inclusive)) (inl _) is = refl
read_end (parts_end (lots_end at_inclusive)) (inr _) is = refl

ends_finally : (end : GroupEnd) (v : Tree (maybe (one stop))) → is_final (end_of_text end v) ≡ true
ends_finally section_end (inl _) = refl
ends_finally section_end (inr _) = refl
ends_finally (sections_end at_number) (inl _) = refl
ends_finally (sections_end at_number) (inr _) = refl
ends_finally (sections_end at_last) (inl _) = refl
ends_finally (sections_end at_last) (inr _) = refl
ends_finally (sections_end at_inclusive) (inl _) = refl
ends_finally (sections_end at_inclusive) (inr _) = refl
ends_finally all_sections_end (inl _) = refl
ends_finally all_sections_end (inr _) = refl
ends_finally (parts_end chain_end) (inl _) = refl
ends_finally (parts_end chain_end) (inr _) = refl
ends_finally (parts_end all_end) (inl _) = refl
ends_finally (parts_end all_end) (inr _) = refl
ends_finally (parts_end (lots_end at_number)) (inl _) = refl
ends_finally (parts_end (lots_end at_number)) (inr _) = refl
ends_finally (parts_end (lots_end at_last)) (inl _) = refl
ends_finally (parts_end (lots_end at_last)) (inr _) = refl
ends_finally (parts_end (lots_end at_inclusive)) (inl _) = refl
ends_finally (parts_end (lots_end at_inclusive)) (inr _) = refl

read_township : (letter : Leaf t) (st : Tree (maybe (one stop))) (n : Leaf number) (is : List Item)
    (ts : List Token)
    → run (Some past.Start) is (token_of t letter ∷ onto (maybe (one stop)) st (token_of number n ∷ ts))
    ≡ run (Some past.TownshipNumber) (item.Heading n.value ns.N 0 ew.E letter.at ∷ is) ts
read_township letter (inl _) n is ts = refl
read_township letter (inr _) n is ts = refl

read_side : (side : Leaf north_south) (st : Tree (maybe (one stop))) (c : Tree (maybe (one comma)))
    (letter : Leaf r) (n at : ℕ) (is : List Item) (ts : List Token)
    → run (Some past.TownshipNumber) (item.Heading n ns.N 0 ew.E at ∷ is)
    (token_of north_south side
    ∷ onto (maybe (one stop)) st (onto (maybe (one comma)) c (token_of r letter ∷ ts)))
    ≡ run (Some past.Range) (item.Heading n side.value 0 ew.E at ∷ is) ts
read_side side (inl _) (inl _) letter n at is ts = refl
read_side side (inl _) (inr _) letter n at is ts = refl
read_side side (inr _) (inl _) letter n at is ts = refl
read_side side (inr _) (inr _) letter n at is ts = refl

read_range : (st : Tree (maybe (one stop))) (n : Leaf number) (township at : ℕ) (side : Leaf north_south)
    (is : List Item) (ts : List Token)
    → run (Some past.Range) (item.Heading township side.value 0 ew.E at ∷ is)
    (onto (maybe (one stop)) st (token_of number n ∷ ts))
    ≡ run (Some past.RangeNumber) (item.Heading township side.value n.value ew.E at ∷ is) ts
read_range (inl _) n township at side is ts = refl
read_range (inr _) n township at side is ts = refl

abbrev end_of_heading : Tree (maybe (one stop)) → Tree (maybe (one comma)) → GroupStart
end_of_heading st (inl _) = before_group
end_of_heading (inl _) (inr _) = after_range_stop
end_of_heading (inr _) (inr _) = after_range

read_way : (way : Leaf east_west) (st : Tree (maybe (one stop))) (c : Tree (maybe (one comma)))
    (township n at : ℕ) (side : Leaf north_south) (is : List Item) (ts : List Token)
    → run (Some past.RangeNumber) (item.Heading township side.value n ew.E at ∷ is)
    (token_of east_west way ∷ onto (maybe (one stop)) st (onto (maybe (one comma)) c ts))
    ≡ run (Some (group_start (end_of_heading st c))) (item.Heading township side.value n way.value at ∷ is) ts
read_way way (inl _) (inl _) township n at side is ts = refl
read_way way (inl _) (inr _) township n at side is ts = refl
read_way way (inr _) (inl _) township n at side is ts = refl
read_way way (inr _) (inr _) township n at side is ts = refl

abbrev start_after : Tree heading → GroupStart
start_after (_ & _ & _ & _ & _ & _ & _ & _ & _ & _ & st & c) = end_of_heading st c

read_heading : (v : Tree heading) (is : List Item) (ts : List Token)
    → run (Some past.Start) is (onto heading v ts)
    ≡ run (Some (group_start (start_after v))) (heading_item v ∷ is) ts
read_heading (letter & st & n & side & st2 & c & range_letter & st3 & m & way & st4 & c2) is ts =
    read_township letter st n is _
    ∙ read_side side st2 c range_letter n.value letter.at is _
    ∙ read_range st3 m n.value letter.at side is _
    ∙ read_way way st4 c2 n.value m.value letter.at side is ts

-- the machine takes the tokens of a derivation, ends in a final state, and has the items that are read off it
pub record IsRead (ts : List Token) (its : List Item) : Type 0 where
  pub end : State
  pub final : is_final end ≡ true
  pub read : run (Some past.Start) [] ts ≡ Some (end, newest_first its [])

read_from : (from : GroupStart) (first : Tree group) (more : Tree further_groups)
    (st : Tree (maybe (one stop))) (is : List Item)
    → run (Some (group_start from)) is
    (onto group first (onto further_groups more (onto (maybe (one stop)) st [])))
    ≡ Some (
      end_of_text (end_of_groups (end_of_group first) more) st,
      newest_first (group_items first ++ flat_map (after (after group_items)) more) is,
    )
read_from from first more st is =
    read_group from first is (onto further_groups more (onto (maybe (one stop)) st []))
    ∙ read_groups (end_of_group first) more (newest_first (group_items first) is)
    (onto (maybe (one stop)) st [])
    ∙ read_end (end_of_groups (end_of_group first) more) st
    (newest_first (flat_map (after (after group_items)) more) (newest_first (group_items first) is))
    ∙ ap (λ all_items. Some (end_of_text (end_of_groups (end_of_group first) more) st, all_items))
    (sym (newest_first-append (group_items first) (flat_map (after (after group_items)) more) is))

read_onto : (v : Tree description) → IsRead (onto description v []) (items v)
read_onto (inl v & first & more & st) = record {
  end = end_of_text (end_of_groups (end_of_group first) more) st;
  final = ends_finally (end_of_groups (end_of_group first) more) st;
  read =
      read_heading v [] (onto group first (onto further_groups more (onto (maybe (one stop)) st [])))
      ∙ read_from (start_after v) first more st (heading_item v ∷ []);
}
read_onto (inr _ & first & more & st) = record {
  end = end_of_text (end_of_groups (end_of_group first) more) st;
  final = ends_finally (end_of_groups (end_of_group first) more) st;
  read = read_from first_group first more st [];
}

pub read_description : (v : Tree description) → IsRead (tokens description v) (items v)
read_description v =
    let e : onto description v [] ≡ tokens description v =
    onto_is description v [] ∙ append-nil (tokens description v) in
    rw e at (read_onto v)
