-- The machine reads the parts of a section along their derivation.
use Rattle.std.proofs.Common.{◌≡◌, List, [], ◌∷◌, Some, refl, sym, ap, ◌∙◌, inl, inr}
use Rattle.std.specs.List.{flat_map}
use Rattle.twp_grammar.specs.declared.item.Item.{Item}
use Rattle.twp_grammar.specs.declared.item.Item.TheVariants as item
use Rattle.twp_grammar.specs.declared.state.State.{State}
use Rattle.twp_grammar.specs.declared.state.State.TheVariants as past
use Rattle.twp_grammar.specs.Tokens.{Token}
use Rattle.twp_grammar.specs.Grammar.{lot, all, Ebnf, ◌⨾◌, many, step, entry, separator, part, parts}
use Rattle.twp_grammar.specs.Items.{Leaf, token_of, ◌&◌, after, Tree, step_of, place_of_step, range_of}
use Rattle.twp_grammar.specs.Items.{lots_item, part_items, parts_items}
use Rattle.twp_read.specs.steps.TokenSteps.{before_parts, run}
use Rattle.twp_grammar.proofs.TreeFacts.{onto}
use Rattle.twp_read.proofs.ListWalk.{newest_first, newest_first-append, further_steps, grow_all, EntryEnd}
use Rattle.twp_read.proofs.ListWalk.{Separated, at_comma, at_last_comma, at_and, after_separator, of_lots}
use Rattle.twp_read.proofs.ListWalk.{ended, separated, read_separator, first_lot, end_of_entry, read_entry}
use Rattle.twp_read.proofs.ListWalk.{further_entries, end_of_entries, read_entries}

-- a part begins after one section's number, its comma or its colon, or after a part and a separator
pub data PartStart : Type 0 where
  section_number : PartStart
  section_comma : PartStart
  before : PartStart
  part_comma : PartStart
  after_lots : Separated → PartStart

abbrev part_start : PartStart → State
part_start section_number = past.SectionNumber
part_start section_comma = past.SectionComma
part_start before = past.BeforePart
part_start part_comma = past.PartComma
part_start (after_lots at) = separated of_lots at

-- where a part ends
pub data PartEnd : Type 0 where
  chain_end : PartEnd
  all_end : PartEnd
  lots_end : EntryEnd → PartEnd

abbrev pub part_end : PartEnd → State
part_end chain_end = past.Step
part_end all_end = past.All
part_end (lots_end end) = ended of_lots end

abbrev end_of_part : Tree part → PartEnd
end_of_part (inl (_ & first & more)) = lots_end (end_of_entries (end_of_entry first) more)
end_of_part (inr (inl _)) = chain_end
end_of_part (inr (inr _)) = all_end

begin_chain : (from : PartStart) (v : Tree step) (is : List Item) (ts : List Token)
    → run (Some (part_start from)) is (onto step v ts)
    ≡ run (Some past.Step) (item.Chain (step_of v ∷ []) (place_of_step v) ∷ before_parts (part_start from) is)
    ts
begin_chain section_number (inl (inl side & _)) is ts = refl
begin_chain section_number (inl (inr side & _)) is ts = refl
begin_chain section_number (inr (which & _)) is ts = refl
begin_chain section_comma (inl (inl side & _)) is ts = refl
begin_chain section_comma (inl (inr side & _)) is ts = refl
begin_chain section_comma (inr (which & _)) is ts = refl
begin_chain before (inl (inl side & _)) is ts = refl
begin_chain before (inl (inr side & _)) is ts = refl
begin_chain before (inr (which & _)) is ts = refl
begin_chain part_comma (inl (inl side & _)) is ts = refl
begin_chain part_comma (inl (inr side & _)) is ts = refl
begin_chain part_comma (inr (which & _)) is ts = refl
begin_chain (after_lots at_comma) (inl (inl side & _)) is ts = refl
begin_chain (after_lots at_comma) (inl (inr side & _)) is ts = refl
begin_chain (after_lots at_comma) (inr (which & _)) is ts = refl
begin_chain (after_lots at_last_comma) (inl (inl side & _)) is ts = refl
begin_chain (after_lots at_last_comma) (inl (inr side & _)) is ts = refl
begin_chain (after_lots at_last_comma) (inr (which & _)) is ts = refl
begin_chain (after_lots at_and) (inl (inl side & _)) is ts = refl
begin_chain (after_lots at_and) (inl (inr side & _)) is ts = refl
begin_chain (after_lots at_and) (inr (which & _)) is ts = refl

begin_lots : (from : PartStart) (word : Leaf lot) (is : List Item) (ts : List Token)
    → run (Some (part_start from)) is (token_of lot word ∷ ts)
    ≡ run (Some past.Lot) (before_parts (part_start from) is) ts
begin_lots section_number word is ts = refl
begin_lots section_comma word is ts = refl
begin_lots before word is ts = refl
begin_lots part_comma word is ts = refl
begin_lots (after_lots at_comma) word is ts = refl
begin_lots (after_lots at_last_comma) word is ts = refl
begin_lots (after_lots at_and) word is ts = refl

read_all : (from : PartStart) (word : Leaf all) (is : List Item) (ts : List Token)
    → run (Some (part_start from)) is (token_of all word ∷ ts)
    ≡ run (Some past.All) (item.All word.at ∷ before_parts (part_start from) is) ts
read_all section_number word is ts = refl
read_all section_comma word is ts = refl
read_all before word is ts = refl
read_all part_comma word is ts = refl
read_all (after_lots at_comma) word is ts = refl
read_all (after_lots at_last_comma) word is ts = refl
read_all (after_lots at_and) word is ts = refl

read_part : (from : PartStart) (v : Tree part) (is : List Item) (ts : List Token)
    → run (Some (part_start from)) is (onto part v ts)
    ≡ run (Some (part_end (end_of_part v))) (newest_first (part_items v) (before_parts (part_start from) is))
    ts
read_part from (inl (word & first & more)) is ts =
    begin_lots from word is (onto entry first (onto further_entries more ts))
    ∙ read_entry first_lot first (before_parts (part_start from) is) (onto further_entries more ts)
    ∙ read_entries of_lots (end_of_entry first) more
    (lots_item (range_of first) ∷ before_parts (part_start from) is) ts
read_part from (inr (inl (first & more))) is ts =
    begin_chain from first is (onto further_steps more ts)
    ∙ grow_all more (step_of first ∷ []) (place_of_step first) (before_parts (part_start from) is) ts
read_part from (inr (inr word)) is ts = read_all from word is ts

abbrev next_part : PartEnd → Tree separator → PartStart
next_part chain_end (inl (_ & inl _)) = before
next_part chain_end (inl (_ & inr _)) = part_comma
next_part chain_end (inr _) = before
next_part all_end (inl (_ & inl _)) = before
next_part all_end (inl (_ & inr _)) = part_comma
next_part all_end (inr _) = before
next_part (lots_end end) v = after_lots (after_separator end v)

read_part_separator : (end : PartEnd) (v : Tree separator) (is : List Item) (ts : List Token)
    → run (Some (part_end end)) is (onto separator v ts) ≡ run (Some (part_start (next_part end v))) is ts
read_part_separator chain_end (inl (_ & inl _)) is ts = refl
read_part_separator chain_end (inl (_ & inr _)) is ts = refl
read_part_separator chain_end (inr _) is ts = refl
read_part_separator all_end (inl (_ & inl _)) is ts = refl
read_part_separator all_end (inl (_ & inr _)) is ts = refl
read_part_separator all_end (inr _) is ts = refl
read_part_separator (lots_end end) v is ts = read_separator of_lots end v is ts

-- the section already isn't whole
lots_parted : (at : Separated) (is : List Item) → before_parts (separated of_lots at) is ≡ is
lots_parted at_comma is = refl
lots_parted at_last_comma is = refl
lots_parted at_and is = refl

already_parted : (end : PartEnd) (v : Tree separator) (is : List Item)
    → before_parts (part_start (next_part end v)) is ≡ is
already_parted chain_end (inl (_ & inl _)) is = refl
already_parted chain_end (inl (_ & inr _)) is = refl
already_parted chain_end (inr _) is = refl
already_parted all_end (inl (_ & inl _)) is = refl
already_parted all_end (inl (_ & inr _)) is = refl
already_parted all_end (inr _) is = refl
already_parted (lots_end end) v is = lots_parted (after_separator end v) is

abbrev further_parts : Ebnf
further_parts = many (separator ⨾ part)

abbrev end_of_parts : PartEnd → Tree further_parts → PartEnd
end_of_parts end [] = end
end_of_parts end ((_ & v) ∷ vs) = end_of_parts (end_of_part v) vs

read_further_parts : (end : PartEnd) (vs : Tree further_parts) (is : List Item) (ts : List Token)
    → run (Some (part_end end)) is (onto further_parts vs ts)
    ≡ run (Some (part_end (end_of_parts end vs))) (newest_first (flat_map (after part_items) vs) is) ts
read_further_parts end [] is ts = refl
read_further_parts end ((s & v) ∷ vs) is ts =
    read_part_separator end s is (onto part v (onto further_parts vs ts))
    ∙ read_part (next_part end s) v is (onto further_parts vs ts)
    ∙ ap (λ others.
    run (Some (part_end (end_of_part v))) (newest_first (part_items v) others) (onto further_parts vs ts))
    (already_parted end s is)
    ∙ read_further_parts (end_of_part v) vs (newest_first (part_items v) is) ts
    ∙ ap (λ all_items. run (Some (part_end (end_of_parts (end_of_part v) vs))) all_items ts)
    (sym (newest_first-append (part_items v) (flat_map (after part_items) vs) is))

abbrev pub end_of_all_parts : Tree parts → PartEnd
end_of_all_parts (first & more) = end_of_parts (end_of_part first) more

pub read_parts : (from : PartStart) (v : Tree parts) (is : List Item) (ts : List Token)
    → run (Some (part_start from)) is (onto parts v ts)
    ≡ run (Some (part_end (end_of_all_parts v)))
    (newest_first (parts_items v) (before_parts (part_start from) is)) ts
read_parts from (first & more) is ts =
    read_part from first is (onto further_parts more ts)
    ∙ read_further_parts (end_of_part first) more
    (newest_first (part_items first) (before_parts (part_start from) is)) ts
    ∙ ap (λ all_items. run (Some (part_end (end_of_parts (end_of_part first) more))) all_items ts)
    (sym
    (newest_first-append (part_items first) (flat_map (after part_items) more)
    (before_parts (part_start from) is)))
