-- The machine reads chains of steps, and lists of sections and of lots, along their derivation.
use Rattle.std.proofs.Common.{◌≡◌, ℕ, List, [], ◌∷◌, ◌++◌, map, Some, refl, sym, ap, ◌∙◌, inl, inr}
use Rattle.std.proofs.Common.{append_assoc}
use Rattle.std.proofs.lemmas.List.{append-nil}
use Rattle.twp_grammar.specs.declared.item.Item.{Item}
use Rattle.twp_grammar.specs.declared.item.Item.TheVariants as item
use Rattle.twp_grammar.specs.declared.item.Numeral.{Numeral}
use Rattle.twp_grammar.specs.declared.item.Step.{Step}
use Rattle.twp_grammar.specs.declared.state.State.{State}
use Rattle.twp_grammar.specs.declared.state.State.TheVariants as past
use Rattle.twp_grammar.specs.Tokens.{Token}
use Rattle.twp_grammar.specs.Grammar.{of, the, number, Ebnf, one, ◌⨾◌, many, maybe, step, through, entry}
use Rattle.twp_grammar.specs.Grammar.{separator}
use Rattle.twp_grammar.specs.Items.{Leaf, token_of, ◌&◌, after, Tree, numeral, step_of, Range, end_of}
use Rattle.twp_grammar.specs.Items.{range_of, lots_item, whole_sections_item}
use Rattle.twp_read.specs.steps.TokenSteps.{run}
use Rattle.twp_grammar.proofs.TreeFacts.{onto}

-- newer items before older ones
abbrev pub newest_first : List Item → List Item → List Item
newest_first [] is = is
newest_first (it ∷ more) is = newest_first more (it ∷ is)

pub newest_first-append : (xs ys is : List Item)
    → newest_first (xs ++ ys) is ≡ newest_first ys (newest_first xs is)
newest_first-append [] ys is = refl
newest_first-append (it ∷ xs) ys is = newest_first-append xs ys (it ∷ is)

-- a chain grows after a step, after `of`, or after `of the`
data Growing : Type 0 where
  at_step : Growing
  at_of : Growing
  at_the : Growing

abbrev growing : Growing → State
growing at_step = past.Step
growing at_of = past.Of
growing at_the = past.OfThe

grow : (from : Growing) (v : Tree step) (steps : List Step) (at : ℕ) (is : List Item) (ts : List Token)
    → run (Some (growing from)) (item.Chain steps at ∷ is) (onto step v ts)
    ≡ run (Some past.Step) (item.Chain (steps ++ step_of v ∷ []) at ∷ is) ts
grow at_step (inl (inl side & _)) steps at is ts = refl
grow at_step (inl (inr side & _)) steps at is ts = refl
grow at_step (inr (which & _)) steps at is ts = refl
grow at_of (inl (inl side & _)) steps at is ts = refl
grow at_of (inl (inr side & _)) steps at is ts = refl
grow at_of (inr (which & _)) steps at is ts = refl
grow at_the (inl (inl side & _)) steps at is ts = refl
grow at_the (inl (inr side & _)) steps at is ts = refl
grow at_the (inr (which & _)) steps at is ts = refl

abbrev pub further_steps : Ebnf
further_steps = many (maybe (one of ⨾ maybe (one the)) ⨾ step)

grow_further : (v : Tree (maybe (one of ⨾ maybe (one the)) ⨾ step)) (steps : List Step) (at : ℕ)
    (is : List Item) (ts : List Token)
    → run (Some past.Step) (item.Chain steps at ∷ is) (onto (maybe (one of ⨾ maybe (one the)) ⨾ step) v ts)
    ≡ run (Some past.Step) (item.Chain (steps ++ after step_of v ∷ []) at ∷ is) ts
grow_further (inl (_ & inl _) & v) steps at is ts = grow at_the v steps at is ts
grow_further (inl (_ & inr _) & v) steps at is ts = grow at_of v steps at is ts
grow_further (inr _ & v) steps at is ts = grow at_step v steps at is ts

pub grow_all : (vs : Tree further_steps) (steps : List Step) (at : ℕ) (is : List Item) (ts : List Token)
    → run (Some past.Step) (item.Chain steps at ∷ is) (onto further_steps vs ts)
    ≡ run (Some past.Step) (item.Chain (steps ++ map (after step_of) vs) at ∷ is) ts
grow_all [] steps at is ts =
    ap (λ all_steps. run (Some past.Step) (item.Chain all_steps at ∷ is) ts) (sym (append-nil steps))
grow_all (v ∷ vs) steps at is ts =
    grow_further v steps at is (onto further_steps vs ts)
    ∙ grow_all vs (steps ++ after step_of v ∷ []) at is ts
    ∙ ap (λ all_steps. run (Some past.Step) (item.Chain all_steps at ∷ is) ts)
    (append_assoc steps (after step_of v ∷ []) (map (after step_of) vs))

-- the end of an entry: after a number alone, after a range, or after `inclusive`
pub data EntryEnd : Type 0 where
  at_number : EntryEnd
  at_last : EntryEnd
  at_inclusive : EntryEnd

-- what a separator leads to
pub data Separated : Type 0 where
  at_comma : Separated
  at_last_comma : Separated
  at_and : Separated

abbrev pub after_separator : EntryEnd → Tree separator → Separated
after_separator _ (inl (_ & inl _)) = at_and
after_separator at_number (inl (_ & inr _)) = at_comma
after_separator at_last (inl (_ & inr _)) = at_last_comma
after_separator at_inclusive (inl (_ & inr _)) = at_comma
after_separator _ (inr _) = at_and

-- lists of sections and lists of lots
pub data Listed : Type 0 where
  of_sections : Listed
  of_lots : Listed

abbrev pub ended : Listed → EntryEnd → State
ended of_sections at_number = past.ListNumber
ended of_sections at_last = past.ListLast
ended of_sections at_inclusive = past.ListInclusive
ended of_lots at_number = past.LotNumber
ended of_lots at_last = past.LotLast
ended of_lots at_inclusive = past.LotInclusive

abbrev pub separated : Listed → Separated → State
separated of_sections at_comma = past.ListComma
separated of_sections at_last_comma = past.ListLastComma
separated of_sections at_and = past.ListAnd
separated of_lots at_comma = past.LotComma
separated of_lots at_last_comma = past.LotLastComma
separated of_lots at_and = past.LotAnd

abbrev pub listed_item : Listed → Range → Item
listed_item of_sections = whole_sections_item
listed_item of_lots = lots_item

abbrev range : Numeral → Numeral → Range
range first last = record { first = first; last = last }

pub read_separator : (listed : Listed) (end : EntryEnd) (v : Tree separator) (is : List Item)
    (ts : List Token)
    → run (Some (ended listed end)) is (onto separator v ts)
    ≡ run (Some (separated listed (after_separator end v))) is ts
read_separator of_sections at_number (inl (_ & inl _)) is ts = refl
read_separator of_sections at_number (inl (_ & inr _)) is ts = refl
read_separator of_sections at_number (inr _) is ts = refl
read_separator of_sections at_last (inl (_ & inl _)) is ts = refl
read_separator of_sections at_last (inl (_ & inr _)) is ts = refl
read_separator of_sections at_last (inr _) is ts = refl
read_separator of_sections at_inclusive (inl (_ & inl _)) is ts = refl
read_separator of_sections at_inclusive (inl (_ & inr _)) is ts = refl
read_separator of_sections at_inclusive (inr _) is ts = refl
read_separator of_lots at_number (inl (_ & inl _)) is ts = refl
read_separator of_lots at_number (inl (_ & inr _)) is ts = refl
read_separator of_lots at_number (inr _) is ts = refl
read_separator of_lots at_last (inl (_ & inl _)) is ts = refl
read_separator of_lots at_last (inl (_ & inr _)) is ts = refl
read_separator of_lots at_last (inr _) is ts = refl
read_separator of_lots at_inclusive (inl (_ & inl _)) is ts = refl
read_separator of_lots at_inclusive (inl (_ & inr _)) is ts = refl
read_separator of_lots at_inclusive (inr _) is ts = refl

-- a range begins after a number
pub data Numbered : Type 0 where
  one_section : Numbered
  listed_number : Listed → Numbered

abbrev numbered : Numbered → State
numbered one_section = past.SectionNumber
numbered (listed_number listed) = ended listed at_number

abbrev list_of : Numbered → Listed
list_of one_section = of_sections
list_of (listed_number listed) = listed

abbrev pub through_end : Tree through → EntryEnd
through_end (_ & _ & inl _) = at_inclusive
through_end (_ & _ & inr _) = at_last

pub read_through : (from : Numbered) (v : Tree through) (first last : Numeral) (is : List Item)
    (ts : List Token)
    → run (Some (numbered from)) (listed_item (list_of from) (range first last) ∷ is) (onto through v ts)
    ≡ run (Some (ended (list_of from) (through_end v)))
    (listed_item (list_of from) (range first (end_of v)) ∷ is) ts
read_through one_section (_ & _ & inl (inl _ & _)) first last is ts = refl
read_through one_section (_ & _ & inl (inr _ & _)) first last is ts = refl
read_through one_section (_ & _ & inr _) first last is ts = refl
read_through (listed_number of_sections) (_ & _ & inl (inl _ & _)) first last is ts = refl
read_through (listed_number of_sections) (_ & _ & inl (inr _ & _)) first last is ts = refl
read_through (listed_number of_sections) (_ & _ & inr _) first last is ts = refl
read_through (listed_number of_lots) (_ & _ & inl (inl _ & _)) first last is ts = refl
read_through (listed_number of_lots) (_ & _ & inl (inr _ & _)) first last is ts = refl
read_through (listed_number of_lots) (_ & _ & inr _) first last is ts = refl

-- an entry begins after the word `lot`, after the comma that follows one section, or after a
-- separator
pub data EntryStart : Type 0 where
  first_lot : EntryStart
  second_section : EntryStart
  listed_entry : Listed → Separated → EntryStart

abbrev pub entry_start : EntryStart → State
entry_start first_lot = past.Lot
entry_start second_section = past.SectionComma
entry_start (listed_entry listed at) = separated listed at

abbrev pub list_of_entry : EntryStart → Listed
list_of_entry first_lot = of_lots
list_of_entry second_section = of_sections
list_of_entry (listed_entry listed at) = listed

read_number : (from : EntryStart) (n : Leaf number) (is : List Item) (ts : List Token)
    → run (Some (entry_start from)) is (token_of number n ∷ ts)
    ≡ run (Some (ended (list_of_entry from) at_number))
    (listed_item (list_of_entry from) (range (numeral n) (numeral n)) ∷ is) ts
read_number first_lot n is ts = refl
read_number second_section n is ts = refl
read_number (listed_entry of_sections at_comma) n is ts = refl
read_number (listed_entry of_sections at_last_comma) n is ts = refl
read_number (listed_entry of_sections at_and) n is ts = refl
read_number (listed_entry of_lots at_comma) n is ts = refl
read_number (listed_entry of_lots at_last_comma) n is ts = refl
read_number (listed_entry of_lots at_and) n is ts = refl

abbrev pub end_of_entry : Tree entry → EntryEnd
end_of_entry (_ & inl thru) = through_end thru
end_of_entry (_ & inr _) = at_number

pub read_entry : (from : EntryStart) (v : Tree entry) (is : List Item) (ts : List Token)
    → run (Some (entry_start from)) is (onto entry v ts)
    ≡ run (Some (ended (list_of_entry from) (end_of_entry v)))
    (listed_item (list_of_entry from) (range_of v) ∷ is) ts
read_entry from (n & inl thru) is ts =
    read_number from n is (onto through thru ts)
    ∙ read_through (listed_number (list_of_entry from)) thru (numeral n) (numeral n) is ts
read_entry from (n & inr _) is ts = read_number from n is ts

abbrev pub further_entries : Ebnf
further_entries = many (separator ⨾ entry)

abbrev pub end_of_entries : EntryEnd → Tree further_entries → EntryEnd
end_of_entries end [] = end
end_of_entries end ((_ & v) ∷ vs) = end_of_entries (end_of_entry v) vs

pub read_entries : (listed : Listed) (end : EntryEnd) (vs : Tree further_entries) (is : List Item)
    (ts : List Token)
    → run (Some (ended listed end)) is (onto further_entries vs ts)
    ≡ run (Some (ended listed (end_of_entries end vs)))
    (newest_first (map (listed_item listed) (map (after range_of) vs)) is) ts
read_entries listed end [] is ts = refl
read_entries listed end ((s & v) ∷ vs) is ts =
    read_separator listed end s is (onto entry v (onto further_entries vs ts))
    ∙ read_entry (listed_entry listed (after_separator end s)) v is (onto further_entries vs ts)
    ∙ read_entries listed (end_of_entry v) vs (listed_item listed (range_of v) ∷ is) ts
