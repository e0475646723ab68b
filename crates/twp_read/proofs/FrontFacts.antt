-- What the reader takes at the start of a description leads it on as if it were cut token by token.
use Rattle.std.proofs.Common.{◌≡◌, ℕ, ◌+◌, ◌<◌, ◌≤◌, true, false, List, [], ◌∷◌, ◌++◌, Some, length, drop}
use Rattle.std.proofs.Common.{refl, sym, ap, subst, ◌∙◌, arith, codes}
use Rattle.std.specs.Char.{is_ascii_alphabetic}
use Rattle.std.specs.List.{AllPass, prefix_len}
use Rattle.std.proofs.lemmas.List.Sums.{AllPass-from_list_all}
use Rattle.twp_grid.specs.declared.township.NorthSouth.{NorthSouth as NorthOrSouth}
use Rattle.twp_grid.specs.declared.township.NorthSouth.TheVariants as ns
use Rattle.twp_grid.specs.declared.township.EastWest.{EastWest as EastOrWest}
use Rattle.twp_grid.specs.declared.township.EastWest.TheVariants as ew
use Rattle.twp_read.specs.declared.watch.ItemChange.TheVariants.{TownshipSide, RangeSide}
use Rattle.twp_grammar.specs.declared.item.Item.{Item}
use Rattle.twp_grammar.specs.declared.item.Item.TheVariants.{Sections}
use Rattle.twp_grammar.specs.declared.item.Numeral.{Numeral}
use Rattle.twp_grammar.specs.declared.tokens.Kind.{Kind}
use Rattle.twp_grammar.specs.declared.tokens.Kind.TheVariants.{T, R, NorthSouth, EastWest, Sec, Lot, Stop}
use Rattle.twp_grammar.specs.declared.tokens.Kind.TheVariants.{Comma, Colon, Number}
use Rattle.twp_grammar.specs.declared.state.State.{State}
use Rattle.twp_grammar.specs.declared.state.State.TheVariants as past
use Rattle.twp_grammar.specs.Cutting.{IsFirstIn}
use Rattle.twp_grammar.specs.Tokens.{Token, StartsWith, begins_with, is_white, kind_of_word}
use Rattle.twp_grammar.specs.Tokens.IsToken.{good}
use Rattle.twp_grammar.specs.Tokens.IsGoodToken.{a_word, a_stop, a_colon}
use Rattle.std.specs.Option.{is_some}
use Rattle.twp_grammar.specs.Grammar.{class_of, sec, lot, stop, comma, number}
use Rattle.twp_grammar.specs.Machine.{next}
use Rattle.twp_read.specs.steps.TokenSteps.{take_token, take_township, take_number, before_parts, with_newest}
use Rattle.twp_read.specs.steps.Usual.{Leads, IsNumberAfter, may_be_doubtful}
use Rattle.twp_read.specs.steps.Watching.{is_step, is_usual}
use Rattle.twp_read.proofs.WatchFacts.{not_step, number_is_usual}
use Rattle.twp_read.proofs.Leading.{IsMark, the_comma, mark_leads, made, leads_token, leads_space, leads_then}
use Rattle.twp_read.proofs.Leading.{left_after, white_leads}

pub a_full_stop : IsMark 46 Stop
a_full_stop = record {
  is = λ rest. a_stop refl refl;
  kept = λ state at its. refl;
  usual = λ state end token. refl;
}

-- a period, and the space after it
pub stop_leads : (text : List ℕ) (at : ℕ) (state after : State) (its : List Item)
    → next state stop ≡ Some after → drop at text ≡ codes ". " ++ drop (at + 2) text → at + 2 ≤ length text
    → is_step after ≡ false → Leads text at state its (at + 2) after its
stop_leads text at state after its is spelled within no_step =
    let space : drop (at + 1) text ≡ codes " " ++ drop (at + 2) text =
    left_after text at 1 (codes ". " ++ drop (at + 2) text) spelled in
    let end : (at + 1) + 1 ≡ at + 2 = omega arith in
    leads_then text at state its (at + 1) after its (at + 2) after its
    (mark_leads text at 46 Stop state after its a_full_stop is (rw space spelled) (omega arith))
    (subst (λ (n : ℕ). Leads text (at + 1) after its n after its) end
    (leads_space text (at + 1) after its (rw end space) (omega arith) no_step))

-- a period and a comma
pub stop_comma_leads : (text : List ℕ) (at : ℕ) (state between after : State) (its : List Item)
    → next state stop ≡ Some between → next between comma ≡ Some after
    → drop at text ≡ codes ".," ++ drop (at + 2) text → at + 2 ≤ length text
    → Leads text at state its (at + 2) after its
stop_comma_leads text at state between after its is is_after_it spelled within =
    let left : drop (at + 1) text ≡ codes "," ++ drop (at + 2) text =
    left_after text at 1 (codes ".," ++ drop (at + 2) text) spelled in
    let end : (at + 1) + 1 ≡ at + 2 = omega arith in
    leads_then text at state its (at + 1) between its (at + 2) after its
    (mark_leads text at 46 Stop state between its a_full_stop is (rw left spelled) (omega arith))
    (subst (λ (n : ℕ). Leads text (at + 1) between its n after its) end
    (mark_leads text (at + 1) 44 Comma between after its the_comma is_after_it (rw end left) (omega arith)))

-- a period and a comma, and the space after them
pub stop_comma_space_leads : (text : List ℕ) (at : ℕ) (state between after : State) (its : List Item)
    → next state stop ≡ Some between → next between comma ≡ Some after
    → drop at text ≡ codes "., " ++ drop (at + 3) text → at + 3 ≤ length text → is_step after ≡ false
    → Leads text at state its (at + 3) after its
stop_comma_space_leads text at state between after its is is_after_it spelled within no_step =
    let space : drop (at + 2) text ≡ codes " " ++ drop (at + 3) text =
    left_after text at 2 (codes "., " ++ drop (at + 3) text) spelled in
    let end : (at + 2) + 1 ≡ at + 3 = omega arith in
    leads_then text at state its (at + 2) after its (at + 3) after its
    (stop_comma_leads text at state between after its is is_after_it (rw space spelled) (omega arith))
    (subst (λ (n : ℕ). Leads text (at + 2) after its n after its) end
    (leads_space text (at + 2) after its (rw end space) (omega arith) no_step))

-- letters that are a word of this kind
record IsWord (letters : List ℕ) (kind : Kind) : Type 0 where
  some : 0 < length letters
  all : AllPass is_ascii_alphabetic letters
  is : kind ≡ kind_of_word letters

-- a word after white space, before what isn't a letter
word_leads : (text : List ℕ) (at place end : ℕ) (space letters rest : List ℕ) (kind : Kind)
    (state after : State) (its : List Item)
    → AllPass is_white space → IsWord letters kind → begins_with is_ascii_alphabetic rest ≡ false
    → drop at text ≡ space ++ (letters ++ rest) → drop end text ≡ rest
    → place ≡ at + length space → place + length letters ≡ end → end ≤ length text
    → next state (class_of kind) ≡ Some after → is_usual state at (made kind letters place) kind ≡ true
    → Leads text at state its end after (take_token state kind place its)
word_leads text at place end space letters rest kind state after its white word ends spelled left here size
    within is usual =
    let starts : StartsWith at (drop at text) (made kind letters place) (drop end text) =
    rw left (record {
      space = space;
      white = white;
      spelled = spelled;
      place = here;
      is = good (a_word (record { some = word.some; all = word.all; ends = ends }) word.is);
    }) in
    leads_token text at state its (made kind letters place) end after starts size within is usual

no_space : AllPass is_white []
no_space = AllPass-from_list_all is_white [] refl

one_space : AllPass is_white (codes " ")
one_space = AllPass-from_list_all is_white (codes " ") refl

one_t : IsWord (codes "T") T
one_t =
    record { some = omega arith; all = AllPass-from_list_all is_ascii_alphabetic (codes "T") refl; is = refl }

one_r : IsWord (codes "R") R
one_r =
    record { some = omega arith; all = AllPass-from_list_all is_ascii_alphabetic (codes "R") refl; is = refl }

one_sec : IsWord (codes "sec") Sec
one_sec = record {
  some = omega arith;
  all = AllPass-from_list_all is_ascii_alphabetic (codes "sec") refl;
  is = refl;
}

one_section : IsWord (codes "Section") Sec
one_section = record {
  some = omega arith;
  all = AllPass-from_list_all is_ascii_alphabetic (codes "Section") refl;
  is = refl;
}

one_n : IsWord (codes "N") (NorthSouth ns.N)
one_n =
    record { some = omega arith; all = AllPass-from_list_all is_ascii_alphabetic (codes "N") refl; is = refl }

one_s : IsWord (codes "S") (NorthSouth ns.S)
one_s =
    record { some = omega arith; all = AllPass-from_list_all is_ascii_alphabetic (codes "S") refl; is = refl }

one_e : IsWord (codes "E") (EastWest ew.E)
one_e =
    record { some = omega arith; all = AllPass-from_list_all is_ascii_alphabetic (codes "E") refl; is = refl }

one_w : IsWord (codes "W") (EastWest ew.W)
one_w =
    record { some = omega arith; all = AllPass-from_list_all is_ascii_alphabetic (codes "W") refl; is = refl }

-- `T. `
pub township_leads : (text : List ℕ) (at : ℕ) (its : List Item)
    → drop at text ≡ codes "T. " ++ drop (at + 3) text → at + 3 ≤ length text
    → Leads text at past.Start its (at + 3) past.TownshipStop (take_township at its)
township_leads text at its spelled within =
    let more : List ℕ = drop (at + 3) text in
    let after : drop (at + 1) text ≡ codes ". " ++ more =
    left_after text at 1 (codes "T. " ++ more) spelled in
    let end : (at + 1) + 2 ≡ at + 3 = omega arith in
    let begun : List Item = take_township at its in
    leads_then text at past.Start its (at + 1) past.Township begun (at + 3) past.TownshipStop begun
    (word_leads text at at (at + 1) [] (codes "T") (codes ". " ++ more) T past.Start past.Township its
    no_space one_t refl spelled after (omega arith) refl (omega arith) refl refl)
    (subst (λ (n : ℕ). Leads text (at + 1) past.Township begun n past.TownshipStop begun) end
    (stop_leads text (at + 1) past.Township past.TownshipStop begun refl (rw end after) (omega arith) refl))

-- ` N., R. ` and ` S., R. `
side_leads : (text : List ℕ) (at letter : ℕ) (side : NorthOrSouth) (its : List Item)
    → IsWord (letter ∷ []) (NorthSouth side)
    → drop at text ≡ 32 ∷ letter ∷ (codes "., R. " ++ drop (at + 8) text) → at + 8 ≤ length text
    → Leads text at past.TownshipNumber its (at + 8) past.RangeStop (with_newest (TownshipSide side) its)
side_leads text at letter side its word spelled within =
    let more : List ℕ = drop (at + 8) text in
    let whole : List ℕ = 32 ∷ letter ∷ (codes "., R. " ++ more) in
    let marks : drop (at + 2) text ≡ codes "., R. " ++ more = left_after text at 2 whole spelled in
    let range : drop (at + 5) text ≡ codes "R. " ++ more = left_after text at 5 whole spelled in
    let mark : drop (at + 6) text ≡ codes ". " ++ more = left_after text at 6 whole spelled in
    let marks_end : (at + 2) + 3 ≡ at + 5 = omega arith in
    let mark_end : (at + 6) + 2 ≡ at + 8 = omega arith in
    let sided : List Item = with_newest (TownshipSide side) its in
    leads_then text at past.TownshipNumber its (at + 6) past.Range sided (at + 8) past.RangeStop sided
    (leads_then text at past.TownshipNumber its (at + 5) past.TownshipComma sided (at + 6) past.Range sided
    (leads_then text at past.TownshipNumber its (at + 2) past.TownshipSide sided (at + 5) past.TownshipComma
    sided
    (word_leads text at (at + 1) (at + 2) (codes " ") (letter ∷ []) (codes "., R. " ++ more)
    (NorthSouth side) past.TownshipNumber past.TownshipSide its one_space word refl spelled marks refl
    (omega arith) (omega arith) refl refl)
    (subst (λ (n : ℕ). Leads text (at + 2) past.TownshipSide sided n past.TownshipComma sided) marks_end
    (stop_comma_space_leads text (at + 2) past.TownshipSide past.TownshipSideStop past.TownshipComma sided
    refl refl (rw (marks_end, range) marks) (omega arith) refl)))
    (word_leads text (at + 5) (at + 5) (at + 6) [] (codes "R") (codes ". " ++ more) R past.TownshipComma
    past.Range sided no_space one_r refl range mark (omega arith) (omega arith) (omega arith) refl refl))
    (subst (λ (n : ℕ). Leads text (at + 6) past.Range sided n past.RangeStop sided) mark_end
    (stop_leads text (at + 6) past.Range past.RangeStop sided refl (rw mark_end mark) (omega arith) refl))

pub north_leads : (text : List ℕ) (at : ℕ) (its : List Item)
    → drop at text ≡ codes " N., R. " ++ drop (at + 8) text → at + 8 ≤ length text
    → Leads text at past.TownshipNumber its (at + 8) past.RangeStop (with_newest (TownshipSide ns.N) its)
north_leads text at its spelled within = side_leads text at 78 ns.N its one_n spelled within

pub south_leads : (text : List ℕ) (at : ℕ) (its : List Item)
    → drop at text ≡ codes " S., R. " ++ drop (at + 8) text → at + 8 ≤ length text
    → Leads text at past.TownshipNumber its (at + 8) past.RangeStop (with_newest (TownshipSide ns.S) its)
south_leads text at its spelled within = side_leads text at 83 ns.S its one_s spelled within

-- ` E.,` and ` W.,`
way_leads : (text : List ℕ) (at letter : ℕ) (way : EastOrWest) (its : List Item)
    → IsWord (letter ∷ []) (EastWest way) → drop at text ≡ 32 ∷ letter ∷ (codes ".," ++ drop (at + 4) text)
    → at + 4 ≤ length text
    → Leads text at past.RangeNumber its (at + 4) past.BeforeGroup (with_newest (RangeSide way) its)
way_leads text at letter way its word spelled within =
    let more : List ℕ = drop (at + 4) text in
    let marks : drop (at + 2) text ≡ codes ".," ++ more =
    left_after text at 2 (32 ∷ letter ∷ (codes ".," ++ more)) spelled in
    let end : (at + 2) + 2 ≡ at + 4 = omega arith in
    let sided : List Item = with_newest (RangeSide way) its in
    leads_then text at past.RangeNumber its (at + 2) past.RangeSide sided (at + 4) past.BeforeGroup sided
    (word_leads text at (at + 1) (at + 2) (codes " ") (letter ∷ []) (codes ".," ++ more) (EastWest way)
    past.RangeNumber past.RangeSide its one_space word refl spelled marks refl (omega arith) (omega arith)
    refl refl)
    (subst (λ (n : ℕ). Leads text (at + 2) past.RangeSide sided n past.BeforeGroup sided) end
    (stop_comma_leads text (at + 2) past.RangeSide past.RangeSideStop past.BeforeGroup sided refl refl
    (rw end marks) (omega arith)))

pub east_leads : (text : List ℕ) (at : ℕ) (its : List Item)
    → drop at text ≡ codes " E.," ++ drop (at + 4) text → at + 4 ≤ length text
    → Leads text at past.RangeNumber its (at + 4) past.BeforeGroup (with_newest (RangeSide ew.E) its)
east_leads text at its spelled within = way_leads text at 69 ew.E its one_e spelled within

pub west_leads : (text : List ℕ) (at : ℕ) (its : List Item)
    → drop at text ≡ codes " W.," ++ drop (at + 4) text → at + 4 ≤ length text
    → Leads text at past.RangeNumber its (at + 4) past.BeforeGroup (with_newest (RangeSide ew.W) its)
west_leads text at its spelled within = way_leads text at 87 ew.W its one_w spelled within

-- `sec. ` and `Section `, after white space
pub sec_leads : (text : List ℕ) (from at : ℕ) (state : State) (its : List Item)
    → next state sec ≡ Some past.SectionWord → at ≡ from + prefix_len is_white (drop from text)
    → drop at text ≡ codes "sec. " ++ drop (at + 5) text → at + 5 ≤ length text
    → Leads text from state its (at + 5) past.SectionStop its
sec_leads text from at state its is here spelled within =
    let more : List ℕ = drop (at + 5) text in
    let mark : drop (at + 3) text ≡ codes ". " ++ more =
    left_after text at 3 (codes "sec. " ++ more) spelled in
    let end : (at + 3) + 2 ≡ at + 5 = omega arith in
    leads_then text from state its at state its (at + 5) past.SectionStop its
    (white_leads text from at state its here (omega arith) (not_step sec state past.SectionWord refl is))
    (leads_then text at state its (at + 3) past.SectionWord its (at + 5) past.SectionStop its
    (word_leads text at at (at + 3) [] (codes "sec") (codes ". " ++ more) Sec state past.SectionWord its
    no_space one_sec refl spelled mark (omega arith) refl (omega arith) is refl)
    (subst (λ (n : ℕ). Leads text (at + 3) past.SectionWord its n past.SectionStop its) end
    (stop_leads text (at + 3) past.SectionWord past.SectionStop its refl (rw end mark) (omega arith) refl)))

pub section_leads : (text : List ℕ) (from at : ℕ) (state : State) (its : List Item)
    → next state sec ≡ Some past.SectionWord → at ≡ from + prefix_len is_white (drop from text)
    → drop at text ≡ codes "Section " ++ drop (at + 8) text → at + 8 ≤ length text
    → Leads text from state its (at + 8) past.SectionWord its
section_leads text from at state its is here spelled within =
    let more : List ℕ = drop (at + 8) text in
    let space : drop (at + 7) text ≡ codes " " ++ more =
    left_after text at 7 (codes "Section " ++ more) spelled in
    let end : (at + 7) + 1 ≡ at + 8 = omega arith in
    leads_then text from state its at state its (at + 8) past.SectionWord its
    (white_leads text from at state its here (omega arith) (not_step sec state past.SectionWord refl is))
    (leads_then text at state its (at + 7) past.SectionWord its (at + 8) past.SectionWord its
    (word_leads text at at (at + 7) [] (codes "Section") (codes " " ++ more) Sec state past.SectionWord its
    no_space one_section refl spelled space (omega arith) refl (omega arith) is refl)
    (subst (λ (n : ℕ). Leads text (at + 7) past.SectionWord its n past.SectionWord its) end
    (leads_space text (at + 7) past.SectionWord its (rw end space) (omega arith) refl)))

-- the colon after a section's number
pub colon_leads : (text : List ℕ) (at : ℕ) (its : List Item) → drop at text ≡ codes ":" ++ drop (at + 1) text
    → at + 1 ≤ length text
    → Leads text at past.SectionNumber its (at + 1) past.BeforePart (before_parts past.SectionNumber its)
colon_leads text at its spelled within =
    let starts : StartsWith at (drop at text) (made Colon (codes ":") at) (drop (at + 1) text) =
    record {
      space = [];
      white = no_space;
      spelled = spelled;
      place = omega arith;
      is = good (a_colon refl refl);
    } in
    leads_token text at past.SectionNumber its (made Colon (codes ":") at) (at + 1) past.BeforePart starts
    refl within refl refl

-- a number that is the next token
pub number_leads : (text : List ℕ) (from : ℕ) (token : Token) (it : Numeral) (end : ℕ)
    → IsFirstIn text from token → token.kind ≡ Number it.value → token.at ≡ it.at
    → token.at + length token.text ≡ end → IsNumberAfter text from it end
number_leads text from token it end first kind_is at_is ends state after its is plain =
    let step_is : next state (class_of token.kind) ≡ Some after =
    ap (λ k. next state (class_of k)) kind_is ∙ is in
    let grown_is : take_token state token.kind token.at its ≡ take_number state it its =
    ap (λ k. take_token state k token.at its) kind_is
    ∙ ap (λ n. take_token state (Number it.value) n its) at_is in
    let starts : StartsWith from (drop from text) token (drop end text) =
    subst (λ (n : ℕ). StartsWith from (drop from text) token (drop n text)) ends first.starts in
    let within : end ≤ length text = subst (λ (n : ℕ). n ≤ length text) ends first.within in
    let sure : may_be_doubtful state (drop token.at text) ≡ false =
    subst (λ (n : ℕ). may_be_doubtful state (drop n text) ≡ false) (sym at_is) plain in
    subst (λ (js : List Item). Leads text from state its end after js) grown_is
    (leads_token text from state its token end after starts ends within step_is
    (number_is_usual text from state token it.value (drop end text) starts kind_is sure))

-- where a part may begin, the word of lots does
lots_begin : (state : State) → true ≡ is_some (next state lot) → next state lot ≡ Some past.Lot
lots_begin past.SectionNumber h = refl
lots_begin past.SectionComma h = refl
lots_begin past.LotComma h = refl
lots_begin past.LotLastComma h = refl
lots_begin past.LotAnd h = refl
lots_begin past.BeforePart h = refl
lots_begin past.PartComma h = refl
lots_begin _ h = cc h

one_lots : IsWord (codes "lots") Lot
one_lots = record {
  some = omega arith;
  all = AllPass-from_list_all is_ascii_alphabetic (codes "lots") refl;
  is = refl;
}

-- `lots `
pub lots_leads : (text : List ℕ) (at : ℕ) (state : State) (its : List Item) → true ≡ is_some (next state lot)
    → drop at text ≡ codes "lots " ++ drop (at + 5) text → at + 5 ≤ length text
    → Leads text at state its (at + 5) past.Lot (before_parts state its)
lots_leads text at state its begins spelled within =
    let more : List ℕ = drop (at + 5) text in
    let begun : List Item = before_parts state its in
    let space : drop (at + 4) text ≡ codes " " ++ more =
    left_after text at 4 (codes "lots " ++ more) spelled in
    let end : (at + 4) + 1 ≡ at + 5 = omega arith in
    leads_then text at state its (at + 4) past.Lot begun (at + 5) past.Lot begun
    (word_leads text at at (at + 4) [] (codes "lots") (codes " " ++ more) Lot state past.Lot its no_space
    one_lots refl spelled space (omega arith) refl (omega arith) (lots_begin state begins) refl)
    (subst (λ (n : ℕ). Leads text (at + 4) past.Lot begun n past.Lot begun) end
    (leads_space text (at + 4) past.Lot begun (rw end space) (omega arith) refl))

-- `, lots ` after the number of a section
pub comma_lots_leads : (text : List ℕ) (at : ℕ) (its : List Item)
    → drop at text ≡ codes ", lots " ++ drop (at + 7) text → at + 7 ≤ length text
    → Leads text at past.SectionNumber its (at + 7) past.Lot (before_parts past.SectionNumber its)
comma_lots_leads text at its spelled within =
    let more : List ℕ = drop (at + 7) text in
    let begun : List Item = before_parts past.SectionNumber its in
    let word : drop (at + 1) text ≡ codes " lots " ++ more =
    left_after text at 1 (codes ", lots " ++ more) spelled in
    let space : drop (at + 6) text ≡ codes " " ++ more =
    left_after text at 6 (codes ", lots " ++ more) spelled in
    let end : (at + 6) + 1 ≡ at + 7 = omega arith in
    leads_then text at past.SectionNumber its (at + 1) past.SectionComma its (at + 7) past.Lot begun
    (mark_leads text at 44 Comma past.SectionNumber past.SectionComma its the_comma refl (rw word spelled)
    (omega arith))
    (leads_then text (at + 1) past.SectionComma its (at + 6) past.Lot begun (at + 7) past.Lot begun
    (word_leads text (at + 1) (at + 2) (at + 6) (codes " ") (codes "lots") (codes " " ++ more) Lot
    past.SectionComma past.Lot its one_space one_lots refl word space (omega arith) (omega arith)
    (omega arith) refl refl)
    (subst (λ (n : ℕ). Leads text (at + 6) past.Lot begun n past.Lot begun) end
    (leads_space text (at + 6) past.Lot begun (rw end space) (omega arith) refl)))

-- the number after a section's word is its own
pub section_taken : (state : State) (it : Numeral) (its : List Item)
    → next state number ≡ Some past.SectionNumber → take_number state it its ≡ Sections it it true ∷ its
section_taken past.Township it its h = cc h
section_taken past.TownshipStop it its h = cc h
section_taken past.Range it its h = cc h
section_taken past.RangeStop it its h = cc h
section_taken past.ListTo it its h = cc h
section_taken past.LotTo it its h = cc h
section_taken past.Lot it its h = cc h
section_taken past.LotComma it its h = cc h
section_taken past.LotLastComma it its h = cc h
section_taken past.LotAnd it its h = cc h
section_taken _ it its h = refl

-- and it is not doubtful
pub section_plain : (state : State) (bytes : List ℕ) → next state number ≡ Some past.SectionNumber
    → may_be_doubtful state bytes ≡ false
section_plain past.SectionWord bytes h = refl
section_plain past.SectionStop bytes h = refl
section_plain _ bytes h = cc h
