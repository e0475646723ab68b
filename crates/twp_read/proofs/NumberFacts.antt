-- A number as the next token of a text, and as the next one of a list.
use Rattle.std.proofs.Common.{◌≡◌, ℕ, ◌+◌, ◌<◌, ◌≤◌, true, false, List, [], ◌∷◌, Some, length, take, drop}
use Rattle.std.proofs.Common.{slice_index, codes, ◌++◌, refl, ap, sym, subst, ◌∙◌, ◌-◌, arith, length-drop}
use Rattle.std.proofs.lemmas.List.{length-take-le}
use Rattle.std.specs.Char.{is_ascii_digit}
use Rattle.std.specs.List.{prefix_len}
use Rattle.twp_grammar.specs.declared.item.Item.{Item}
use Rattle.twp_grammar.specs.declared.item.Numeral.{Numeral}
use Rattle.twp_grammar.specs.declared.tokens.Kind.{Kind}
use Rattle.twp_grammar.specs.declared.tokens.Kind.TheVariants.{Number, Comma}
use Rattle.twp_grammar.specs.declared.tokens.Lexeme.{Lexeme}
use Rattle.twp_read.specs.declared.usual.list.ListKind.{ListKind}
use Rattle.twp_read.specs.declared.usual.list.ListKind.TheVariants as listed
use Rattle.twp_grammar.specs.declared.state.State.{State}
use Rattle.twp_grammar.specs.declared.state.State.TheVariants as past
use Rattle.twp_grammar.specs.Cutting.{IsFirstIn, cut_digits, cut}
use Rattle.twp_grammar.specs.Tokens.{Token, StartsWith, is_white}
use Rattle.twp_grammar.specs.Grammar.{class_of, comma, number}
use Rattle.twp_grammar.specs.Machine.{next}
use Rattle.twp_read.specs.steps.TokenSteps.{take_number, take_token, with_newest}
use Rattle.twp_read.specs.declared.watch.ItemChange.TheVariants.{Last}
use Rattle.twp_read.specs.steps.Usual.{Leads, IsNumberAfter, IsNumberToken, IsAfterWhite, entry_of}
use Rattle.twp_read.specs.steps.Usual.{state_after}
use Rattle.twp_read.specs.steps.Usual.{last_state_after, listed_in, listed_after_and, listed_after_to}
use Rattle.twp_read.specs.steps.Usual.{may_be_doubtful}
use Rattle.twp_read.specs.steps.Watching.{is_step, is_usual}
use Rattle.twp_read.proofs.WatchFacts.{not_step, comma_no_step}
use Rattle.twp_grammar.proofs.ByteRuns.{digit_no_space}
use Rattle.twp_grammar.proofs.Cuts.{IsFirstToken, cut_of_digit}
use Rattle.twp_grammar.proofs.TokenFacts.{first_at, first_in}
use Rattle.twp_read.proofs.FrontFacts.{number_leads}
use Rattle.twp_read.proofs.Leading.{the_comma, mark_leads, leads_token, leads_then, white_leads, after_space}

-- what is said of a number that begins at a place, after white space
pub record BeginsHere (text : List ℕ) (from : ℕ) (it : Numeral) (end : ℕ) : Type 0 where
  pub leads : IsNumberAfter text from it end
  pub first : IsNumberToken text from it end
  pub further : from < end
  pub within : end ≤ length text

some_here : (bytes : List ℕ) → is_ascii_digit (slice_index bytes 0) ≡ true → 0 < length bytes
some_here [] h = cc h
some_here (x ∷ xs) h = omega arith

-- the token that is cut at a place after white space
record IsCutHere (text : List ℕ) (from : ℕ) (token : Token) (end : ℕ) : Type 0 where
  first : IsFirstIn text from token
  ends : token.at + length token.text ≡ end

abbrev token_of : List ℕ → ℕ → Lexeme → Token
token_of text at l = record { kind = l.kind; text = take l.size (drop at text); at = at }

cut_here : (text : List ℕ) (from at : ℕ) (l : Lexeme)
    → at ≡ from + prefix_len is_white (drop from text) → at < length text → l ≡ cut (drop at text)
    → IsCutHere text from (token_of text at l) (at + l.size)
cut_here text from at l here below is =
    let whole : IsFirstToken (drop at text) l =
    subst (λ (m : Lexeme). IsFirstToken (drop at text) m) (sym is) (first_at text from at here below) in
    record {
      first = first_in text from at l (take l.size (drop at text)) here below is refl;
      ends = ap (λ n. at + n) (length-take-le l.size (drop at text) whole.fits);
    }

pub begins_here : (text : List ℕ) (from at value : ℕ) (l : Lexeme)
    → at ≡ from + prefix_len is_white (drop from text)
    → is_ascii_digit (slice_index (drop at text) 0) ≡ true
    → l ≡ cut_digits (drop at text) → l.kind ≡ Number value
    → BeginsHere text from (record { value = value; at = at }) (at + l.size)
begins_here text from at value l here digit is kind =
    let some : 0 < length text - at = rw (length-drop at text) at (some_here (drop at text) digit) in
    let l_is : l ≡ cut (drop at text) = is ∙ sym (cut_of_digit (drop at text) digit) in
    let it : IsCutHere text from (token_of text at l) (at + l.size) =
    cut_here text from at l here (omega arith) l_is in
    record {
      leads = number_leads text from (token_of text at l) (record { value = value; at = at }) (at + l.size)
          it.first kind refl it.ends;
      first = record {
        token = token_of text at l;
        starts =
            subst (λ (n : ℕ). StartsWith from (drop from text) (token_of text at l) (drop n text)) it.ends
            it.first.starts;
        kind_is = kind;
        here = refl;
        ends = it.ends;
        within = subst (λ (n : ℕ). n ≤ length text) it.ends it.first.within;
      };
      further = subst (λ (n : ℕ). from < n) it.ends it.first.further;
      within = subst (λ (n : ℕ). n ≤ length text) it.ends it.first.within;
    }

-- where it ends
pub record EndsWithin (text : List ℕ) (from end : ℕ) : Type 0 where
  pub further : from < end
  pub within : end ≤ length text

pub word_ends : (text : List ℕ) (from at : ℕ) (l : Lexeme)
    → at ≡ from + prefix_len is_white (drop from text) → at < length text → l ≡ cut (drop at text)
    → EndsWithin text from (at + l.size)
word_ends text from at l here below is =
    let it : IsCutHere text from (token_of text at l) (at + l.size) = cut_here text from at l here below is in
    record {
      further = subst (λ (n : ℕ). from < n) it.ends it.first.further;
      within = subst (λ (n : ℕ). n ≤ length text) it.ends it.first.within;
    }

-- a token that says nothing of the items
pub word_leads : (text : List ℕ) (from at : ℕ) (l : Lexeme) (kind : Kind) (state after : State)
    → at ≡ from + prefix_len is_white (drop from text) → at < length text → l ≡ cut (drop at text)
    → l.kind ≡ kind → next state (class_of kind) ≡ Some after
    → ((place : ℕ) (items : List Item) → take_token state kind place items ≡ items)
    → ((token : Token) → is_usual state from token kind ≡ true)
    → (items : List Item) → Leads text from state items (at + l.size) after items
word_leads text from at l kind state after here below is kind_is step kept usual items =
    let it : IsCutHere text from (token_of text at l) (at + l.size) = cut_here text from at l here below is in
    let same : take_token state l.kind at items ≡ items =
    ap (λ k. take_token state k at items) kind_is ∙ kept at items in
    subst (λ (js : List Item). Leads text from state items (at + l.size) after js) same
    (leads_token text from state items (token_of text at l) (at + l.size) after
    (subst (λ (n : ℕ). StartsWith from (drop from text) (token_of text at l) (drop n text)) it.ends
    it.first.starts)
    it.ends (subst (λ (n : ℕ). n ≤ length text) it.ends it.first.within)
    (ap (λ k. next state (class_of k)) kind_is ∙ step)
    (ap (λ k. is_usual state from (token_of text at l) k) kind_is ∙ usual (token_of text at l)))

-- where no white space stands, none is passed over
no_white : (bytes : List ℕ) → is_white (slice_index bytes 0) ≡ false → prefix_len is_white bytes ≡ 0
no_white [] h = refl
no_white (x ∷ xs) h = rw h refl

pub right_here : (text : List ℕ) (at : ℕ) → is_white (slice_index (drop at text) 0) ≡ false
    → at ≡ at + prefix_len is_white (drop at text)
right_here text at h = rw (no_white (drop at text) h) (omega arith)

no_white_digit : (bytes : List ℕ) → is_ascii_digit (slice_index bytes 0) ≡ true
    → prefix_len is_white bytes ≡ 0
no_white_digit [] h = refl
no_white_digit (x ∷ xs) h = rw (digit_no_space x h) refl

pub digit_here : (text : List ℕ) (at : ℕ) → is_ascii_digit (slice_index (drop at text) 0) ≡ true
    → at ≡ at + prefix_len is_white (drop at text)
digit_here text at h = rw (no_white_digit (drop at text) h) (omega arith)

-- a number after white space
pub number_ahead : (text : List ℕ) (from at : ℕ) (it : Numeral) (end : ℕ) → IsAfterWhite text from at
    → IsNumberAfter text at it end → IsNumberAfter text from it end
number_ahead text from at it end white leads state after items is plain =
    leads_then text from state items at state items end after (take_number state it items)
    (white_leads text from at state items white.0 white.1 (not_step number state after refl is))
    (leads state after items is plain)

-- its token after white space
pub token_ahead : (text : List ℕ) (from at : ℕ) (it : Numeral) (end : ℕ) → IsAfterWhite text from at
    → IsNumberToken text at it end → IsNumberToken text from it end
token_ahead text from at it end white is = record {
  token = is.token;
  starts = after_space text from at is.token (drop end text) white.0 is.starts;
  kind_is = is.kind_is;
  here = is.here;
  ends = is.ends;
  within = is.within;
}

-- a comma, and the white space after it
pub comma_leads : (text : List ℕ) (at to : ℕ) (state after : State) (items : List Item)
    → drop at text ≡ codes "," ++ drop (at + 1) text → at + 1 ≤ length text → IsAfterWhite text (at + 1) to
    → next state comma ≡ Some after → Leads text at state items to after items
comma_leads text at to state after items spelled within white is =
    leads_then text at state items (at + 1) after items to after items
    (mark_leads text at 44 Comma state after items the_comma is spelled within)
    (white_leads text (at + 1) to after items white.0 white.1 (comma_no_step state after is))

-- how a list continues from a state
record GoesOn (state : State) (list : ListKind) : Type 0 where
  between : State
  comma_is : next state comma ≡ Some between
  number_is : next between number ≡ Some (state_after list)
  taken : (it : Numeral) (items : List Item) → take_number between it items ≡ entry_of list it ∷ items
  plain : (bytes : List ℕ) → may_be_doubtful between bytes ≡ false

goes_on : (state : State) (list : ListKind) → listed_in state ≡ Some list → GoesOn state list
goes_on past.LotNumber listed.Lots h =
    record {
      between = past.LotComma;
      comma_is = refl;
      number_is = refl;
      taken = λ it items. refl;
      plain = λ _. refl;
    }
goes_on past.LotLast listed.Lots h =
    record {
      between = past.LotLastComma;
      comma_is = refl;
      number_is = refl;
      taken = λ it items. refl;
      plain = λ _. refl;
    }
goes_on past.LotInclusive listed.Lots h =
    record {
      between = past.LotComma;
      comma_is = refl;
      number_is = refl;
      taken = λ it items. refl;
      plain = λ _. refl;
    }
goes_on past.ListNumber listed.Sections h =
    record {
      between = past.ListComma;
      comma_is = refl;
      number_is = refl;
      taken = λ it items. refl;
      plain = λ _. refl;
    }
goes_on past.ListLast listed.Sections h =
    record {
      between = past.ListLastComma;
      comma_is = refl;
      number_is = refl;
      taken = λ it items. refl;
      plain = λ _. refl;
    }
goes_on past.ListInclusive listed.Sections h =
    record {
      between = past.ListComma;
      comma_is = refl;
      number_is = refl;
      taken = λ it items. refl;
      plain = λ _. refl;
    }
goes_on _ _ h = cc h

-- one more number of a list leads on, after a comma
pub entry_leads : (text : List ℕ) (at to : ℕ) (state : State) (items : List Item) (list : ListKind)
    (it : Numeral) (end : ℕ)
    → listed_in state ≡ Some list
    → drop at text ≡ codes "," ++ drop (at + 1) text → at + 1 ≤ length text → IsAfterWhite text (at + 1) to
    → IsNumberAfter text to it end
    → Leads text at state items end (state_after list) (entry_of list it ∷ items)
entry_leads text at to state items list it end is spelled within white leads =
    let by : GoesOn state list = goes_on state list is in
    subst (λ (its : List Item). Leads text at state items end (state_after list) its) (by.taken it items)
    (leads_then text at state items to by.between items end (state_after list)
    (take_number by.between it items)
    (comma_leads text at to state by.between items spelled within white by.comma_is)
    (leads by.between (state_after list) items by.number_is (by.plain (drop it.at text))))

-- and after an `and`
record IsEntry (state : State) (list : ListKind) : Type 0 where
  number_is : next state number ≡ Some (state_after list)
  taken : (it : Numeral) (items : List Item) → take_number state it items ≡ entry_of list it ∷ items
  plain : (bytes : List ℕ) → may_be_doubtful state bytes ≡ false

is_entry : (state : State) (list : ListKind) → listed_after_and state ≡ Some list → IsEntry state list
is_entry past.LotAnd listed.Lots h = record { number_is = refl; taken = λ it items. refl; plain = λ _. refl }
is_entry past.ListAnd listed.Sections h =
    record { number_is = refl; taken = λ it items. refl; plain = λ _. refl }
is_entry _ _ h = cc h

pub joined_leads : (text : List ℕ) (from : ℕ) (state : State) (items : List Item) (list : ListKind)
    (it : Numeral) (end : ℕ)
    → listed_after_and state ≡ Some list → IsNumberAfter text from it end
    → Leads text from state items end (state_after list) (entry_of list it ∷ items)
joined_leads text from state items list it end is leads =
    let by : IsEntry state list = is_entry state list is in
    subst (λ (its : List Item). Leads text from state items end (state_after list) its) (by.taken it items)
    (leads state (state_after list) items by.number_is (by.plain (drop it.at text)))

-- and after `to`, as the last of a range
record IsLast (state : State) (list : ListKind) : Type 0 where
  number_is : next state number ≡ Some (last_state_after list)
  taken : (it : Numeral) (items : List Item) → take_number state it items ≡ with_newest (Last it) items
  plain : (bytes : List ℕ) → may_be_doubtful state bytes ≡ false

is_last : (state : State) (list : ListKind) → listed_after_to state ≡ Some list → IsLast state list
is_last past.LotTo listed.Lots h = record { number_is = refl; taken = λ it items. refl; plain = λ _. refl }
is_last past.ListTo listed.Sections h =
    record { number_is = refl; taken = λ it items. refl; plain = λ _. refl }
is_last _ _ h = cc h

pub last_leads : (text : List ℕ) (from : ℕ) (state : State) (items : List Item) (list : ListKind)
    (it : Numeral)
    (end : ℕ)
    → listed_after_to state ≡ Some list → IsNumberAfter text from it end
    → Leads text from state items end (last_state_after list) (with_newest (Last it) items)
last_leads text from state items list it end is leads =
    let by : IsLast state list = is_last state list is in
    subst (λ (its : List Item). Leads text from state items end (last_state_after list) its)
    (by.taken it items)
    (leads state (last_state_after list) items by.number_is (by.plain (drop it.at text)))

-- and the list continues there
pub goes_on_after : (list : ListKind) → listed_in (state_after list) ≡ Some list
goes_on_after listed.Lots = refl
goes_on_after listed.Sections = refl

-- it continues after no step
pub list_no_step : (state : State) (list : ListKind) → listed_in state ≡ Some list → is_step state ≡ false
list_no_step past.Step list h = cc h
list_no_step _ list h = refl
