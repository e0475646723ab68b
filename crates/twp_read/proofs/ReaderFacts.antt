-- What the reader knows between two tokens, and what follows from it where it ends.
use Rattle.std.proofs.Common.{◌≡◌, ℕ, ◌+◌, ◌≤◌, true, false, List, [], ◌∷◌, ◌++◌, Option, Some, None}
use Rattle.std.proofs.Common.{length, reverse, refl, sym, ap, subst, ◌∙◌, append_assoc, arith}
use Rattle.std.proofs.Common.{drop, length-append, length-drop}
use Rattle.std.specs.List.{AllPass}
use Rattle.std.proofs.lemmas.List.{append-nil, reverse-append, take_all}
use Rattle.std.proofs.Math.Seq.{take-append_seam}
use Rattle.twp_grammar.specs.declared.item.Item.{Item}
use Rattle.twp_grammar.specs.declared.state.State.{State}
use Rattle.twp_grammar.specs.declared.state.State.TheVariants.{Start}
use Rattle.twp_grammar.specs.Tokens.{Token, StartsWith, HasTokens, is_white}
use Rattle.twp_grammar.specs.Grammar.{Class, class_of, bad_byte, bad_number}
use Rattle.twp_grammar.specs.Items.{BeginWithSections}
use Rattle.twp_grammar.specs.Sentences.{IsSentence, HasItems, MayFollow}
use Rattle.twp_grammar.specs.Machine.{next, is_final}
use Rattle.twp_read.specs.steps.TokenSteps.{take_token, run}
use Rattle.twp_grammar.specs.declared.tokens.Kind.{Kind}
use Rattle.twp_grammar.specs.declared.tokens.Kind.TheVariants.{BadByte, BadNumber}
use Rattle.twp_read.specs.declared.fault.TextFault.{TextFault}
use Rattle.twp_grammar.specs.declared.expected.Expected.{Expected}
use Rattle.twp_grammar.specs.Expected.{expected_of}
use Rattle.twp_read.specs.declared.fault.TextFault.TheVariants as faults
use Rattle.twp_read.specs.TextFaults.{place_of_token, NamesWhatFollows, Helps}
use Rattle.twp_read.specs.steps.BadTokens.{fault_of_bad, NoneBad, HasNoneBad, IsLeftmostBad}
use Rattle.twp_grammar.specs.Sentences.{TEXT_LIMIT, IsReadAs}
use Rattle.twp_read.specs.steps.Usual.{HasNoneBadBefore}
use Rattle.twp_grammar.proofs.Table.{takes_no_bad_byte, takes_no_bad_number}
use Rattle.twp_grammar.proofs.TokenFacts.{has_token_list}
use Rattle.twp_grammar.proofs.TreeFacts.{tree_begins}
use Rattle.twp_read.proofs.ListWalk.{newest_first}
use Rattle.twp_read.proofs.Reading.{ended, go_on, run-append, accepted, fault_here, fault_at_end}
use Rattle.twp_read.proofs.Reading.{what_follows, what_is_told}

-- the tokens before some place: those after it are the rest of the text's
pub record Before (text : List ℕ) (at : ℕ) (bytes : List ℕ) (before : List Token) : Type 0 where
  pub joins : (left : List Token) → HasTokens at bytes left → HasTokens 0 text (before ++ left)

pub one_after : (text : List ℕ) (at : ℕ) (bytes : List ℕ) (before : List Token) (token : Token)
    (rest : List ℕ)
    → Before text at bytes before → StartsWith at bytes token rest
    → Before text (token.at + length token.text) rest (before ++ token ∷ [])
one_after text at bytes before token rest b starts =
    record { joins = λ left has. rw append_assoc (b.joins (token ∷ left) (rest, starts, has)) }

-- what the reader knows
pub record Front (text : List ℕ) (at : ℕ) (bytes : List ℕ) (state : State) (its : List Item) : Type 0 where
  pub tokens : List Token
  pub before : Before text at bytes tokens
  pub walked : run (Some Start) [] tokens ≡ ended state its
  pub within : at + length bytes ≤ length text

-- where a token is, and how much is left after it
pub record IsWithin (at : ℕ) (bytes : List ℕ) (token : Token) (rest : List ℕ) : Type 0 where
  pub sum : (token.at + length token.text) + length rest ≡ at + length bytes

pub is_within : (at : ℕ) (bytes : List ℕ) (token : Token) (rest : List ℕ) → StartsWith at bytes token rest
    → IsWithin at bytes token rest
is_within at bytes token rest s =
    let whole : length bytes ≡ length s.space + (length token.text + length rest) =
    ap length s.spelled
    ∙ length-append s.space (token.text ++ rest)
    ∙ ap (λ n. length s.space + n) (length-append token.text rest) in
    let place : token.at ≡ at + length s.space = s.place in
    record { sum = omega arith }

unfoldable pub front_next : (text : List ℕ) (at : ℕ) (bytes : List ℕ) (state behind : State) (its : List Item)
    (token : Token) (at' : ℕ) (rest : List ℕ)
    → Front text at bytes state its → StartsWith at bytes token rest → at' ≡ token.at + length token.text
    → next state (class_of token.kind) ≡ Some behind
    → Front text at' rest behind (take_token state token.kind token.at its)
front_next text at bytes state behind its token at' rest f starts place step =
    let inside : IsWithin at bytes token rest = is_within at bytes token rest starts in
    let sum : (token.at + length token.text) + length rest ≡ at + length bytes = inside.sum in
    let within : at + length bytes ≤ length text = f.within in
    record {
      tokens = f.tokens ++ token ∷ [];
      before =
          subst (λ n. Before text n rest (f.tokens ++ token ∷ [])) (sym place)
          (one_after text at bytes f.tokens token rest f.before starts);
      walked =
          run-append (Some Start) [] f.tokens (token ∷ [])
          ∙ ap (λ o. go_on o (token ∷ [])) f.walked
          ∙ ap (λ o. run o (take_token state token.kind token.at its) []) step;
      within = omega arith;
    }

place_here : (before after_it : List Token) (token : Token) (end : ℕ)
    → place_of_token (before ++ token ∷ after_it) (length before) end ≡ token.at
place_here [] after_it token end = refl
place_here (first ∷ before) after_it token end = place_here before after_it token end

place_at_end : (tokens : List Token) (end : ℕ) → place_of_token tokens (length tokens) end ≡ end
place_at_end [] end = refl
place_at_end (token ∷ tokens) end = place_at_end tokens end

pub wrong_here : (text : List ℕ) (at : ℕ) (bytes : List ℕ) (state : State) (its : List Item) (token : Token)
    (rest : List ℕ)
    → Front text at bytes state its → StartsWith at bytes token rest → next state (class_of token.kind) ≡ None
    → NamesWhatFollows text token.at (expected_of state)
wrong_here text at bytes state its token rest f starts stuck =
    let left = has_token_list (token.at + length token.text) rest in
    record {
      wrong = record {
        tokens = f.tokens ++ token ∷ left.0;
        cut = f.before.joins (token ∷ left.0) (rest, starts, left.1);
        i = length f.tokens;
        fault = fault_here f.tokens left.0 token state its f.walked stuck;
        place = sym (place_here f.tokens left.0 token (length text));
      };
      named_is = λ other more is. what_follows f.tokens other more state its f.walked
          (subst (λ (ts : List Token). IsSentence (ts ++ other ∷ more))
          (take-append_seam f.tokens (token ∷ left.0)) is);
      reported_is = λ class is.
          subst (λ (ts : List Token). MayFollow ts class) (sym (take-append_seam f.tokens (token ∷ left.0)))
          (what_is_told f.tokens state its f.walked class is);
    }

pub all_tokens : (text : List ℕ) (at : ℕ) (bytes : List ℕ) (tokens : List Token) → Before text at bytes tokens
    → AllPass is_white bytes → HasTokens 0 text tokens
all_tokens text at bytes tokens b white =
    subst (λ (ts : List Token). HasTokens 0 text ts) (append-nil tokens) (b.joins [] white)

pub wrong_at_end : (text : List ℕ) (at : ℕ) (bytes : List ℕ) (state : State) (its : List Item)
    → Front text at bytes state its → AllPass is_white bytes → is_final state ≡ false
    → NamesWhatFollows text (length text) (expected_of state)
wrong_at_end text at bytes state its f white final = record {
  wrong = record {
    tokens = f.tokens;
    cut = all_tokens text at bytes f.tokens f.before white;
    i = length f.tokens;
    fault = fault_at_end f.tokens state its f.walked final;
    place = sym (place_at_end f.tokens (length text));
  };
  named_is = λ other more is. what_follows f.tokens other more state its f.walked
      (subst (λ (ts : List Token). IsSentence (ts ++ other ∷ more))
      (take_all (length f.tokens) f.tokens (omega arith)) is);
  reported_is = λ class is.
      subst (λ (ts : List Token). MayFollow ts class)
      (sym (take_all (length f.tokens) f.tokens (omega arith)))
      (what_is_told f.tokens state its f.walked class is);
}

-- newest first, reversed
turned_round : (xs ys : List Item) → newest_first xs ys ≡ reverse xs ++ ys
turned_round [] ys = refl
turned_round (it ∷ xs) ys =
    turned_round xs (it ∷ ys)
    ∙ sym (append_assoc (reverse xs) (it ∷ []) ys)
    ∙ ap (λ zs. zs ++ ys) (sym (reverse-append (it ∷ []) xs))

pub read_whole : (text : List ℕ) (at : ℕ) (bytes : List ℕ) (state : State) (its : List Item)
    → Front text at bytes state its → AllPass is_white bytes → is_final state ≡ true
    → length text ≤ TEXT_LIMIT → IsReadAs text (reverse its)
read_whole text at bytes state its f white final limit = record {
  within = limit;
  tokens = f.tokens;
  cut = all_tokens text at bytes f.tokens f.before white;
  named =
      subst (λ (js : List Item). HasItems f.tokens js) (turned_round its [] ∙ append-nil (reverse its))
      (accepted f.tokens state its f.walked final);
}

pub begins : (text : List ℕ) (its : List Item) → IsReadAs text its → BeginWithSections its
begins text its read =
    subst (λ (js : List Item). BeginWithSections js) read.named.read_off (tree_begins read.named.tree)

-- the search for a bad token
pub record Search (text : List ℕ) (at : ℕ) (bytes : List ℕ) : Type 0 where
  pub tokens : List Token
  pub before : Before text at bytes tokens
  pub none_bad : NoneBad tokens
  pub within : at + length bytes ≤ length text

-- what the machine takes is no bad token
not_taken : (state behind : State) (class : Class) → next state class ≡ None → next state class ≡ Some behind
    → ⊥
not_taken state behind class none is =
    let both : ◌≡◌ {A = Option State} None (Some behind) = sym none ∙ is in
    cc both

taken_is_good : (state : State) (kind : Kind) (at : ℕ) (behind : State)
    → next state (class_of kind) ≡ Some behind → fault_of_bad kind at ≡ None
taken_is_good state BadByte at behind is =
    absurd (not_taken state behind bad_byte (takes_no_bad_byte state) is)
taken_is_good state BadNumber at behind is =
    absurd (not_taken state behind bad_number (takes_no_bad_number state) is)
taken_is_good state _ at behind is = refl

one_more_taken : (token : Token) (tokens : List Token) (state : State) (its : List Item) (last : State)
    (grown : List Item) (o : Option State)
    → ((behind : State) → run (Some behind) its tokens ≡ Some (last, grown) → NoneBad tokens)
    → next state (class_of token.kind) ≡ o → run o its tokens ≡ Some (last, grown) → NoneBad (token ∷ tokens)
one_more_taken token tokens state its last grown None more is walked = cc walked
one_more_taken token tokens state its last grown (Some behind) more is walked =
    (taken_is_good state token.kind token.at behind is, more behind walked)

taken_are_good : (tokens : List Token) (state : State) (its : List Item) (last : State) (grown : List Item)
    → run (Some state) its tokens ≡ Some (last, grown) → NoneBad tokens
taken_are_good [] state its last grown walked = tt
taken_are_good (token ∷ tokens) state its last grown walked =
    let taken : List Item = take_token state token.kind token.at its in
    one_more_taken token tokens state taken last grown (next state (class_of token.kind))
    (λ behind more. taken_are_good tokens behind taken last grown more) refl walked

pub none_bad_before : (text : List ℕ) (at : ℕ) (state : State) (its : List Item) → at ≤ length text
    → Front text at (drop at text) state its → HasNoneBadBefore text at
none_bad_before text at state its within f =
    record {
      tokens = f.tokens;
      joins = f.before.joins;
      none_bad = taken_are_good f.tokens Start [] state its f.walked;
      within = within;
    }

pub search_start : (text : List ℕ) (at : ℕ) → HasNoneBadBefore text at → Search text at (drop at text)
search_start text at g =
    let within : at ≤ length text = g.within in
    record {
      tokens = g.tokens;
      before = record { joins = g.joins };
      none_bad = g.none_bad;
      within = rw (length-drop at text) (omega arith);
    }

one_more_good : (tokens : List Token) (token : Token) → NoneBad tokens
    → fault_of_bad token.kind token.at ≡ None
    → NoneBad (tokens ++ token ∷ [])
one_more_good [] token none_bad is = (is, tt)
one_more_good (first ∷ tokens) token none_bad is = (none_bad.0, one_more_good tokens token none_bad.1 is)

pub search_next : (text : List ℕ) (at : ℕ) (bytes : List ℕ) (token : Token) (at' : ℕ) (rest : List ℕ)
    → Search text at bytes → StartsWith at bytes token rest → at' ≡ token.at + length token.text
    → fault_of_bad token.kind token.at ≡ None → Search text at' rest
search_next text at bytes token at' rest f starts place is =
    let inside : IsWithin at bytes token rest = is_within at bytes token rest starts in
    let sum : (token.at + length token.text) + length rest ≡ at + length bytes = inside.sum in
    let within : at + length bytes ≤ length text = f.within in
    record {
      tokens = f.tokens ++ token ∷ [];
      before =
          subst (λ n. Before text n rest (f.tokens ++ token ∷ [])) (sym place)
          (one_after text at bytes f.tokens token rest f.before starts);
      none_bad = one_more_good f.tokens token f.none_bad is;
      within = omega arith;
    }

pub search_found : (text : List ℕ) (at : ℕ) (bytes : List ℕ) (token : Token) (rest : List ℕ)
    (fault : TextFault)
    → Search text at bytes → StartsWith at bytes token rest → fault_of_bad token.kind token.at ≡ Some fault
    → IsLeftmostBad text fault
search_found text at bytes token rest fault f starts is =
    let left = has_token_list (token.at + length token.text) rest in
    record {
      before = f.tokens;
      token = token;
      after = left.0;
      cut = f.before.joins (token ∷ left.0) (rest, starts, left.1);
      none_before = f.none_bad;
      fault_is = is;
    }

pub search_none : (text : List ℕ) (at : ℕ) (bytes : List ℕ) → Search text at bytes → AllPass is_white bytes
    → HasNoneBad text
search_none text at bytes f white = record {
  tokens = f.tokens;
  cut = all_tokens text at bytes f.tokens f.before white;
  none_bad = f.none_bad;
}

-- a place in the text is below 2 ^ 32
pub token_within : (text : List ℕ) (at : ℕ) (bytes : List ℕ) (token : Token) (rest : List ℕ)
    → at + length bytes ≤ length text → StartsWith at bytes token rest → token.at ≤ length text
token_within text at bytes token rest within s =
    let inside : IsWithin at bytes token rest = is_within at bytes token rest s in
    let sum : (token.at + length token.text) + length rest ≡ at + length bytes = inside.sum in
    omega arith

-- a bad token is no fault of syntax
not_syntax : (kind : Kind) (at at' : ℕ) (expected : Expected)
    → fault_of_bad kind at ≡ Some (faults.Syntax at' expected) → ⊥
not_syntax BadByte at at' expected e = cc e
not_syntax BadNumber at at' expected e = cc e
not_syntax _ at at' expected e = cc e

pub bad_helps : (text : List ℕ) (fault : TextFault) → IsLeftmostBad text fault → Helps text fault
bad_helps text (faults.Syntax at expected) bad =
    absurd (not_syntax bad.token.kind bad.token.at at expected bad.fault_is)
bad_helps text _ bad = tt
