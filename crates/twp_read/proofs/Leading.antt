-- What leads the reader on, token by token: words, marks and white space.
use Rattle.std.proofs.Common.{◌≡◌, ℕ, ◌+◌, ◌≤◌, true, false, List, [], ◌∷◌, ◌++◌, Some, length, take, drop}
use Rattle.std.proofs.Common.{refl}
use Rattle.std.proofs.Common.{sym, ap, subst, ◌∙◌, append_assoc, arith, codes, length-drop, length-append}
use Rattle.std.specs.Char.{is_ascii_alphabetic}
use Rattle.std.specs.List.{AllPass, prefix_len, list_all}
use Rattle.std.proofs.lemmas.List.Folds.{length-prefix_len}
use Rattle.std.proofs.lemmas.List.{take-append-drop, drop-drop}
use Rattle.std.proofs.lemmas.List.Sums.{AllPass-from_list_all, list_all-from_AllPass}
use Rattle.twp_grammar.specs.declared.item.Item.{Item}
use Rattle.twp_grammar.specs.declared.tokens.Kind.{Kind}
use Rattle.twp_grammar.specs.declared.tokens.Kind.TheVariants.{Half, Quarter, Of, The, And, Comma}
use Rattle.twp_grammar.specs.declared.state.State.{State}
use Rattle.twp_grammar.specs.declared.state.State.TheVariants as past
use Rattle.twp_grammar.specs.declared.state.State.TheVariants.{Start}
use Rattle.twp_grammar.specs.Tokens.{Token, StartsWith, HasTokens, IsGoodToken, is_white}
use Rattle.twp_grammar.specs.Tokens.IsToken.{good}
use Rattle.twp_grammar.specs.Tokens.IsGoodToken.{a_word, a_half, a_quarter, a_comma}
use Rattle.twp_grammar.specs.Grammar.{class_of}
use Rattle.twp_grammar.specs.Machine.{next}
use Rattle.twp_read.specs.steps.TokenSteps.{take_token, run}
use Rattle.twp_read.specs.declared.watch.ListWord.{ListWord}
use Rattle.twp_read.specs.declared.watch.ListWord.TheVariants as word
use Rattle.twp_read.specs.steps.Usual.{Leads, LeadsBy, end_of}
use Rattle.twp_read.specs.steps.Watching.{is_step, is_usual, end_from, clouds, word_after, word_from}
use Rattle.twp_read.specs.steps.Watching.{Unclouded}
use Rattle.twp_read.proofs.WatchFacts.{stays_then, no_white_after_step, unclouded_then, word_then, word_end}
use Rattle.twp_read.proofs.WatchFacts.{moved_unclouded, one_unclouded, no_cloud, word_stays}
use Rattle.twp_grammar.proofs.TokenFacts.{all_white}
use Rattle.twp_grammar.proofs.WordFacts.{both}
use Rattle.twp_read.proofs.Reading.{run-append, go_on}
use Rattle.twp_read.proofs.ReaderFacts.{Front}

-- the reader continues with what leads on
unfoldable pub goes_further : (text : List ℕ) (at : ℕ) (state : State) (its : List Item) (to : ℕ)
    (after : State)
    (grown : List Item)
    → Front text at (drop at text) state its → Leads text at state its to after grown
    → Front text to (drop to text) after grown
goes_further text at state its to after grown f l =
    let within : to ≤ length text = l.within in
    record {
      tokens = f.tokens ++ l.tokens;
      before =
          record { joins = λ left has. rw append_assoc (f.before.joins (l.tokens ++ left) (l.cut left has)) };
      walked = run-append (Some Start) [] f.tokens l.tokens ∙ ap (λ o. go_on o l.tokens) f.walked ∙ l.walked;
      within = rw (length-drop to text) (omega arith);
    }

-- what leads to where more leads on
pub by_then : (it mid_word last : ListWord) (text : List ℕ) (at : ℕ) (state : State) (its : List Item)
    (mid : ℕ)
    (between : State) (some : List Item) (to : ℕ) (after : State) (grown : List Item)
    → LeadsBy it mid_word text at state its mid between some
    → LeadsBy mid_word last text mid between some to after grown
    → LeadsBy it last text at state its to after grown
by_then it mid_word last text at state its mid between some to after grown f g =
    let first : at ≤ mid = f.forward in
    let then : mid ≤ to = g.forward in
    let moved : Unclouded false mid_word (end_from at f.tokens) (Some between) g.tokens =
    moved_unclouded false mid_word between mid (end_from at f.tokens) g.tokens f.stays g.clear in
    record {
      tokens = f.tokens ++ g.tokens;
      cut = λ left has. rw append_assoc (f.cut (g.tokens ++ left) (g.cut left has));
      walked = run-append (Some state) its f.tokens g.tokens ∙ ap (λ o. go_on o g.tokens) f.walked ∙ g.walked;
      clear =
          unclouded_then false it at (Some state) its between some f.tokens g.tokens f.clear f.walked
          (subst (λ (w : ListWord). Unclouded false w (end_from at f.tokens) (Some between) g.tokens)
          (sym f.ended) moved);
      ended =
          word_then it (Some state) its between some f.tokens g.tokens f.walked
          ∙ ap (λ (w : ListWord). word_from w (Some between) g.tokens) f.ended
          ∙ g.ended;
      stays = stays_then at mid to between some after grown f.tokens g.tokens f.stays g.walked g.stays;
      forward = omega arith;
      within = g.within;
    }

pub leads_then : (text : List ℕ) (at : ℕ) (state : State) (its : List Item) (mid : ℕ) (between : State)
    (some : List Item) (to : ℕ) (after : State) (grown : List Item)
    → Leads text at state its mid between some → Leads text mid between some to after grown
    → Leads text at state its to after grown
leads_then text at state its mid between some to after grown f g =
    by_then word.Usual word.Usual word.Usual text at state its mid between some to after grown f g

-- one token
pub by_token : (it last : ListWord) (text : List ℕ) (at : ℕ) (state : State) (its : List Item) (token : Token)
    (to : ℕ) (after : State)
    → StartsWith at (drop at text) token (drop to text) → end_of token ≡ to → to ≤ length text
    → next state (class_of token.kind) ≡ Some after → clouds false it state at token token.kind ≡ false
    → word_after token.kind token.text (next state (class_of token.kind)) it ≡ last
    → LeadsBy it last text at state its to after (take_token state token.kind token.at its)
by_token it last text at state its token to after starts ends within is clear ended =
    let place : token.at ≡ at + length starts.space = starts.place in
    record {
      tokens = token ∷ [];
      cut = λ left has. (
        drop to text,
        starts,
        subst (λ (n : ℕ). HasTokens n (drop to text) left) (sym ends) has,
      );
      walked = ap (λ o. run o (take_token state token.kind token.at its) []) is;
      clear = one_unclouded false it at state after token clear is;
      ended =
          word_end (word_after token.kind token.text (next state (class_of token.kind)) it)
          (next state (class_of token.kind))
          ∙ ended;
      stays = λ _. sym ends;
      forward = omega arith;
      within = within;
    }

pub leads_token : (text : List ℕ) (at : ℕ) (state : State) (its : List Item) (token : Token) (to : ℕ)
    (after : State)
    → StartsWith at (drop at text) token (drop to text) → end_of token ≡ to → to ≤ length text
    → next state (class_of token.kind) ≡ Some after → is_usual state at token token.kind ≡ true
    → Leads text at state its to after (take_token state token.kind token.at its)
leads_token text at state its token to after starts ends within is usual =
    by_token word.Usual word.Usual text at state its token to after starts ends within is
    (no_cloud false state at token token.kind usual)
    (word_stays state at token token.kind (next state (class_of token.kind)) usual)

-- a space before tokens
pub spaced : (text : List ℕ) (at : ℕ) → drop at text ≡ codes " " ++ drop (at + 1) text → (left : List Token)
    → HasTokens (at + 1) (drop (at + 1) text) left → HasTokens at (drop at text) left
spaced text at spelled [] has =
    subst (λ (b : List ℕ). AllPass is_white b) (sym spelled)
    (AllPass-from_list_all is_white (32 ∷ drop (at + 1) text)
    (list_all-from_AllPass is_white (drop (at + 1) text) has))
spaced text at spelled (token ∷ tokens) (rest, starts, more) =
    let place : token.at ≡ (at + 1) + length starts.space = starts.place in (
      rest,
      record {
        space = 32 ∷ starts.space;
        white =
            AllPass-from_list_all is_white (32 ∷ starts.space)
            (list_all-from_AllPass is_white starts.space starts.white);
        spelled = spelled ∙ ap (λ b. 32 ∷ b) starts.spelled;
        place = omega arith;
        is = starts.is;
      },
      more,
    )

pub leads_space : (text : List ℕ) (at : ℕ) (state : State) (its : List Item)
    → drop at text ≡ codes " " ++ drop (at + 1) text → at + 1 ≤ length text → is_step state ≡ false
    → Leads text at state its (at + 1) state its
leads_space text at state its spelled within no_step =
    record {
      tokens = [];
      cut = spaced text at spelled;
      walked = refl;
      clear = tt;
      ended = refl;
      stays = λ step. no_white_after_step state at (at + 1) step no_step;
      forward = omega arith;
      within = within;
    }

abbrev pub made : Kind → List ℕ → ℕ → Token
made kind text at = record { kind = kind; text = text; at = at }

-- a half and a quarter, right at a place
half_starts : (text : List ℕ) (at : ℕ) → drop at text ≡ codes "1/2" ++ drop (at + 3) text
    → StartsWith at (drop at text) (made Half (codes "1/2") at) (drop (at + 3) text)
half_starts text at spelled =
    record {
      space = [];
      white = AllPass-from_list_all is_white [] refl;
      spelled = spelled;
      place = omega arith;
      is = good (a_half refl refl);
    }

quarter_starts : (text : List ℕ) (at : ℕ) → drop at text ≡ codes "1/4" ++ drop (at + 3) text
    → StartsWith at (drop at text) (made Quarter (codes "1/4") at) (drop (at + 3) text)
quarter_starts text at spelled =
    record {
      space = [];
      white = AllPass-from_list_all is_white [] refl;
      spelled = spelled;
      place = omega arith;
      is = good (a_quarter refl refl);
    }

-- a fraction after the letters of its step
pub half_leads : (text : List ℕ) (at : ℕ) (its : List Item) → drop at text ≡ codes "1/2" ++ drop (at + 3) text
    → at + 3 ≤ length text → Leads text at past.Side its (at + 3) past.Step its
half_leads text at its spelled within =
    leads_token text at past.Side its (made Half (codes "1/2") at) (at + 3) past.Step
    (half_starts text at spelled) refl within refl refl

pub quarter_leads : (text : List ℕ) (at : ℕ) (its : List Item)
    → drop at text ≡ codes "1/4" ++ drop (at + 3) text → at + 3 ≤ length text
    → Leads text at past.Corner its (at + 3) past.Step its
quarter_leads text at its spelled within =
    leads_token text at past.Corner its (made Quarter (codes "1/4") at) (at + 3) past.Step
    (quarter_starts text at spelled) refl within refl refl

-- what is left of a text after some bytes that it continues with
pub left_after : (text : List ℕ) (at n : ℕ) (bytes : List ℕ) → drop at text ≡ bytes
    → drop (at + n) text ≡ drop n bytes
left_after text at n bytes spelled = sym (drop-drop n at text) ∙ ap (λ b. drop n b) spelled

-- `of` and `the` after a step, and the space after them
pub of_the_leads : (text : List ℕ) (at : ℕ) (its : List Item)
    → drop at text ≡ codes " of the " ++ drop (at + 8) text → at + 8 ≤ length text
    → Leads text at past.Step its (at + 8) past.OfThe its
of_the_leads text at its spelled within =
    let more : List ℕ = drop (at + 8) text in
    let after_of_word : drop (at + 3) text ≡ codes " the " ++ more =
    left_after text at 3 (codes " of the " ++ more) spelled in
    let after_the : drop (at + 7) text ≡ codes " " ++ more =
    left_after text at 7 (codes " of the " ++ more) spelled in
    let of_starts : StartsWith at (drop at text) (made Of (codes "of") (at + 1)) (drop (at + 3) text) =
    record {
      space = codes " ";
      white = AllPass-from_list_all is_white (codes " ") refl;
      spelled = rw after_of_word spelled;
      place = refl;
      is = rw after_of_word (good (a_word (record {
        some = omega arith;
        all = AllPass-from_list_all is_ascii_alphabetic (codes "of") refl;
        ends = refl;
      }) refl));
    } in
    let the_starts : StartsWith (at + 3) (drop (at + 3) text) (made The (codes "the") (at + 4))
    (drop (at + 7) text) = record {
      space = codes " ";
      white = AllPass-from_list_all is_white (codes " ") refl;
      spelled = rw after_the after_of_word;
      place = omega arith;
      is = rw after_the (good (a_word (record {
        some = omega arith;
        all = AllPass-from_list_all is_ascii_alphabetic (codes "the") refl;
        ends = refl;
      }) refl));
    } in
    let the_end : (at + 7) + 1 ≡ at + 8 = omega arith in
    let space : drop (at + 7) text ≡ codes " " ++ drop ((at + 7) + 1) text = rw the_end after_the in
    leads_then text at past.Step its (at + 7) past.OfThe its (at + 8) past.OfThe its
    (leads_then text at past.Step its (at + 3) past.Of its (at + 7) past.OfThe its
    (leads_token text at past.Step its (made Of (codes "of") (at + 1)) (at + 3) past.Of of_starts
    (omega arith) (omega arith) refl refl)
    (leads_token text (at + 3) past.Of its (made The (codes "the") (at + 4)) (at + 7) past.OfThe the_starts
    (omega arith) (omega arith) refl refl))
    (subst (λ (n : ℕ). Leads text (at + 7) past.OfThe its n past.OfThe its) the_end
    (leads_space text (at + 7) past.OfThe its space (omega arith) refl))

-- a mark right at a place
pub record IsMark (byte : ℕ) (kind : Kind) : Type 0 where
  pub is : (rest : List ℕ) → IsGoodToken (byte ∷ []) rest kind
  pub kept : (state : State) (at : ℕ) (its : List Item) → take_token state kind at its ≡ its
  pub usual : (state : State) (end : ℕ) (token : Token) → is_usual state end token kind ≡ true

pub the_comma : IsMark 44 Comma
the_comma = record {
  is = λ rest. a_comma refl refl;
  kept = λ state at its. refl;
  usual = λ state end token. refl;
}

pub mark_leads : (text : List ℕ) (at byte : ℕ) (kind : Kind) (state after : State) (its : List Item)
    → IsMark byte kind → next state (class_of kind) ≡ Some after → drop at text ≡ byte ∷ drop (at + 1) text
    → at + 1 ≤ length text → Leads text at state its (at + 1) after its
mark_leads text at byte kind state after its mark is spelled within =
    let starts : StartsWith at (drop at text) (made kind (byte ∷ []) at) (drop (at + 1) text) =
    record {
      space = [];
      white = AllPass-from_list_all is_white [] refl;
      spelled = spelled;
      place = omega arith;
      is = good (mark.is (drop (at + 1) text));
    } in
    subst (λ (js : List Item). Leads text at state its (at + 1) after js) (mark.kept state at its)
    (leads_token text at state its (made kind (byte ∷ []) at) (at + 1) after starts refl within is
    (mark.usual state at (made kind (byte ∷ []) at)))

-- `and` after the comma of a part, and the space after it
pub and_leads : (text : List ℕ) (at : ℕ) (its : List Item) → drop at text ≡ codes "and " ++ drop (at + 4) text
    → at + 4 ≤ length text → Leads text at past.PartComma its (at + 4) past.BeforePart its
and_leads text at its spelled within =
    let space : drop (at + 3) text ≡ codes " " ++ drop (at + 4) text =
    left_after text at 3 (codes "and " ++ drop (at + 4) text) spelled in
    let end : (at + 3) + 1 ≡ at + 4 = omega arith in
    let starts : StartsWith at (drop at text) (made And (codes "and") at) (drop (at + 3) text) = record {
      space = [];
      white = AllPass-from_list_all is_white [] refl;
      spelled = rw space spelled;
      place = omega arith;
      is = rw space (good (a_word (record {
        some = omega arith;
        all = AllPass-from_list_all is_ascii_alphabetic (codes "and") refl;
        ends = refl;
      }) refl));
    } in
    leads_then text at past.PartComma its (at + 3) past.BeforePart its (at + 4) past.BeforePart its
    (leads_token text at past.PartComma its (made And (codes "and") at) (at + 3) past.BeforePart starts refl
    (omega arith) refl refl)
    (subst (λ (n : ℕ). Leads text (at + 3) past.BeforePart its n past.BeforePart its) end
    (leads_space text (at + 3) past.BeforePart its (rw end space) (omega arith) refl))

white_append : (xs ys : List ℕ) → list_all is_white xs ≡ true → list_all is_white ys ≡ true
    → list_all is_white (xs ++ ys) ≡ true
white_append [] ys h k = k
white_append (x ∷ xs) ys h k =
    let parts = both (is_white x) (list_all is_white xs) h in
    rw parts.0 (white_append xs ys parts.1 k)

-- a token after white space starts where the white space does
pub after_space : (text : List ℕ) (from at : ℕ) (token : Token) (rest : List ℕ)
    → at ≡ from + prefix_len is_white (drop from text) → StartsWith at (drop at text) token rest
    → StartsWith from (drop from text) token rest
after_space text from at token rest is s =
    let bytes : List ℕ = drop from text in
    let n : ℕ = prefix_len is_white bytes in
    let left : drop n bytes ≡ drop at text = drop-drop n from text ∙ ap (λ m. drop m text) (sym is) in
    let size : length (take n bytes) ≡ n = length-prefix_len is_white bytes in
    let place : token.at ≡ at + length s.space = s.place in
    record {
      space = take n bytes ++ s.space;
      white =
          AllPass-from_list_all is_white _
          (white_append (take n bytes) s.space
          (list_all-from_AllPass is_white (take n bytes) (all_white bytes))
          (list_all-from_AllPass is_white s.space s.white));
      spelled =
          sym (take-append-drop n bytes)
          ∙ ap (λ b. take n bytes ++ b) (left ∙ s.spelled)
          ∙ sym (append_assoc (take n bytes) s.space (token.text ++ rest));
      place = rw (length-append (take n bytes) s.space, size) (omega arith);
      is = s.is;
    }

-- white space leads on
pub white_leads : (text : List ℕ) (from at : ℕ) (state : State) (its : List Item)
    → at ≡ from + prefix_len is_white (drop from text) → at ≤ length text → is_step state ≡ false
    → Leads text from state its at state its
white_leads text from at state its is within no_step =
    record {
      tokens = [];
      cut = before;
      walked = refl;
      clear = tt;
      ended = refl;
      stays = λ step. no_white_after_step state from at step no_step;
      forward = omega arith;
      within = within;
    }
  where
    bytes : List ℕ
    bytes = drop from text

    after : drop (prefix_len is_white bytes) bytes ≡ drop at text
    after = drop-drop (prefix_len is_white bytes) from text ∙ ap (λ m. drop m text) (sym is)

    before : (left : List Token) → HasTokens at (drop at text) left → HasTokens from (drop from text) left
    before [] has =
        let front : List ℕ = take (prefix_len is_white bytes) bytes in
        let all : list_all is_white (front ++ drop at text) ≡ true =
        white_append front (drop at text) (list_all-from_AllPass is_white front (all_white bytes))
        (list_all-from_AllPass is_white (drop at text) has) in
        subst (λ (b : List ℕ). AllPass is_white b)
        (ap (λ b. front ++ b) (sym after) ∙ take-append-drop (prefix_len is_white bytes) bytes)
        (AllPass-from_list_all is_white (front ++ drop at text) all)
    before (token ∷ tokens) (rest, starts, more) =
        (rest, after_space text from at token rest is starts, more)

-- a comma after a part, and the space after it
pub comma_space_leads : (text : List ℕ) (at : ℕ) (its : List Item)
    → drop at text ≡ codes ", " ++ drop (at + 2) text → at + 2 ≤ length text
    → Leads text at past.Step its (at + 2) past.PartComma its
comma_space_leads text at its spelled within =
    let space : drop (at + 1) text ≡ codes " " ++ drop (at + 2) text =
    left_after text at 1 (codes ", " ++ drop (at + 2) text) spelled in
    let end : (at + 1) + 1 ≡ at + 2 = omega arith in
    leads_then text at past.Step its (at + 1) past.PartComma its (at + 2) past.PartComma its
    (mark_leads text at 44 Comma past.Step past.PartComma its the_comma refl (rw space spelled) (omega arith))
    (subst (λ (n : ℕ). Leads text (at + 1) past.PartComma its n past.PartComma its) end
    (leads_space text (at + 1) past.PartComma its (rw end space) (omega arith) refl))

-- a comma after a part, and the white space after it
pub comma_leads : (text : List ℕ) (at after : ℕ) (its : List Item)
    → drop at text ≡ codes "," ++ drop (at + 1) text → at + 1 ≤ length text
    → after ≡ (at + 1) + prefix_len is_white (drop (at + 1) text) → after ≤ length text
    → Leads text at past.Step its after past.PartComma its
comma_leads text at after its spelled begins is within =
    leads_then text at past.Step its (at + 1) past.PartComma its after past.PartComma its
    (mark_leads text at 44 Comma past.Step past.PartComma its the_comma refl spelled begins)
    (white_leads text (at + 1) after past.PartComma its is within refl)
