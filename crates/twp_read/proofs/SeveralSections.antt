-- The first two of several sections, in their usual spelling, lead the reader on as their tokens would. The
-- word is plural, so it needs watching until the second number.
use Rattle.std.proofs.Common.{◌≡◌, ℕ, ◌+◌, ◌≤◌, true, false, List, [], ◌∷◌, ◌++◌, Some, length, drop}
use Rattle.std.proofs.Common.{refl, ap, subst, ◌∙◌, arith, codes}
use Rattle.std.specs.Char.{is_ascii_alphabetic}
use Rattle.std.specs.List.{AllPass, prefix_len}
use Rattle.std.proofs.lemmas.List.Sums.{AllPass-from_list_all}
use Rattle.twp_grammar.specs.declared.item.Item.{Item}
use Rattle.twp_grammar.specs.declared.item.Item.TheVariants.{Sections}
use Rattle.twp_grammar.specs.declared.item.Numeral.{Numeral}
use Rattle.twp_grammar.specs.declared.tokens.Kind.TheVariants.{Sec, Stop, Comma, Number}
use Rattle.twp_grammar.specs.declared.state.State.{State}
use Rattle.twp_grammar.specs.declared.state.State.TheVariants as past
use Rattle.twp_grammar.specs.Tokens.{Token, StartsWith, is_white}
use Rattle.twp_grammar.specs.Tokens.IsToken.{good}
use Rattle.twp_grammar.specs.Tokens.IsGoodToken.{a_word, a_stop, a_comma}
use Rattle.twp_grammar.specs.Grammar.{class_of, sec, number}
use Rattle.twp_grammar.specs.Machine.{next}
use Rattle.twp_read.specs.declared.watch.ListWord.{ListWord}
use Rattle.twp_read.specs.declared.watch.ListWord.TheVariants as word
use Rattle.twp_read.specs.steps.TokenSteps.{take_token, take_number}
use Rattle.twp_read.specs.steps.Usual.{Leads, LeadsBy, IsNumberToken}
use Rattle.twp_read.specs.steps.Watching.{clouds, word_after}
use Rattle.twp_read.proofs.WatchFacts.{not_step}
use Rattle.twp_read.proofs.Leading.{made, by_token, by_then, left_after, white_leads, spaced}

no_space : AllPass is_white []
no_space = AllPass-from_list_all is_white [] refl

-- `secs` right at a place
word_by : (text : List ℕ) (at : ℕ) (state : State) (its : List Item) → next state sec ≡ Some past.SectionWord
    → drop at text ≡ codes "secs. " ++ drop (at + 6) text → at + 6 ≤ length text
    → LeadsBy word.Usual word.Sections text at state its (at + 4) past.SectionWord its
word_by text at state its is spelled within =
    let more : List ℕ = drop (at + 6) text in
    let mark : drop (at + 4) text ≡ codes ". " ++ more =
    left_after text at 4 (codes "secs. " ++ more) spelled in
    let starts : StartsWith at (drop at text) (made Sec (codes "secs") at) (drop (at + 4) text) =
    rw mark (record {
      space = [];
      white = no_space;
      spelled = spelled;
      place = omega arith;
      is = good (a_word (record {
        some = omega arith;
        all = AllPass-from_list_all is_ascii_alphabetic (codes "secs") refl;
        ends = refl;
      }) refl);
    }) in
    by_token word.Usual word.Sections text at state its (made Sec (codes "secs") at) (at + 4) past.SectionWord
    starts refl (omega arith) is refl refl

-- a space after the period
space_by : (text : List ℕ) (at : ℕ) (its : List Item)
    → drop at text ≡ codes " " ++ drop (at + 1) text → at + 1 ≤ length text
    → LeadsBy word.Sections word.Sections text at past.SectionStop its (at + 1) past.SectionStop its
space_by text at its spelled within = record {
  tokens = [];
  cut = spaced text at spelled;
  walked = refl;
  clear = tt;
  ended = refl;
  stays = λ step. cc step;
  forward = omega arith;
  within = within;
}

-- a period after the word
stop_by : (text : List ℕ) (at : ℕ) (its : List Item)
    → drop at text ≡ codes ". " ++ drop (at + 2) text → at + 2 ≤ length text
    → LeadsBy word.Sections word.Sections text at past.SectionWord its (at + 1) past.SectionStop its
stop_by text at its spelled within =
    let space : drop (at + 1) text ≡ codes " " ++ drop (at + 2) text =
    left_after text at 1 (codes ". " ++ drop (at + 2) text) spelled in
    let starts : StartsWith at (drop at text) (made Stop (codes ".") at) (drop (at + 1) text) = record {
      space = [];
      white = no_space;
      spelled = rw space spelled;
      place = omega arith;
      is = good (a_stop refl refl);
    } in
    by_token word.Sections word.Sections text at past.SectionWord its (made Stop (codes ".") at) (at + 1)
    past.SectionStop starts refl (omega arith) refl refl refl

-- `secs. `, after white space
pub secs_leads : (text : List ℕ) (from at : ℕ) (state : State) (its : List Item)
    → next state sec ≡ Some past.SectionWord → at ≡ from + prefix_len is_white (drop from text)
    → drop at text ≡ codes "secs. " ++ drop (at + 6) text → at + 6 ≤ length text
    → LeadsBy word.Usual word.Sections text from state its (at + 6) past.SectionStop its
secs_leads text from at state its is here spelled within =
    let more : List ℕ = drop (at + 6) text in
    let whole : List ℕ = codes "secs. " ++ more in
    let mark : drop (at + 4) text ≡ codes ". " ++ more = left_after text at 4 whole spelled in
    let space : drop (at + 5) text ≡ codes " " ++ more = left_after text at 5 whole spelled in
    let mark_end : (at + 4) + 2 ≡ at + 6 = omega arith in
    let stop_end : (at + 4) + 1 ≡ at + 5 = omega arith in
    let end : (at + 5) + 1 ≡ at + 6 = omega arith in
    by_then word.Usual word.Usual word.Sections text from state its at state its (at + 6) past.SectionStop its
    (white_leads text from at state its here (omega arith) (not_step sec state past.SectionWord refl is))
    (by_then word.Usual word.Sections word.Sections text at state its (at + 4) past.SectionWord its (at + 6)
    past.SectionStop its
    (word_by text at state its is spelled within)
    (by_then word.Sections word.Sections word.Sections text (at + 4) past.SectionWord its (at + 5)
    past.SectionStop its (at + 6) past.SectionStop its
    (subst (λ (n : ℕ). LeadsBy word.Sections word.Sections text (at + 4) past.SectionWord its n
    past.SectionStop its) stop_end
    (stop_by text (at + 4) its (rw mark_end mark) (omega arith)))
    (subst (λ (n : ℕ). LeadsBy word.Sections word.Sections text (at + 5) past.SectionStop its n
    past.SectionStop its) end
    (space_by text (at + 5) its (rw end space) (omega arith)))))

-- a comma after the first number
comma_by : (text : List ℕ) (at : ℕ) (its : List Item)
    → drop at text ≡ codes "," ++ drop (at + 1) text → at + 1 ≤ length text
    → LeadsBy word.Sections word.Sections text at past.SectionNumber its (at + 1) past.SectionComma its
comma_by text at its spelled within =
    let starts : StartsWith at (drop at text) (made Comma (codes ",") at) (drop (at + 1) text) = record {
      space = [];
      white = no_space;
      spelled = spelled;
      place = omega arith;
      is = good (a_comma refl refl);
    } in
    by_token word.Sections word.Sections text at past.SectionNumber its (made Comma (codes ",") at) (at + 1)
    past.SectionComma starts refl within refl refl refl

-- a number
number_by : (last : ListWord) (text : List ℕ) (from : ℕ) (state after : State) (its : List Item)
    (it : Numeral)
    (end : ℕ)
    → IsNumberToken text from it end → next state number ≡ Some after
    → ((token : Token) → clouds false word.Sections state from token (Number it.value) ≡ false)
    → ((bytes : List ℕ) → word_after (Number it.value) bytes (next state number) word.Sections ≡ last)
    → LeadsBy word.Sections last text from state its end after (take_number state it its)
number_by last text from state after its it end is step clear ended =
    let grown : take_token state is.token.kind is.token.at its ≡ take_number state it its =
    ap (λ k. take_token state k is.token.at its) is.kind_is
    ∙ ap (λ n. take_token state (Number it.value) n its) is.here in
    subst (λ (js : List Item). LeadsBy word.Sections last text from state its end after js) grown
    (by_token word.Sections last text from state its is.token end after is.starts is.ends is.within
    (ap (λ k. next state (class_of k)) is.kind_is ∙ step)
    (ap (λ k. clouds false word.Sections state from is.token k) is.kind_is ∙ clear is.token)
    (ap (λ k. word_after k is.token.text (next state (class_of k)) word.Sections) is.kind_is
    ∙ ended is.token.text))

-- the word, the first number, the comma, and the second number
pub several_lead : (text : List ℕ) (from : ℕ) (state : State) (its : List Item) (at : ℕ) (first : Numeral)
    (mid : ℕ) (second : Numeral) (end : ℕ)
    → LeadsBy word.Usual word.Sections text from state its at past.SectionStop its
    → IsNumberToken text at first mid → drop mid text ≡ codes "," ++ drop (mid + 1) text
    → mid + 1 ≤ length text → IsNumberToken text (mid + 1) second end
    → Leads text from state its end past.ListNumber
    (Sections second second true ∷ Sections first first true ∷ its)
several_lead text from state its at first mid second end begun is spelled within more =
    let one : List Item = Sections first first true ∷ its in
    let two : List Item = Sections second second true ∷ one in
    by_then word.Usual word.Sections word.Usual text from state its at past.SectionStop its end
    past.ListNumber
    two begun
    (by_then word.Sections word.Sections word.Usual text at past.SectionStop its mid past.SectionNumber one
    end
    past.ListNumber two
    (number_by word.Sections text at past.SectionStop past.SectionNumber its first mid is refl (λ token. refl)
    (λ bytes. refl))
    (by_then word.Sections word.Sections word.Usual text mid past.SectionNumber one (mid + 1)
    past.SectionComma
    one end past.ListNumber two
    (comma_by text mid one spelled within)
    (number_by word.Usual text (mid + 1) past.SectionComma past.ListNumber one second end more refl
    (λ token. refl) (λ bytes. refl))))
