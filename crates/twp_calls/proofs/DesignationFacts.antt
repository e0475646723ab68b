-- What is read of a text is the township that it spells, or where it goes wrong.
use Rattle.std.proofs.Common.{◌≡◌, ℕ, suc, ◌+◌, ◌<◌, ◌≤◌, ◌⊎◌, Bool, true, false, List, [], ◌∷◌}
use Rattle.std.proofs.Common.{◌++◌}
use Rattle.std.proofs.Common.{Option, Some, None, length, take, drop, refl, sym, ap}
use Rattle.std.proofs.Common.{subst}
use Rattle.std.proofs.Common.{◌∙◌, inl, inr, arith}
use Rattle.std.specs.List.{AllPass}
use Rattle.std.proofs.lemmas.List.{append-nil}
use Rattle.twp_grid.specs.Finding.{Finds}
use Rattle.twp_grid.specs.Townships.{Designation}
use Rattle.twp_grammar.specs.Tokens.{Token, HasTokens, is_white}
use Rattle.twp_grammar.specs.Cutting.{IsFirstIn}
use Rattle.twp_grammar.proofs.TokenFacts.{has_token_list, one_token_list}
use Rattle.twp_read.specs.TextFaults.{TEXT_LIMIT, refusal, place_of_token}
use Rattle.twp_calls.specs.declared.designation_mark.DesignationMark.{DesignationMark}
use Rattle.twp_calls.specs.declared.designation_parts.DesignationParts.{DesignationParts}
use Rattle.twp_calls.specs.declared.designation_stage.DesignationStage.{DesignationStage}
use Rattle.twp_calls.specs.declared.designation_stage.DesignationStage.TheVariants.{Start}
use Rattle.twp_calls.specs.declared.designation_reading.DesignationProgress.{DesignationProgress}
use Rattle.twp_calls.specs.DesignationTexts.{MarkSort, sort_of, sorts, SpellingForm, spelling_forms}
use Rattle.twp_calls.specs.DesignationTexts.{AreFormed}
use Rattle.twp_calls.specs.DesignationTexts.{mark_of_token}
use Rattle.twp_calls.specs.DesignationTexts.{with_mark, no_parts, with_tokens, AreOf, Spell, IsSpelling}
use Rattle.twp_calls.specs.DesignationTexts.{number_of_refusal, IsNoDesignation}
use Rattle.twp_calls.specs.DesignationTexts.{goes_wrong}
use Rattle.twp_calls.specs.steps.DesignationSteps.{next_stage, ends_spelling, read_up_to, go_to_stage}
use Rattle.twp_calls.specs.steps.DesignationSteps.{read_marks}
use Rattle.twp_calls.specs.steps.DesignationSteps.{IsDesignationProgress, IsOfDesignationProgress}
use Rattle.twp_calls.proofs.DesignationForms.{taken_on, left_after, have_none}
use Rattle.twp_calls.proofs.DesignationForms.{none_had}
use Rattle.twp_calls.proofs.DesignationForms.{way_leads, nothing_left}
use Rattle.twp_calls.proofs.DesignationTable.{way_out, rest_of, rest_after, agrees, ends_agree, leads_out}

-- the township of what was read, by whether it is whole
pub of_whole : (progress : DesignationProgress) (found : Option Designation) → progress.whole ≡ true
    → Finds found (AreOf progress.parts) → Finds found (IsOfDesignationProgress progress)
of_whole progress None whole f = λ value of. f value of.1
of_whole progress (Some township) whole f = ((whole, f.0), λ value of. f.1 value of.1)

pub of_part : (progress : DesignationProgress) → progress.whole ≡ false
    → Finds None (IsOfDesignationProgress progress)
of_part progress part = λ value of. let never : false ≡ true = sym part ∙ of.0 in cc never

pub ruleset finding = (of_whole, of_part)

-- the tokens have the forms that a stage leaves
record Whole (tokens : List Token) (stage : DesignationStage) (parts : DesignationParts) (end : ℕ)
    (progress : DesignationProgress) : Type 0 where
  pub whole : progress.whole ≡ true
  pub formed : AreFormed (rest_of stage) (sorts tokens)
  pub parts_are : progress.parts ≡ with_tokens parts tokens
  pub place : progress.at ≡ end

-- or they go wrong
record Wrong (tokens : List Token) (stage : DesignationStage) (parts : DesignationParts) (end : ℕ)
    (progress : DesignationProgress) : Type 0 where
  pub part : progress.whole ≡ false
  pub i : ℕ
  pub within : i ≤ length tokens
  pub before : (more : List MarkSort) × AreFormed (rest_of stage) (sorts (take i tokens) ++ more)
  pub here : i < length tokens
      → ¬ ((more : List MarkSort) × AreFormed (rest_of stage) (sorts (take (suc i) tokens) ++ more))
  pub at_end : i ≡ length tokens → ¬ AreFormed (rest_of stage) (sorts tokens)
  pub parts_are : progress.parts ≡ with_tokens parts (take i tokens)
  pub place : progress.at ≡ place_of_token tokens i end

abbrev Outcome : List Token → DesignationStage → DesignationParts → ℕ → DesignationProgress → Type 0
Outcome tokens stage parts end progress =
    Whole tokens stage parts end progress ⊎ Wrong tokens stage parts end progress

end_of_marks : (x : Bool) (stage : DesignationStage) (parts : DesignationParts) (end : ℕ)
    → ends_spelling stage ≡ x
    → Outcome [] stage parts end (read_up_to parts end x)
end_of_marks true stage parts end e = inl (record {
  whole = refl;
  formed = have_none (rest_of stage) (ends_agree stage ∙ e);
  parts_are = refl;
  place = refl;
})
end_of_marks false stage parts end e = inr (record {
  part = refl;
  i = 0;
  within = omega arith;
  before = (way_out stage, way_leads (rest_of stage) (way_out stage) (leads_out stage));
  here = λ below more. absurd (omega (arith, below));
  at_end = λ at_length formed.
      let never : false ≡ true = sym e ∙ sym (ends_agree stage) ∙ none_had (rest_of stage) formed in cc never;
  parts_are = refl;
  place = refl;
})

-- what a stage leaves after a token that leads to another stage, or to none
left_there : (o : Option DesignationStage) (stage : DesignationStage) (sort : MarkSort) (cs : List MarkSort)
    → next_stage stage sort ≡ o
    → AreFormed (rest_of stage) (sort ∷ cs) → AreFormed (rest_after o) cs
left_there o stage sort cs e formed =
    subst (λ (fs : List SpellingForm). AreFormed fs cs) (agrees stage sort ∙ ap rest_after e)
    (left_after sort (rest_of stage) cs formed)

taken_there : (after stage : DesignationStage) (sort : MarkSort) (cs : List MarkSort)
    → next_stage stage sort ≡ Some after
    → AreFormed (rest_of after) cs → AreFormed (rest_of stage) (sort ∷ cs)
taken_there after stage sort cs e formed =
    taken_on sort (rest_of stage) cs
    (subst (λ (fs : List SpellingForm). AreFormed fs cs) (sym (agrees stage sort ∙ ap rest_after e)) formed)

token_taken : (token : Token) (tokens : List Token) (stage after : DesignationStage)
    (parts : DesignationParts) (end : ℕ)
    (progress : DesignationProgress)
    → next_stage stage (sort_of (mark_of_token token)) ≡ Some after
    → Outcome tokens after (with_mark parts (mark_of_token token)) end progress
    → Outcome (token ∷ tokens) stage parts end progress
token_taken token tokens stage after parts end progress e (inl w) = inl (record {
  whole = w.whole;
  formed = taken_there after stage (sort_of (mark_of_token token)) (sorts tokens) e w.formed;
  parts_are = w.parts_are;
  place = w.place;
})
token_taken token tokens stage after parts end progress e (inr w) =
    let sort : MarkSort = sort_of (mark_of_token token) in
    let i : ℕ = w.i in
    let within : i ≤ length tokens = w.within in
    inr (record {
      part = w.part;
      i = suc i;
      within = omega arith;
      before =
          (w.before.0, taken_there after stage sort (sorts (take i tokens) ++ w.before.0) e w.before.1);
      here = λ below formed.
          let inside : i < length tokens = omega (arith, below) in
          w.here inside
          (formed.0, left_there (Some after) stage sort (sorts (take (suc i) tokens) ++ formed.0) e formed.1);
      at_end = λ at_length formed.
          let same : i ≡ length tokens = omega (arith, at_length) in
          w.at_end same (left_there (Some after) stage sort (sorts tokens) e formed);
      parts_are = w.parts_are;
      place = w.place;
    })

token_stops : (token : Token) (tokens : List Token) (stage : DesignationStage) (parts : DesignationParts)
    (end : ℕ)
    → next_stage stage (sort_of (mark_of_token token)) ≡ None
    → Outcome (token ∷ tokens) stage parts end (read_up_to parts token.at false)
token_stops token tokens stage parts end e =
    let sort : MarkSort = sort_of (mark_of_token token) in
    inr (record {
      part = refl;
      i = 0;
      within = omega arith;
      before = (way_out stage, way_leads (rest_of stage) (way_out stage) (leads_out stage));
      here = λ below formed. nothing_left [] formed.0 refl (left_there None stage sort formed.0 e formed.1);
      at_end = λ at_length formed. absurd (omega (arith, at_length));
      parts_are = refl;
      place = refl;
    })

after_token : (o : Option DesignationStage) (token : Token) (tokens : List Token) (stage : DesignationStage)
    (parts : DesignationParts) (end : ℕ)
    → next_stage stage (sort_of (mark_of_token token)) ≡ o
    → ((after : DesignationStage) → Outcome tokens after (with_mark parts (mark_of_token token)) end
    (read_marks tokens after (with_mark parts (mark_of_token token)) end))
    → Outcome (token ∷ tokens) stage parts end
    (go_to_stage o (λ after. read_marks tokens after (with_mark parts (mark_of_token token)) end)
    (read_up_to parts token.at false))
after_token None token tokens stage parts end e further = token_stops token tokens stage parts end e
after_token (Some after) token tokens stage parts end e further =
    token_taken token tokens stage after parts end
    (read_marks tokens after (with_mark parts (mark_of_token token)) end) e (further after)

outcome : (tokens : List Token) (stage : DesignationStage) (parts : DesignationParts) (end : ℕ)
    → Outcome tokens stage parts end (read_marks tokens stage parts end)
outcome [] stage parts end = end_of_marks (ends_spelling stage) stage parts end refl
outcome (token ∷ tokens) stage parts end =
    after_token (next_stage stage (sort_of (mark_of_token token))) token tokens stage parts end refl
    (λ after. outcome tokens after (with_mark parts (mark_of_token token)) end)

-- tokens that have a form are read to their end
formed_after : (o : Option DesignationStage) (token : Token) (tokens : List Token) (stage : DesignationStage)
    (parts : DesignationParts) (end : ℕ)
    → next_stage stage (sort_of (mark_of_token token)) ≡ o
    → AreFormed (rest_of stage) (sort_of (mark_of_token token) ∷ sorts tokens)
    → ((after : DesignationStage) → AreFormed (rest_of after) (sorts tokens)
    → (read_marks tokens after (with_mark parts (mark_of_token token)) end).whole ≡ true)
    → (go_to_stage o (λ after. read_marks tokens after (with_mark parts (mark_of_token token)) end)
    (read_up_to parts token.at false)).whole ≡ true
formed_after None token tokens stage parts end e formed further =
    absurd (nothing_left [] (sorts tokens) refl
    (left_there None stage (sort_of (mark_of_token token)) (sorts tokens) e formed))
formed_after (Some after) token tokens stage parts end e formed further =
    further after (left_there (Some after) stage (sort_of (mark_of_token token)) (sorts tokens) e formed)

formed_whole : (tokens : List Token) (stage : DesignationStage) (parts : DesignationParts) (end : ℕ)
    → AreFormed (rest_of stage) (sorts tokens) → (read_marks tokens stage parts end).whole ≡ true
formed_whole [] stage parts end formed = sym (ends_agree stage) ∙ none_had (rest_of stage) formed
formed_whole (token ∷ tokens) stage parts end formed =
    formed_after (next_stage stage (sort_of (mark_of_token token))) token tokens stage parts end refl formed
    (λ after. formed_whole tokens after (with_mark parts (mark_of_token token)) end)

-- where reading is between two tokens of a text
pub record Standing (text : List ℕ) (at : ℕ) (stage : DesignationStage) (parts : DesignationParts)
    : Type 0 where
  pub within : at ≤ length text
  pub joins : (left : List Token) → HasTokens at (drop at text) left
      → (tokens : List Token) × HasTokens 0 text tokens
      × (read_marks tokens Start no_parts (length text) ≡ read_marks left stage parts (length text))

pub standing_at_start : (text : List ℕ) → Standing text 0 Start no_parts
standing_at_start text = record { within = omega arith; joins = λ left has. (left, has, refl) }

pub standing_after : (text : List ℕ) (at after_at : ℕ) (stage after : DesignationStage)
    (parts after_parts : DesignationParts)
    (token : Token) (mark : DesignationMark)
    → Standing text at stage parts → IsFirstIn text at token → mark ≡ mark_of_token token
    → Some after ≡ next_stage stage (sort_of mark) → after_parts ≡ with_mark parts mark
    → after_at ≡ token.at + length token.text → Standing text after_at after after_parts
standing_after text at after_at stage after parts after_parts token mark s first mark_is next_is parts_is
    place =
    let leads : next_stage stage (sort_of (mark_of_token token)) ≡ Some after =
    ap (λ m. next_stage stage (sort_of m)) (sym mark_is) ∙ sym next_is in
    let parts_are : with_mark parts (mark_of_token token) ≡ after_parts =
    ap (with_mark parts) (sym mark_is) ∙ sym parts_is in
    subst (λ (n : ℕ). Standing text n after after_parts) (sym place)
    (record {
      within = first.within;
      joins = λ left has.
          let found = s.joins (token ∷ left)
          (drop (token.at + length token.text) text, first.starts, has) in (
            found.0,
            found.1,
            found.2
                ∙ ap (λ o. go_to_stage o
                (λ next. read_marks left next (with_mark parts (mark_of_token token)) (length text))
                (read_up_to parts token.at false)) leads
                ∙ ap (λ p. read_marks left after p (length text)) parts_are,
          );
    })

pub stopped_at : (text : List ℕ) (at : ℕ) (stage : DesignationStage) (parts : DesignationParts)
    (token : Token) (mark : DesignationMark)
    → Standing text at stage parts → IsFirstIn text at token → mark ≡ mark_of_token token
    → None ≡ next_stage stage (sort_of mark) → IsDesignationProgress text (read_up_to parts token.at false)
stopped_at text at stage parts token mark s first mark_is next_is =
    let left = has_token_list (token.at + length token.text) (drop (token.at + length token.text) text) in
    let leads : next_stage stage (sort_of (mark_of_token token)) ≡ None =
    ap (λ m. next_stage stage (sort_of m)) (sym mark_is) ∙ sym next_is in
    let found = s.joins (token ∷ left.0)
    (drop (token.at + length token.text) text, first.starts, left.1) in
    record {
      tokens = found.0;
      cut = found.1;
      is =
          sym (found.2
          ∙ ap (λ o. go_to_stage o
          (λ next. read_marks left.0 next (with_mark parts (mark_of_token token)) (length text))
          (read_up_to parts token.at false)) leads);
    }

pub ended_at : (text : List ℕ) (at : ℕ) (stage : DesignationStage) (parts : DesignationParts) (whole : Bool)
    → Standing text at stage parts → AllPass is_white (drop at text) → whole ≡ ends_spelling stage
    → IsDesignationProgress text (read_up_to parts (length text) whole)
ended_at text at stage parts whole s white whole_is =
    let found = s.joins [] white in
    record {
      tokens = found.0;
      cut = found.1;
      is = ap (λ x. read_up_to parts (length text) x) whole_is ∙ sym found.2;
    }

-- the township of what was read is the one that is spelled
of_outcome : (text : List ℕ) (tokens : List Token) (township : Designation) (progress : DesignationProgress)
    → length text ≤ TEXT_LIMIT → HasTokens 0 text tokens
    → Outcome tokens Start no_parts (length text) progress → IsOfDesignationProgress progress township
    → IsSpelling text township
of_outcome text tokens township progress within cut (inl w) of = record {
  within = within;
  tokens = tokens;
  cut = cut;
  spelled = record {
    formed = w.formed;
    parts = subst (λ (parts : DesignationParts). AreOf parts township) w.parts_are of.1;
  };
}
of_outcome text tokens township progress within cut (inr w) of =
    let never : false ≡ true = sym w.part ∙ of.0 in cc never

outcome_of : (text : List ℕ) (progress : DesignationProgress) (in_text : IsDesignationProgress text progress)
    → Outcome in_text.tokens Start no_parts (length text) progress
outcome_of text progress in_text =
    subst (λ (p : DesignationProgress). Outcome in_text.tokens Start no_parts (length text) p)
    (sym in_text.is)
    (outcome in_text.tokens Start no_parts (length text))

pub spelled_there : (text : List ℕ) (progress : DesignationProgress) (township : Designation)
    → length text ≤ TEXT_LIMIT
    → IsDesignationProgress text progress → IsOfDesignationProgress progress township
    → IsSpelling text township
spelled_there text progress township within in_text of =
    of_outcome text in_text.tokens township progress within in_text.cut (outcome_of text progress in_text) of

parts_of_outcome : (tokens : List Token) (progress : DesignationProgress) (end : ℕ) → progress.whole ≡ true
    → Outcome tokens Start no_parts end progress → progress.parts ≡ with_tokens no_parts tokens
parts_of_outcome tokens progress end whole (inl w) = w.parts_are
parts_of_outcome tokens progress end whole (inr w) = let never : false ≡ true = sym w.part ∙ whole in cc never

-- what is spelled is the township of what was read
pub read_there : (text : List ℕ) (progress : DesignationProgress) (township : Designation)
    → IsDesignationProgress text progress
    → IsSpelling text township → IsOfDesignationProgress progress township
read_there text progress township in_text spelling =
    let same : spelling.tokens ≡ in_text.tokens =
    one_token_list 0 text spelling.tokens in_text.tokens spelling.cut in_text.cut in
    let spelled : Spell in_text.tokens township =
    subst (λ (ts : List Token). Spell ts township) same spelling.spelled in
    let whole : progress.whole ≡ true =
    ap (λ (p : DesignationProgress). p.whole) in_text.is
    ∙ formed_whole in_text.tokens Start no_parts (length text) spelled.formed in
    let parts_are : progress.parts ≡ with_tokens no_parts in_text.tokens =
    parts_of_outcome in_text.tokens progress (length text) whole (outcome_of text progress in_text) in
    (whole, subst (λ (parts : DesignationParts). AreOf parts township) (sym parts_are) spelled.parts)

place_at_last : (tokens : List Token) (end : ℕ) → place_of_token tokens (length tokens) end ≡ end
place_at_last [] end = refl
place_at_last (token ∷ tokens) end = place_at_last tokens end

take_whole : (tokens : List Token) → take (length tokens) tokens ≡ tokens
take_whole [] = refl
take_whole (token ∷ tokens) = ap (λ ts. token ∷ ts) (take_whole tokens)

-- where no township was read, the text is refused there
refused_by : (text : List ℕ) (tokens : List Token) (progress : DesignationProgress) → length text ≤ TEXT_LIMIT
    → HasTokens 0 text tokens → Outcome tokens Start no_parts (length text) progress
    → ((township : Designation) → ¬ IsOfDesignationProgress progress township)
    → IsNoDesignation text (refusal (number_of_refusal progress.parts) progress.at)
refused_by text tokens progress within cut (inl w) none =
    let whole_taken : take (length tokens) tokens ≡ tokens = take_whole tokens in
    goes_wrong within tokens cut (length tokens) (record {
      within = omega arith;
      before = (
        [],
        subst (λ (cs : List MarkSort). AreFormed spelling_forms cs)
            (sym (append-nil (sorts (take (length tokens) tokens)) ∙ ap sorts whole_taken)) w.formed,
      );
      here = λ below formed. absurd (omega (arith, below));
      at_end = λ at_length township spelled.
          none township (
            w.whole,
            subst (λ (parts : DesignationParts). AreOf parts township) (sym w.parts_are) spelled.parts,
          );
    })
    (ap (λ (parts : DesignationParts). refusal (number_of_refusal parts) progress.at)
    (w.parts_are ∙ ap (λ ts. with_tokens no_parts ts) (sym whole_taken))
    ∙ ap (λ n. refusal (number_of_refusal (with_tokens no_parts (take (length tokens) tokens))) n)
    (w.place ∙ sym (place_at_last tokens (length text))))
refused_by text tokens progress within cut (inr w) none =
    goes_wrong within tokens cut w.i (record {
      within = w.within;
      before = w.before;
      here = w.here;
      at_end = λ at_length township spelled. w.at_end at_length spelled.formed;
    })
    (ap (λ (parts : DesignationParts). refusal (number_of_refusal parts) progress.at) w.parts_are
    ∙ ap (λ n. refusal (number_of_refusal (with_tokens no_parts (take w.i tokens))) n) w.place)

pub refused_there : (text : List ℕ) (progress : DesignationProgress) → length text ≤ TEXT_LIMIT
    → IsDesignationProgress text progress → Finds None (IsOfDesignationProgress progress)
    → IsNoDesignation text (refusal (number_of_refusal progress.parts) progress.at)
refused_there text progress within in_text none =
    refused_by text in_text.tokens progress within in_text.cut (outcome_of text progress in_text) none
