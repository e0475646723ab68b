-- A text has one answer: one list of items, or one refusal, and not both.
use Rattle.std.proofs.Common.{◌≡◌, ◌⊎◌, ℕ, ◌+◌, ◌<◌, ◌≤◌, List, [], ◌∷◌, ◌++◌, Some, None}
use Rattle.std.proofs.Common.{length, drop, refl, sym, ap, subst, ◌∙◌, inl, inr, arith}
use Rattle.std.proofs.Common.{IfSome, IfOk, IfErr, MatchResult, Result, Ok, Err}
use Rattle.std.proofs.lemmas.Bool.{cases_lt}
use Rattle.std.proofs.lemmas.List.{take-append-drop}
use Rattle.twp_grammar.specs.declared.item.Item.{Item}
use Rattle.twp_grammar.specs.declared.tokens.Kind.{Kind}
use Rattle.twp_grammar.specs.declared.tokens.Kind.TheVariants.{Other, BadByte, BadNumber}
use Rattle.twp_grammar.specs.declared.state.State.TheVariants.{Start}
use Rattle.twp_grammar.specs.declared.state.State.{State}
use Rattle.twp_read.specs.declared.description.Noted.{Noted}
use Rattle.twp_read.specs.declared.fault.TextFault.{TextFault}
use Rattle.twp_read.specs.declared.fault.TextFault.TheVariants as fault
use Rattle.twp_grammar.specs.Tokens.{Token}
use Rattle.twp_grammar.specs.Grammar.{class_of}
use Rattle.twp_grammar.specs.Sentences.{HasItems, IsSentence, IsFault}
use Rattle.twp_read.specs.Laws.{IsStray, NoStrayInSentence}
use Rattle.twp_grammar.specs.Machine.{next}
use Rattle.twp_read.specs.steps.TokenSteps.{take_token, run}
use Rattle.twp_grammar.specs.Sentences.{TEXT_LIMIT, IsReadAs}
use Rattle.twp_read.specs.TextFaults.{refusal_of, stage_of, place_of, HasToken, HasTextFault}
use Rattle.twp_read.specs.TextFaults.{IsFirstTextFault}
use Rattle.twp_grammar.proofs.TokenFacts.{one_token_list}
use Rattle.twp_grammar.proofs.Table as table
use Rattle.twp_grammar.proofs.OneDerivation.{one_item_list}
use Rattle.twp_read.proofs.FirstTextFaults.{one_kind}
use Rattle.twp_read.proofs.Reading as reading

-- a sentence has no token of the kinds that belong to none
stuck : (kind : Kind) (s : State) → IsStray kind → next s (class_of kind) ≡ None
stuck Other s is = table.takes_no_other s
stuck BadNumber s is = table.takes_no_bad_number s
stuck BadByte s is = table.takes_no_bad_byte s
stuck _ s is = absurd is

pub no_stray_in_sentence : NoStrayInSentence
no_stray_in_sentence before after token is =
    reading.not_stuck (before ++ token ∷ after)
    (reading.run-append (Some Start) [] before (token ∷ after) ∙ goes_no_further (run (Some Start) [] before))
  where
    goes_no_further : (o : reading.Outcome) → reading.go_on o (token ∷ after) ≡ None
    goes_no_further None = refl
    goes_no_further (Some (s, its)) =
        ap (λ o. run o (take_token s token.kind token.at its) after) (stuck token.kind s is)

-- a text is read in one way
pub one_reading : (text : List ℕ) (is is' : List Item) → IsReadAs text is → IsReadAs text is' → is ≡ is'
one_reading text is is' a b =
    let same : a.tokens ≡ b.tokens = one_token_list 0 text a.tokens b.tokens a.cut b.cut in
    one_item_list b.tokens is is' (subst (λ (ts : List Token). HasItems ts is) same a.named) b.named

sentence_of : (text : List ℕ) (is : List Item) (read : IsReadAs text is) → IsSentence read.tokens
sentence_of text is read = record { tree = read.named.tree; spelled = read.named.spelled }

no_stray : (text : List ℕ) (is : List Item) (kind : Kind) (at : ℕ) → IsReadAs text is → IsStray kind
    → ¬ HasToken text kind at
no_stray text is kind at read stray has =
    let same : read.tokens ≡ has.before ++ has.token ∷ has.after =
    one_token_list 0 text _ _ read.cut has.cut in
    no_stray_in_sentence has.before has.after has.token (rw has.kind_is stray)
    (subst IsSentence same (sentence_of text is read))

-- and then has no fault
pub no_fault : (text : List ℕ) (is : List Item) (fault : TextFault) → IsReadAs text is
    → ¬ HasTextFault text fault
no_fault text is fault.TooLarge read large =
    let small : length text ≤ TEXT_LIMIT = read.within in
    absurd (omega arith)
no_fault text is (fault.BadByte at) read bad = no_stray text is BadByte at read tt bad
no_fault text is (fault.BadNumber at) read bad = no_stray text is BadNumber at read tt bad
no_fault text is (fault.Syntax at expected) read wrong =
    let same : read.tokens ≡ wrong.tokens =
    one_token_list 0 text read.tokens wrong.tokens read.cut wrong.cut in
    let whole : IsSentence wrong.tokens = subst IsSentence same (sentence_of text is read) in
    apart wrong.tokens wrong.i wrong.fault whole
  where
    at_length : (n i : ℕ) → i ≤ n → n ≤ i → i ≡ n
    at_length n i h h' = omega arith

    apart : (ts : List Token) (i : ℕ) → IsFault ts i → IsSentence ts → ⊥
    apart ts i f whole = elim (cases_lt i (length ts)) [
      | inl below ↦ f.here below (drop (i + 1) ts) (rw take-append-drop whole)
      | inr not_below ↦ f.at_end (at_length (length ts) i f.within not_below) whole
    ]
no_fault text is fault.Memory read has = has

-- and a text that isn't read has one refusal
record AreOne (stage place stage' place' : ℕ) : Type 0 where
  stage_is : stage ≡ stage'
  place_is : place ≡ place'

neither_after : (stage place stage' place' : ℕ) → (stage < stage') ⊎ ((stage ≡ stage') × (place ≤ place'))
    → (stage' < stage) ⊎ ((stage' ≡ stage) × (place' ≤ place)) → AreOne stage place stage' place'
neither_after stage place stage' place' (inl less) (inl more) = absurd (omega arith)
neither_after stage place stage' place' (inl less) (inr more) = absurd (omega arith)
neither_after stage place stage' place' (inr less) (inl more) = absurd (omega arith)
neither_after stage place stage' place' (inr less) (inr more) =
    record { stage_is = less.0; place_is = omega arith }

two_kinds : (let kind : Kind = BadByte in kind ≡ BadNumber) → ⊥
two_kinds same = cc same

same_refusal : (text : List ℕ) (f g : TextFault) → HasTextFault text f → HasTextFault text g
    → stage_of f ≡ stage_of g → place_of f ≡ place_of g → refusal_of f ≡ refusal_of g
same_refusal text fault.TooLarge fault.TooLarge has has' stage place = refl
same_refusal text (fault.BadByte at) (fault.BadByte at') has has' stage place = rw place refl
same_refusal text (fault.BadNumber at) (fault.BadNumber at') has has' stage place = rw place refl
same_refusal text (fault.BadByte at) (fault.BadNumber at') has has' stage place =
    absurd (two_kinds (one_kind text BadByte BadNumber at at' has has' place))
same_refusal text (fault.BadNumber at) (fault.BadByte at') has has' stage place =
    absurd (two_kinds (one_kind text BadByte BadNumber at' at has' has (sym place)))
same_refusal text (fault.Syntax at expected) (fault.Syntax at' expected') has has' stage place = rw place refl
same_refusal text fault.Memory g has has' stage place = absurd has
same_refusal text f fault.Memory has has' stage place = absurd has'
same_refusal text f g has has' stage place = absurd (omega arith)

pub one_refusal : (text : List ℕ) (f g : TextFault) → IsFirstTextFault text f → IsFirstTextFault text g
    → refusal_of f ≡ refusal_of g
one_refusal text f g is-f is-g =
    let same =
    neither_after (stage_of f) (place_of f) (stage_of g) (place_of g) (is-f.first g is-g.is)
    (is-g.first f is-f.is) in
    same_refusal text f g is-f.is is-g.is same.stage_is same.place_is

-- what is read is refused only where memory runs out
pub only_memory : (text : List ℕ) (is : List Item) (f : TextFault) → IsReadAs text is
    → IfSome (refusal_of f) (λ _. IsFirstTextFault text f) → f ≡ fault.Memory
only_memory text is fault.TooLarge read first = absurd (no_fault text is fault.TooLarge read first.is)
only_memory text is (fault.BadByte at) read first = absurd (no_fault text is (fault.BadByte at) read first.is)
only_memory text is (fault.BadNumber at) read first =
    absurd (no_fault text is (fault.BadNumber at) read first.is)
only_memory text is (fault.Syntax at expected) read first =
    absurd (no_fault text is (fault.Syntax at expected) read first.is)
only_memory text is fault.Memory read first = refl

pub taken : (text : List ℕ) (answer : Result (List Item) TextFault) → IfOk answer (IsReadAs text)
    → IfErr answer (λ f. IfSome (refusal_of f) (λ _. IsFirstTextFault text f)) → (is : List Item)
    → IsReadAs text is
    → MatchResult answer (λ d. d ≡ is) (λ f. f ≡ fault.Memory)
taken text (Ok d) read refused is h = one_reading text d is read h
taken text (Err f) read refused is h = only_memory text is f h refused

pub taken_noted : (text : List ℕ) (answer : Result Noted TextFault)
    → IfOk answer (λ noted. IsReadAs text noted.description)
    → IfErr answer (λ f. IfSome (refusal_of f) (λ _. IsFirstTextFault text f)) → (is : List Item)
    → IsReadAs text is
    → MatchResult answer (λ noted. noted.description ≡ is) (λ f. f ≡ fault.Memory)
taken_noted text (Ok noted) read refused is h = one_reading text noted.description is read h
taken_noted text (Err f) read refused is h = only_memory text is f h refused
