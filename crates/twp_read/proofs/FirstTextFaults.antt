-- The first fault of a text: too large, its leftmost bad token, or, where it has none, the place where it
-- goes wrong.
use Rattle.std.proofs.Common.{◌≡◌, ℕ, zero, suc, ◌+◌, ◌<◌, ◌≤◌, List, [], ◌∷◌, ◌++◌, Some, None, length}
use Rattle.std.proofs.Common.{take, drop, refl, sym, ap, subst, ◌∙◌, inl, inr, append_assoc, arith}
use Rattle.std.proofs.lemmas.Bool.{cases_lt}
use Rattle.std.proofs.lemmas.List.{take-append-drop}
use Rattle.twp_grammar.specs.declared.tokens.Kind.{Kind}
use Rattle.twp_grammar.specs.declared.tokens.Kind.TheVariants.{BadByte, BadNumber}
use Rattle.twp_grammar.specs.declared.expected.Expected.{Expected}
use Rattle.twp_grammar.specs.Tokens.{Token, StartsWith, HasTokens}
use Rattle.twp_grammar.specs.Sentences.{TEXT_LIMIT, IsSentence, IsFault}
use Rattle.twp_read.specs.declared.fault.TextFault.{TextFault}
use Rattle.twp_read.specs.declared.fault.TextFault.TheVariants as fault
use Rattle.twp_read.specs.TextFaults.{place_of_token, HasToken, GoesWrong, HasTextFault, stage_of}
use Rattle.twp_read.specs.TextFaults.{place_of, IsFrom, IsFirstTextFault}
use Rattle.twp_read.specs.steps.BadTokens.{fault_of_bad, NoneBad, HasNoneBad, IsLeftmostBad}
use Rattle.twp_grammar.proofs.Cuts.{the_cut}
use Rattle.twp_grammar.proofs.TokenFacts.{one_token_list}

-- the front of a front
take_less : (n m : ℕ) (ts : List Token) → n ≤ m → take n (take m ts) ≡ take n ts
take_less zero m ts h = refl
take_less (suc n) zero ts h = absurd (omega arith)
take_less (suc n) (suc m) [] h = refl
take_less (suc n) (suc m) (token ∷ ts) h = ap (λ us. token ∷ us) (take_less n m ts (omega arith))

-- no fault of syntax is followed by another
no_later : (ts : List Token) (i j : ℕ) → IsFault ts i → IsFault ts j → i < j → ⊥
no_later ts i j earlier later below =
    let in_range : j ≤ length ts = later.within in
    let cut : take (i + 1) ts ++ drop (i + 1) (take j ts) ≡ take j ts =
    ap (λ us. us ++ drop (i + 1) (take j ts)) (sym (take_less (i + 1) j ts (omega arith)))
    ∙ take-append-drop (i + 1) (take j ts) in
    let whole : IsSentence ((take (i + 1) ts ++ drop (i + 1) (take j ts)) ++ later.before.0) =
    rw cut later.before.2 in
    earlier.here (omega arith) (drop (i + 1) (take j ts) ++ later.before.0) (rw append_assoc at whole)

one_fault : (ts : List Token) (i j : ℕ) → IsFault ts i → IsFault ts j → i ≡ j
one_fault ts i j a b = elim (cases_lt i j) [
  | inl below ↦ absurd (no_later ts i j a b below)
  | inr not_below ↦
      elim (cases_lt j i) [ inl above ↦ absurd (no_later ts j i b a above) | inr not_above ↦ omega arith ]
]

-- so a text goes wrong at one place
pub one_place : (text : List ℕ) (at at' : ℕ) → GoesWrong text at → GoesWrong text at' → at ≡ at'
one_place text at at' a b =
    let same : a.tokens ≡ b.tokens = one_token_list 0 text a.tokens b.tokens a.cut b.cut in
    let fault_there : IsFault b.tokens a.i = subst (λ (ts : List Token). IsFault ts a.i) same a.fault in
    let i : a.i ≡ b.i = one_fault b.tokens a.i b.i fault_there b.fault in
    a.place
    ∙ ap (λ (ts : List Token). place_of_token ts a.i (length text)) same
    ∙ ap (λ k. place_of_token b.tokens k (length text)) i
    ∙ sym b.place

-- each token of bytes that are at a place is there or after it
not_before : (at : ℕ) (bytes : List ℕ) (token : Token) (rest : List ℕ) → StartsWith at bytes token rest
    → at ≤ token.at
not_before at bytes token rest starts =
    let place : token.at ≡ at + length starts.space = starts.place in
    omega arith

stands_from : (before : List Token) (token : Token) (after : List Token) (at : ℕ) (bytes : List ℕ)
    → HasTokens at bytes (before ++ token ∷ after) → at ≤ token.at
stands_from [] token after at bytes (rest, starts, more) = not_before at bytes token rest starts
stands_from (first ∷ before) token after at bytes (rest, starts, more) =
    let here : at ≤ first.at = not_before at bytes first rest starts in
    let there : first.at + length first.text ≤ token.at =
    stands_from before token after (first.at + length first.text) rest more in
    omega arith

-- a later token comes after the first
stands_after : (first : Token) (before : List Token) (token : Token) (after : List Token) (at : ℕ)
    (bytes : List ℕ)
    → HasTokens at bytes (first ∷ before ++ token ∷ after) → first.at < token.at
stands_after first before token after at bytes (rest, starts, more) =
    let some : 0 < length first.text = (the_cut first.text rest first.kind starts.is).some in
    let there : first.at + length first.text ≤ token.at =
    stands_from before token after (first.at + length first.text) rest more in
    omega arith

-- a token of the list is no bad one, where none is
none_among : (before : List Token) (token : Token) (after : List Token) → NoneBad (before ++ token ∷ after)
    → fault_of_bad token.kind token.at ≡ None
none_among [] token after none = none.0
none_among (first ∷ before) token after none = none_among before token after none.1

-- the leftmost bad token is before each other
leftmost : (before : List Token) (token : Token) (after before' : List Token) (token' : Token)
    (after' : List Token) (at : ℕ) (bytes : List ℕ) (other : TextFault)
    → HasTokens at bytes (before ++ token ∷ after)
    → before ++ token ∷ after ≡ before' ++ token' ∷ after'
    → NoneBad before → fault_of_bad token'.kind token'.at ≡ Some other → token.at ≤ token'.at
leftmost [] token after [] token' after' at bytes other cut same none bad =
    let is : token ≡ token' = cc same in
    subst (λ (t : Token). token.at ≤ t.at) is (omega arith)
leftmost [] token after (first ∷ before') token' after' at bytes other cut same none bad =
    let is : token ≡ first = cc same in
    let behind : first.at < token'.at =
    stands_after first before' token' after' at bytes
    (subst (λ (ts : List Token). HasTokens at bytes ts) same cut) in
    let below : token.at < token'.at = subst (λ (t : Token). t.at < token'.at) (sym is) behind in
    omega arith
leftmost (first ∷ before) token after [] token' after' at bytes other cut same none bad =
    let is : first ≡ token' = cc same in
    let good : fault_of_bad token'.kind token'.at ≡ None =
    subst (λ (t : Token). fault_of_bad t.kind t.at ≡ None) is none.0 in
    cc (good, bad)
leftmost (first ∷ before) token after (first' ∷ before') token' after' at bytes other (rest, starts, more)
    same
    none bad =
    leftmost before token after before' token' after' (first.at + length first.text) rest other more (cc same)
    none.1 bad

-- two tokens at one place are one
same_token : (before : List Token) (token : Token) (after before' : List Token) (token' : Token)
    (after' : List Token) (at : ℕ) (bytes : List ℕ)
    → HasTokens at bytes (before ++ token ∷ after)
    → before ++ token ∷ after ≡ before' ++ token' ∷ after' → token.at ≡ token'.at → token ≡ token'
same_token [] token after [] token' after' at bytes cut same place = cc same
same_token [] token after (first ∷ before') token' after' at bytes cut same place =
    let behind : first.at < token'.at =
    stands_after first before' token' after' at bytes
    (subst (λ (ts : List Token). HasTokens at bytes ts) same cut) in
    let is : first ≡ token = cc same in
    let below : token.at < token'.at = subst (λ (t : Token). t.at < token'.at) is behind in
    absurd (omega arith)
same_token (first ∷ before) token after [] token' after' at bytes cut same place =
    let behind : first.at < token.at = stands_after first before token after at bytes cut in
    let is : first ≡ token' = cc same in
    let below : token'.at < token.at = subst (λ (t : Token). t.at < token.at) is behind in
    absurd (omega arith)
same_token (first ∷ before) token after (first' ∷ before') token' after' at bytes (rest, starts, more) same
    place =
    same_token before token after before' token' after' (first.at + length first.text) rest more (cc same)
    place

pub one_kind : (text : List ℕ) (kind kind' : Kind) (at at' : ℕ) → HasToken text kind at
    → HasToken text kind' at'
    → at ≡ at' → kind ≡ kind'
one_kind text kind kind' at at' a b place =
    let lists : a.before ++ a.token ∷ a.after ≡ b.before ++ b.token ∷ b.after =
    one_token_list 0 text _ _ a.cut b.cut in
    let place-a : a.token.at ≡ at = a.place in
    let place-b : b.token.at ≡ at' = b.place in
    let token : a.token ≡ b.token =
    same_token a.before a.token a.after b.before b.token b.after 0 text a.cut lists (omega arith) in
    let kind-a : a.token.kind ≡ kind = a.kind_is in
    let kind-b : b.token.kind ≡ kind' = b.kind_is in
    cc (token, kind-a, kind-b)

-- the fault of a bad token is there, at its place
has_bad : (text : List ℕ) (kind : Kind) (at : ℕ) (is : TextFault) → fault_of_bad kind at ≡ Some is
    → HasToken text kind at → HasTextFault text is
has_bad text BadByte at is same has =
    let e : fault.BadByte at ≡ is = cc same in
    subst (HasTextFault text) e has
has_bad text BadNumber at is same has =
    let e : fault.BadNumber at ≡ is = cc same in
    subst (HasTextFault text) e has
has_bad text _ at is same has = cc same

record IsAtPlace (at : ℕ) (is : TextFault) : Type 0 where
  stage : stage_of is ≡ 1
  place : place_of is ≡ at

bad_stands : (kind : Kind) (at : ℕ) (is : TextFault) → fault_of_bad kind at ≡ Some is → IsAtPlace at is
bad_stands BadByte at is same =
    let e : fault.BadByte at ≡ is = cc same in
    subst (IsAtPlace at) e (record { stage = refl; place = refl })
bad_stands BadNumber at is same =
    let e : fault.BadNumber at ≡ is = cc same in
    subst (IsAtPlace at) e (record { stage = refl; place = refl })
bad_stands _ at is same = cc same

-- a text that is too large has no fault before that
pub too_large_first : (text : List ℕ) → TEXT_LIMIT < length text → IsFirstTextFault text fault.TooLarge
too_large_first text large = record { is = large; first = after }
  where
    after : (other : TextFault) → HasTextFault text other → IsFrom 0 TEXT_LIMIT other
    after fault.TooLarge has = inr (refl, omega arith)
    after (fault.BadByte at) has = inl (omega arith)
    after (fault.BadNumber at) has = inl (omega arith)
    after (fault.Syntax at expected) has = inl (omega arith)
    after fault.Memory has = absurd has

-- within the limit the leftmost bad token is the first fault
pub bad_first : (text : List ℕ) (is : TextFault) → length text ≤ TEXT_LIMIT → IsLeftmostBad text is
    → IsFirstTextFault text is
bad_first text is small bad = record {
  is =
      has_bad text bad.token.kind bad.token.at is bad.fault_is
      (record {
        before = bad.before;
        token = bad.token;
        after = bad.after;
        cut = bad.cut;
        kind_is = refl;
        place = refl;
      });
  first = after;
}
  where
    there : IsAtPlace bad.token.at is
    there = bad_stands bad.token.kind bad.token.at is bad.fault_is

    other_bad : (kind : Kind) (at : ℕ) (other : TextFault) → fault_of_bad kind at ≡ Some other
        → HasToken text kind at → IsFrom 1 bad.token.at other
    other_bad kind at other wrong has =
        let lists : bad.before ++ bad.token ∷ bad.after ≡ has.before ++ has.token ∷ has.after =
        one_token_list 0 text _ _ bad.cut has.cut in
        let place : has.token.at ≡ at = has.place in
        let is_bad : fault_of_bad has.token.kind has.token.at ≡ Some other =
        rw (has.kind_is, has.place) wrong in
        let below : bad.token.at ≤ has.token.at =
        leftmost bad.before bad.token bad.after has.before has.token has.after 0 text other bad.cut lists
        bad.none_before is_bad in
        let stands : IsAtPlace at other = bad_stands kind at other wrong in
        let stage_is : stage_of other ≡ 1 = stands.stage in
        let place_is : place_of other ≡ at = stands.place in
        inr (omega arith, omega arith)

    after : (other : TextFault) → HasTextFault text other → IsFrom (stage_of is) (place_of is) other
    after fault.TooLarge has = absurd (omega arith)
    after (fault.BadByte at) has =
        rw (there.stage, there.place) (other_bad BadByte at (fault.BadByte at) refl has)
    after (fault.BadNumber at) has =
        rw (there.stage, there.place) (other_bad BadNumber at (fault.BadNumber at) refl has)
    after (fault.Syntax at expected) has =
        let stage : stage_of is ≡ 1 = there.stage in
        inl (omega arith)
    after fault.Memory has = absurd has

-- and where none is bad, that the text goes wrong
pub syntax_first : (text : List ℕ) (at : ℕ) (expected : Expected) → length text ≤ TEXT_LIMIT → HasNoneBad text
    → GoesWrong text at → IsFirstTextFault text (fault.Syntax at expected)
syntax_first text at expected small none wrong = record { is = wrong; first = after }
  where
    no_bad : (kind : Kind) (at' : ℕ) (other : TextFault) → fault_of_bad kind at' ≡ Some other
        → HasToken text kind at' → ⊥
    no_bad kind at' other is has =
        let lists : none.tokens ≡ has.before ++ has.token ∷ has.after =
        one_token_list 0 text _ _ none.cut has.cut in
        let is_good : fault_of_bad has.token.kind has.token.at ≡ None =
        none_among has.before has.token has.after
        (subst (λ (ts : List Token). NoneBad ts) lists none.none_bad) in
        let is_bad : fault_of_bad has.token.kind has.token.at ≡ Some other = rw (has.kind_is, has.place) is in
        cc (is_good, is_bad)

    after : (other : TextFault) → HasTextFault text other → IsFrom 2 at other
    after fault.TooLarge has = absurd (omega arith)
    after (fault.BadByte at') has = absurd (no_bad BadByte at' (fault.BadByte at') refl has)
    after (fault.BadNumber at') has = absurd (no_bad BadNumber at' (fault.BadNumber at') refl has)
    after (fault.Syntax at' expected') has =
        let same : at ≡ at' = one_place text at at' wrong has in
        inr (refl, omega arith)
    after fault.Memory has = absurd has
