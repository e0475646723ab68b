-- Text that is added in steps, all of it or a prefix.
use Rattle.std.proofs.Common.{◌≡◌, ◌<◌, ◌-◌, ℕ, zero, suc, replicate, arith, Bool, true, cond, List, [], ◌∷◌}
use Rattle.std.proofs.Common.{◌++◌, refl, sym, ap, ◌∙◌}
use Rattle.std.proofs.Common.{append_assoc}
use Rattle.std.specs.Prelude.{Result, Ok, Err, IsErr, is_ok, encode_utf8_all}
use Rattle.std.specs.List.{list_all}
use Rattle.std.proofs.lemmas.Bool.{and_parts}
use Rattle.std.proofs.lemmas.List.{append-nil}
use Rattle.std.proofs.lemmas.List.Folds.{list_all-append}
use Rattle.std.proofs.lemmas.Result.{on_ok_weaker, IfOk-from_err}
use Rattle.twp_excerpt.specs.Shown.{Adds}
use Rattle.twp_excerpt.specs.Signs.{Adding, AddsFront}
use Rattle.twp_excerpt.proofs.ShownFacts.{encode_all_append}

pub front_none : (codes old : List ℕ) → AddsFront codes old old
front_none codes old =
    record { front = []; rest = codes; split = refl; new_is = sym (append-nil old) }

pub front_all : (codes old new : List ℕ) → new ≡ old ++ encode_utf8_all codes → AddsFront codes old new
front_all codes old new is =
    record { front = codes; rest = []; split = sym (append-nil codes); new_is = is }

pub adding_none : {Value Error : Type 0} (old : List ℕ) (value : Value)
    → Adding {Value = Value} {Error = Error} [] (Ok value) old old
adding_none old value =
    let same = sym (append-nil old) in record { whole = same; front = front_all [] old old same }

pub front_first : (a b old new : List ℕ) → AddsFront a old new → AddsFront (a ++ b) old new
front_first a b old new h = record {
  front = h.front;
  rest = h.rest ++ b;
  split = ap (λ t. t ++ b) h.split ∙ append_assoc h.front h.rest b;
  new_is = h.new_is;
}

-- one text after another
pub whole_then : (a b old middle new : List ℕ) → middle ≡ old ++ encode_utf8_all a
    → new ≡ middle ++ encode_utf8_all b → new ≡ old ++ encode_utf8_all (a ++ b)
whole_then a b old middle new d e =
    e ∙ ap (λ t. t ++ encode_utf8_all b) d ∙ append_assoc old (encode_utf8_all a) (encode_utf8_all b)
    ∙ ap (λ t. old ++ t) (sym (encode_all_append a b))

pub front_then : (a b old middle new : List ℕ) → middle ≡ old ++ encode_utf8_all a → AddsFront b middle new
    → AddsFront (a ++ b) old new
front_then a b old middle new d h = record {
  front = a ++ h.front;
  rest = h.rest;
  split = ap (λ t. a ++ t) h.split ∙ sym (append_assoc a h.front h.rest);
  new_is = whole_then a h.front old middle new d h.new_is;
}

-- a call adds a text, or fails; then another text is added
pub adding_tried : {Value Error : Type 0} (codes text old new : List ℕ) (r : Result Value Error)
    → text ≡ encode_utf8_all codes → new ≡ cond (is_ok r) (old ++ text) old
    → Adding codes r old new
adding_tried codes text old new (Ok value) is e =
    let added = e ∙ ap (λ t. old ++ t) is in
    record { whole = added; front = front_all codes old new added }
adding_tried codes text old new (Err error) is e = record {
  whole = tt;
  front = record { front = []; rest = codes; split = refl; new_is = e ∙ sym (append-nil old) };
}

pub adding_failed : {Value Error Fault : Type 0} (a b old new : List ℕ) (r : Result Value Error)
    (failed : Result Value Fault) → IsErr failed → Adding a r old new → Adding (a ++ b) failed old new
adding_failed a b old new r failed is h =
    record { whole = IfOk-from_err failed _ is; front = front_first a b old new h.front }

pub adding_then : {Value Error : Type 0} (a b old middle new : List ℕ) (r : Result Value Error)
    → middle ≡ old ++ encode_utf8_all a → Adding b r middle new → Adding (a ++ b) r old new
adding_then a b old middle new r d h = record {
  whole = on_ok_weaker r (whole_then a b old middle new d) h.whole;
  front = front_then a b old middle new d h.front;
}

-- if all characters of a text pass a test, so do those of its prefixes
pub front_passes : (test : ℕ → Bool) (codes old new : List ℕ) → list_all test codes ≡ true
    → AddsFront codes old new → Adds test old new
front_passes test codes old new all h =
    let parts =
    and_parts (list_all test h.front) (list_all test h.rest)
    (sym (list_all-append test h.front h.rest) ∙ ap (list_all test) (sym h.split) ∙ all) in
    record {
      added = encode_utf8_all h.front;
      is_text = record { codes = h.front; text_is = refl; all_pass = parts.0 };
      new_is = h.new_is;
    }

-- the text that a loop has added so far, and the rest
pub record AddedSoFar (codes rest old out : List ℕ) : Type 0 where
  pub done : List ℕ
  pub split : codes ≡ done ++ rest
  pub out_is : out ≡ old ++ encode_utf8_all done

pub so_far_none : (codes old : List ℕ) → AddedSoFar codes codes old old
so_far_none codes old = record { done = []; split = refl; out_is = sym (append-nil old) }

pub so_far_next : (codes rest next left old out new : List ℕ) → AddedSoFar codes rest old out
    → rest ≡ next ++ left → new ≡ out ++ encode_utf8_all next → AddedSoFar codes left old new
so_far_next codes rest next left old out new h is e = record {
  done = h.done ++ next;
  split =
      h.split ∙ ap (λ t. h.done ++ t) is ∙ sym (append_assoc h.done next left);
  out_is = whole_then h.done next old out new h.out_is e;
}

pub so_far_failed : (codes rest next left old out new : List ℕ) → AddedSoFar codes rest old out
    → rest ≡ next ++ left → AddsFront next out new → AddsFront codes old new
so_far_failed codes rest next left old out new h is front =
    let one = front_then h.done next old out new h.out_is front in record {
      front = one.front;
      rest = one.rest ++ left;
      split =
          h.split ∙ ap (λ t. h.done ++ t) is ∙ sym (append_assoc h.done next left)
          ∙ ap (λ t. t ++ left) one.split ∙ append_assoc one.front one.rest left;
      new_is = one.new_is;
    }

pub so_far_end : {Value Error : Type 0} (codes rest old out : List ℕ) (value : Value)
    → AddedSoFar codes rest old out → rest ≡ []
    → Adding {Value = Value} {Error = Error} codes (Ok value) old out
so_far_end codes rest old out value h none =
    let all : codes ≡ h.done = h.split ∙ ap (λ t. h.done ++ t) none ∙ append-nil h.done in
    let whole = h.out_is ∙ ap (λ t. old ++ encode_utf8_all t) (sym all) in
    record { whole = whole; front = front_all codes old out whole }

-- one more of a character that is added many times
pub replicate_next : (n character : ℕ) → 0 < n
    → replicate n character ≡ (character ∷ []) ++ replicate (n - 1) character
replicate_next zero character some = let no : ⊥ = omega arith in absurd no
replicate_next (suc n) character some = ap (λ k. character ∷ replicate k character) (omega arith)
