-- The text of a plat, line by line.
use Rattle.std.proofs.Common.{◌≡◌, ℕ, suc, ◌+◌, ◌-◌, ◌≤◌, List, [], ◌++◌}
use Rattle.std.proofs.Common.{ap, refl, sym, ◌∙◌, arith, append_assoc}
use Rattle.std.specs.Prelude.{OnOk, Result, Ok, Err}
use Rattle.std.proofs.lemmas.List.{append-nil}
use Rattle.twp_grid.specs.Winding.{SECTION_COUNT}
use Rattle.twp_answers.specs.PlatAnswers.{texts_to}

pub no_texts : (text : ℕ → List ℕ) → texts_to 0 text ≡ []
unfolding texts_to
no_texts text = refl

-- one more text
pub texts_next : (n : ℕ) (text : ℕ → List ℕ) → texts_to (n + 1) text ≡ texts_to n text ++ text (n + 1)
unfolding texts_to
texts_next n text = let e : n + 1 ≡ suc n = omega arith in rw e refl

-- the texts of numbers after a name, and an end
pub texts_begin : (old name new : List ℕ) (text : ℕ → List ℕ) → new ≡ old ++ name
    → new ≡ old ++ (name ++ texts_to 0 text)
texts_begin old name new text is = rw (no_texts text, append-nil name) is

pub texts_grow : (old name now new more : List ℕ) (n : ℕ) (text : ℕ → List ℕ)
    → now ≡ old ++ (name ++ texts_to n text) → new ≡ now ++ more → more ≡ text (n + 1)
    → new ≡ old ++ (name ++ texts_to (n + 1) text)
texts_grow old name now new more n text is is' last =
    is'
    ∙ ap (λ t. t ++ more) is
    ∙ append_assoc old (name ++ texts_to n text) more
    ∙ ap (λ t. old ++ t) (append_assoc name (texts_to n text) more)
    ∙ ap (λ t. old ++ (name ++ t)) (ap (λ t. texts_to n text ++ t) last ∙ sym (texts_next n text))

pub texts_end : (old name texts now new total : List ℕ) → now ≡ old ++ (name ++ texts) → new ≡ now ++ total
    → new ≡ old ++ (name ++ texts ++ total)
texts_end old name texts now new total is is' =
    is' ∙ ap (λ t. t ++ total) is ∙ append_assoc old (name ++ texts) total

-- a fact that holds for every value, if a result is Ok
pub on_ok : {T E : Type 0} (r : Result T E) (P Q : Type 0) → OnOk r P → (P → Q) → OnOk r Q
on_ok (Ok x) P Q h f = f h
on_ok (Err e) P Q h f = tt

-- the line of one more number
pub lines_grow : (number : ℕ) (now new more : List ℕ) (text : ℕ → List ℕ) → 1 ≤ number
    → now ≡ texts_to (number - 1) text → new ≡ now ++ more → more ≡ text number
    → new ≡ texts_to (number + 1 - 1) text
lines_grow number now new more text first is is' last =
    let count : number + 1 - 1 ≡ number - 1 + 1 = omega arith in
    let here : number - 1 + 1 ≡ number = omega arith in
    rw count
    (is'
    ∙ ap (λ t. t ++ more) is
    ∙ ap (λ t. texts_to (number - 1) text ++ t) (last ∙ ap text (sym here))
    ∙ sym (texts_next (number - 1) text))

-- the lines of all sections
pub lines_all : (number : ℕ) (now : List ℕ) (text : ℕ → List ℕ) → number - 1 ≡ SECTION_COUNT
    → now ≡ texts_to (number - 1) text → now ≡ texts_to SECTION_COUNT text
lines_all number now text all is = rw all at is

-- two texts after all lines
pub lines_end : (lines name total now mid new : List ℕ) → now ≡ lines → mid ≡ now ++ name → new ≡ mid ++ total
    → new ≡ lines ++ name ++ total
lines_end lines name total now mid new is is' is'' =
    is'' ∙ ap (λ t. t ++ total) (is' ∙ ap (λ t. t ++ name) is)
