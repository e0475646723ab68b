-- An offset of a quoted text, one byte of the text at a time, over plain values.
use Rattle.std.proofs.Common.{◌≡◌, ℕ, ◌+◌, ◌-◌, ◌==◌, ◌<◌, true, false, List, [], ◌∷◌}
use Rattle.std.proofs.Common.{length, drop, refl, ap, ◌∙◌, arith, drop-drop, length-drop}
use Rattle.std.proofs.lemmas.Bool.{ne_eqb}
use Rattle.twp_grammar.specs.Tokens.{begins_with}
use Rattle.twp_diagnose.specs.Origins.{is_mark, place_at_closing, place_in_quotes}

-- the mark closes the quotation
closing : (bytes : List ℕ) (at : ℕ) → begins_with is_mark bytes ≡ true
    → begins_with is_mark (drop 1 bytes) ≡ false
    → place_in_quotes bytes at ≡ place_at_closing (drop 1 bytes) at
unfolding place_in_quotes
closing [] at mark single = cc mark
closing (byte ∷ []) at mark single = rw mark refl
closing (byte ∷ next ∷ rest) at mark single = rw (mark, single) refl

pub closing_at : (file : List ℕ) (index at : ℕ) → begins_with is_mark (drop index file) ≡ true
    → begins_with is_mark (drop (index + 1) file) ≡ false
    → place_in_quotes (drop index file) at ≡ place_at_closing (drop (index + 1) file) at
closing_at file index at mark single =
    let next = drop-drop 1 index file in
    closing (drop index file) at mark (ap (begins_with is_mark) next ∙ single)
    ∙ ap (λ bytes. place_at_closing bytes at) next

-- two marks are one byte of the text
doubled : (bytes : List ℕ) (at : ℕ) → begins_with is_mark bytes ≡ true
    → begins_with is_mark (drop 1 bytes) ≡ true → (at == 0) ≡ false
    → place_in_quotes bytes at ≡ 2 + place_in_quotes (drop 2 bytes) (at - 1)
unfolding place_in_quotes
doubled [] at mark again more = cc mark
doubled (byte ∷ []) at mark again more = cc again
doubled (byte ∷ next ∷ rest) at mark again more = rw (mark, again, more) refl

pub doubled_at : (file : List ℕ) (index at : ℕ) → begins_with is_mark (drop index file) ≡ true
    → begins_with is_mark (drop (index + 1) file) ≡ true → (at ≡ 0 → ⊥)
    → place_in_quotes (drop index file) at ≡ 2 + place_in_quotes (drop (index + 2) file) (at - 1)
doubled_at file index at mark again more =
    doubled (drop index file) at mark (ap (begins_with is_mark) (drop-drop 1 index file) ∙ again)
    (ne_eqb at 0 more)
    ∙ ap (λ bytes. 2 + place_in_quotes bytes (at - 1)) (drop-drop 2 index file)

-- another byte is one of the text too
plain : (bytes : List ℕ) (at : ℕ) → 0 < length bytes → begins_with is_mark bytes ≡ false → (at == 0) ≡ false
    → place_in_quotes bytes at ≡ 1 + place_in_quotes (drop 1 bytes) (at - 1)
unfolding place_in_quotes
plain [] at some other more = absurd (omega (arith, some))
plain (byte ∷ []) at some other more = rw (other, more) refl
plain (byte ∷ next ∷ rest) at some other more = rw (other, more) refl

pub plain_at : (file : List ℕ) (index at : ℕ) → index < length file
    → begins_with is_mark (drop index file) ≡ false → (at ≡ 0 → ⊥)
    → place_in_quotes (drop index file) at ≡ 1 + place_in_quotes (drop (index + 1) file) (at - 1)
plain_at file index at within other more =
    plain (drop index file) at (omega (arith, within, length-drop index file)) other (ne_eqb at 0 more)
    ∙ ap (λ bytes. 1 + place_in_quotes bytes (at - 1)) (drop-drop 1 index file)

-- the next byte of the text is here
both_here : (bytes : List ℕ) → begins_with is_mark bytes ≡ true → begins_with is_mark (drop 1 bytes) ≡ true
    → place_in_quotes bytes 0 ≡ 0
unfolding place_in_quotes
both_here [] mark again = cc mark
both_here (byte ∷ []) mark again = cc again
both_here (byte ∷ next ∷ rest) mark again = rw (mark, again) refl

pub doubled_here : (file : List ℕ) (index : ℕ) → begins_with is_mark (drop index file) ≡ true
    → begins_with is_mark (drop (index + 1) file) ≡ true → place_in_quotes (drop index file) 0 ≡ 0
doubled_here file index mark again =
    both_here (drop index file) mark (ap (begins_with is_mark) (drop-drop 1 index file) ∙ again)

pub plain_here : (bytes : List ℕ) → begins_with is_mark bytes ≡ false → place_in_quotes bytes 0 ≡ 0
unfolding place_in_quotes
plain_here [] other = refl
plain_here (byte ∷ []) other = rw other refl
plain_here (byte ∷ next ∷ rest) other = rw other refl
