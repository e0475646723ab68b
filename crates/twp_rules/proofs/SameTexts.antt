-- Comparisons of bytes, as the definitions make them.
use Rattle.std.proofs.Common.{◌≡◌, ◌==◌, ◌&&◌, Bool, true, false, List, [], ◌∷◌, ℕ, refl, sym, ap, subst, ◌∙◌}
use Rattle.std.proofs.Common.{IsTrue, ◌↔◌, ◌≤◌, ◌-◌, length, drop, take}
use Rattle.std.proofs.lemmas.Bool.{eqb-true, eq-eqb, false≢true, le-leb}
use Rattle.std.proofs.lemmas.List.{length-map}
use Rattle.std.specs.Char.{to_ascii_lowercase}
use Rattle.std.specs.Str.{str_to_ascii_lowercase}
use Rattle.twp_grammar.specs.Tokens.{same_bytes}
use Rattle.twp_rules.specs.Edges.{ends_with, begins_with}

pub both : (x y : Bool) → (x && y) ≡ true → (x ≡ true) × (y ≡ true)
both true y h = (refl, h)
both false y h = cc h

-- the same bytes are the same list
pub same_tells : (xs ys : List ℕ) → same_bytes xs ys ≡ true → xs ≡ ys
same_tells [] [] h = refl
same_tells [] (y ∷ ys) h = cc h
same_tells (x ∷ xs) [] h = cc h
same_tells (x ∷ xs) (y ∷ ys) h =
    let parts = both (x == y) (same_bytes xs ys) h in
    let head : x ≡ y = eqb-true x y parts.0 in
    let tail : xs ≡ ys = same_tells xs ys parts.1 in
    rw (head, tail) refl

same_self : (xs : List ℕ) → same_bytes xs xs ≡ true
same_self [] = refl
same_self (x ∷ xs) = ap (λ e. e && same_bytes xs xs) (eq-eqb x x refl) ∙ same_self xs

-- the answer of a comparison
pub is_same : (answer : Bool) (xs ys : List ℕ) → (IsTrue answer ↔ (xs ≡ ys)) → answer ≡ same_bytes xs ys
is_same true xs ys h = subst (λ (zs : List ℕ). true ≡ same_bytes xs zs) (h.0 refl) (sym (same_self xs))
is_same false xs ys h = by_test (same_bytes xs ys) refl
  where
    by_test : (x : Bool) → same_bytes xs ys ≡ x → false ≡ same_bytes xs ys
    by_test true e = absurd (false≢true (h.1 (same_tells xs ys e)))
    by_test false e = sym e

-- a text with these as its last bytes
pub ends_when : (answer : Bool) (seen end last : List ℕ) → length end ≤ length seen
    → drop (length seen - length end) seen ≡ last
    → answer ≡ same_bytes (str_to_ascii_lowercase last) end → answer ≡ ends_with seen end
ends_when answer seen end last fits is_last is =
    is
    ∙ ap (λ (bytes : List ℕ). same_bytes (str_to_ascii_lowercase bytes) end) (sym is_last)
    ∙ sym (ap (λ e. e && same_bytes (str_to_ascii_lowercase (drop (length seen - length end) seen)) end)
    (le-leb (length end) (length seen) fits))

-- a text with these as its first bytes
pub begins_when : (answer : Bool) (seen front first : List ℕ) → length front ≤ length seen
    → take (length front) seen ≡ first
    → answer ≡ same_bytes (str_to_ascii_lowercase first) front → answer ≡ begins_with seen front
begins_when answer seen front first fits is_first is =
    is
    ∙ ap (λ (bytes : List ℕ). same_bytes (str_to_ascii_lowercase bytes) front) (sym is_first)
    ∙ sym (ap (λ e. e && same_bytes (str_to_ascii_lowercase (take (length front) seen)) front)
    (le-leb (length front) (length seen) fits))

-- texts of different lengths are different
pub other_size : (seen text : List ℕ) → (length seen ≡ length text → ⊥) → same_bytes seen text ≡ false
other_size seen text other = by_test (same_bytes seen text) refl
  where
    by_test : (t : Bool) → same_bytes seen text ≡ t → t ≡ false
    by_test true e = absurd (other (ap length (same_tells seen text e)))
    by_test false e = refl

-- so they are in lowercase
pub other_length : (seen text : List ℕ) → (length seen ≡ length text → ⊥)
    → same_bytes (str_to_ascii_lowercase seen) text ≡ false
other_length seen text other = by_test (same_bytes (str_to_ascii_lowercase seen) text) refl
  where
    by_test : (t : Bool) → same_bytes (str_to_ascii_lowercase seen) text ≡ t → t ≡ false
    by_test true e =
        absurd (other (sym (length-map seen to_ascii_lowercase)
        ∙ ap length (same_tells (str_to_ascii_lowercase seen) text e)))
    by_test false e = refl
