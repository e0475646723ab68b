-- The first and the last byte of a text, by which most rows are ruled out.
use Rattle.std.proofs.Common.{◌≡◌, ◌==◌, Bool, true, false, List, [], ◌∷◌, ℕ, suc, refl, sym, ap}
use Rattle.std.proofs.Common.{◌∙◌}
use Rattle.std.proofs.Common.{◌≤◌, ◌+◌, ◌-◌, length, drop, take, slice_index_or, nat_le, arith}
use Rattle.std.proofs.lemmas.Bool.{eqb-true}
use Rattle.std.proofs.lemmas.List.{get_or-drop}
use Rattle.std.proofs.Math.ListN.{get_or-map}
use Rattle.std.proofs.lemmas.Bool.{leb-true}
use Rattle.std.specs.Char.{to_ascii_lowercase}
use Rattle.std.specs.Str.{str_to_ascii_lowercase}
use Rattle.twp_rules.specs.Edges.{begins_with, ends_with}
use Rattle.twp_grammar.specs.Tokens.{same_bytes}
use Rattle.twp_rules.specs.Lists.{before}
use Rattle.twp_rules.specs.steps.Rows.{without}
use Rattle.twp_rules.proofs.SameTexts.{both, same_tells}

-- the last byte, or the mark if there is none
abbrev last : List ℕ → ℕ
last bytes = slice_index_or bytes (length bytes - 1) 95

-- a text begins with the first byte of a front
first_of_front : (seen : List ℕ) (byte : ℕ) (front : List ℕ) → begins_with seen (byte ∷ front) ≡ true
    → byte ≡ to_ascii_lowercase (slice_index_or seen 0 95)
first_of_front [] byte front h =
    let fits = leb-true (length (byte ∷ front)) 0 (both (nat_le (length (byte ∷ front)) 0)
    (same_bytes (str_to_ascii_lowercase (take (length (byte ∷ front)) [])) (byte ∷ front)) h).0 in
    absurd (omega arith)
first_of_front (x ∷ xs) byte front h =
    let same = (both (nat_le (length (byte ∷ front)) (length (x ∷ xs)))
    (same_bytes (str_to_ascii_lowercase (take (length (byte ∷ front)) (x ∷ xs))) (byte ∷ front)) h).1 in
    let head = (both (to_ascii_lowercase x == byte)
    (same_bytes (str_to_ascii_lowercase (take (length front) xs)) front) same).0 in
    sym (eqb-true (to_ascii_lowercase x) byte head)

-- a row with another first byte than a text is not its front
pub other_first : (seen row : List ℕ)
    → (slice_index_or row 0 95 ≡ 95 → ⊥)
    → (slice_index_or row 0 95 ≡ to_ascii_lowercase (slice_index_or seen 0 95) → ⊥)
    → begins_with seen (before 95 row) ≡ false
other_first seen [] some other = absurd (some refl)
other_first seen (byte ∷ bytes) some other = by_test (byte == 95) refl
  where
    by_answer : (t : Bool) → begins_with seen (byte ∷ before 95 bytes) ≡ t → t ≡ false
    by_answer true e = absurd (other (first_of_front seen byte (before 95 bytes) e))
    by_answer false e = refl

    by_test : (t : Bool) → (byte == 95) ≡ t → begins_with seen (before 95 (byte ∷ bytes)) ≡ false
    by_test true e = absurd (some (eqb-true byte 95 e))
    by_test false e = rw e (by_answer (begins_with seen (byte ∷ before 95 bytes)) refl)

-- one byte more before the last
longer : (byte second : ℕ) (bytes : List ℕ) → last (second ∷ bytes) ≡ last (byte ∷ second ∷ bytes)
longer byte second bytes =
    let one : suc (suc (length bytes)) - 1 ≡ suc (length bytes) = omega arith in
    let other : suc (length bytes) - 1 ≡ length bytes = omega arith in
    rw (one, other) refl

-- a row has the last byte of its text
last_of_text : (row : List ℕ) → last (without 95 row) ≡ last row
last_of_text [] = refl
last_of_text (byte ∷ []) = by_test (byte == 95) refl
  where
    by_test : (t : Bool) → (byte == 95) ≡ t → last (without 95 (byte ∷ [])) ≡ byte
    by_test true e = rw (eqb-true byte 95 e) refl
    by_test false e = rw e refl
last_of_text (byte ∷ second ∷ bytes) = by_test (last_of_text (second ∷ bytes)) (byte == 95) refl
  where
    by_test : last (without 95 (second ∷ bytes)) ≡ last (second ∷ bytes) → (t : Bool) → (byte == 95) ≡ t
        → last (without 95 (byte ∷ second ∷ bytes)) ≡ last (byte ∷ second ∷ bytes)
    by_test more true e = rw e (more ∙ longer byte second bytes)
    by_test more false e = rw e refl

-- a text ends with the last byte of an end
last_of_end : (seen end : List ℕ) → ends_with seen end ≡ true → (last end ≡ 95 → ⊥)
    → last end ≡ to_ascii_lowercase (last seen)
last_of_end seen [] h some = absurd (some refl)
last_of_end seen (byte ∷ bytes) h some =
    let end = byte ∷ bytes in
    let from = length seen - length end in
    let parts = both (nat_le (length end) (length seen))
    (same_bytes (str_to_ascii_lowercase (drop from seen)) end) h in
    let fits : length end ≤ length seen = leb-true (length end) (length seen) parts.0 in
    let same : str_to_ascii_lowercase (drop from seen) ≡ end =
    same_tells (str_to_ascii_lowercase (drop from seen)) end parts.1 in
    let at : from + (length end - 1) ≡ length seen - 1 = omega arith in
    ap (λ (xs : List ℕ). slice_index_or xs (length end - 1) 95) (sym same)
    ∙ get_or-map to_ascii_lowercase (drop from seen) (length end - 1) 95
    ∙ ap to_ascii_lowercase (get_or-drop from seen (length end - 1) 95)
    ∙ ap (λ (n : ℕ). to_ascii_lowercase (slice_index_or seen n 95)) at

-- a row with another last byte than a text is not its end
pub other_last : (seen row : List ℕ)
    → (last row ≡ 95 → ⊥)
    → (last row ≡ to_ascii_lowercase (last seen) → ⊥)
    → ends_with seen (without 95 row) ≡ false
other_last seen row some other = by_test (ends_with seen (without 95 row)) refl
  where
    by_test : (t : Bool) → ends_with seen (without 95 row) ≡ t → t ≡ false
    by_test true e =
        let is_last = last_of_text row in
        absurd (other (sym is_last
        ∙ last_of_end seen (without 95 row) e (λ (h : last (without 95 row) ≡ 95). some (sym is_last ∙ h))))
    by_test false e = refl
