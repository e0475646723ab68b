-- The signs of some bytes: the first and those after it, and where bytes can be cut.
use Rattle.std.proofs.Common.{◌≡◌, ℕ, zero, suc, ◌+◌, ◌<◌, ◌≤◌, true, List, [], ◌∷◌, ◌++◌, Option}
use Rattle.std.proofs.Common.{Some, None, length, take, drop, refl, sym, ap, ap₂, subst, ◌∙◌, arith, ⊎_elim}
use Rattle.std.proofs.Common.{append_assoc, length-drop, length-take-le, take-append-drop, drop-drop}
use Rattle.std.proofs.Common.{take_all}
use Rattle.std.specs.Prelude.{slice_index, encode_utf8}
use Rattle.std.proofs.lemmas.List.{drop-take, get_or_append_left, take-append-le}
use Rattle.std.proofs.lemmas.Bool.{cases_lt}
use Rattle.std.proofs.Math.Utf8.{scalar}
use Rattle.bstr.specs.Utf8.{Decoded, decoded}
use Rattle.bstr.proofs.lemmas.EncodeLemmas.{decoded-encode}
use Rattle.bstr.proofs.lemmas.PieceLemmas.{size-zero}
use Rattle.bstr.proofs.lemmas.SoundLemmas.{SpellsChar-decoded}
use Rattle.twp_excerpt.specs.Spots.{first_size, size_in}
use Rattle.twp_excerpt.specs.Signs.{Sign, character, stray, sign_of, first_sign, sign_size, signs_within}
use Rattle.twp_excerpt.specs.Signs.{signs}
use Rattle.twp_excerpt.proofs.SpotFacts.{first_size_bounds}

-- the first sign takes as many bytes as the first character, or one
size_of_char : (bytes : List ℕ) (char : Option ℕ) → (decoded bytes).char ≡ char
    → sign_size (sign_of char (slice_index bytes 0)) ≡ size_in char (decoded bytes).size
size_of_char bytes None is = refl
size_of_char bytes (Some code) is = (SpellsChar-decoded bytes code is).width

pub first_sign_size : (bytes : List ℕ) → sign_size (first_sign bytes) ≡ first_size bytes
first_sign_size bytes = size_of_char bytes (decoded bytes).char refl

pub first_sign_bounds : (bytes : List ℕ) → 0 < length bytes
    → (0 < sign_size (first_sign bytes)) × (sign_size (first_sign bytes) ≤ length bytes)
first_sign_bounds bytes some =
    let same = first_sign_size bytes in
    let bounds = first_size_bounds bytes some in
    (omega (arith, same, bounds.0), omega (arith, same, bounds.1))

-- more fuel than enough makes no difference
same_signs : (n m : ℕ) (bytes : List ℕ) → length bytes ≤ n → length bytes ≤ m
    → signs_within n bytes ≡ signs_within m bytes
unfolding signs_within
same_signs zero zero [] a b = refl
same_signs zero (suc m) [] a b = refl
same_signs (suc n) zero [] a b = refl
same_signs (suc n) (suc m) [] a b = refl
same_signs zero m (byte ∷ rest) a b = let no : ⊥ = omega arith in absurd no
same_signs (suc n) zero (byte ∷ rest) a b = let no : ⊥ = omega arith in absurd no
same_signs (suc n) (suc m) (byte ∷ rest) a b =
    let size = sign_size (first_sign (byte ∷ rest)) in
    let some = (first_sign_bounds (byte ∷ rest) (omega arith)).0 in
    let left = length-drop size (byte ∷ rest) in
    ap (λ s. first_sign (byte ∷ rest) ∷ s)
    (same_signs n m (drop size (byte ∷ rest)) (omega arith) (omega arith))

pub signs_step : (bytes : List ℕ) → 0 < length bytes
    → signs bytes ≡ first_sign bytes ∷ signs (drop (sign_size (first_sign bytes)) bytes)
unfolding signs_within
signs_step [] some = let no : ⊥ = omega arith in absurd no
signs_step (byte ∷ rest) some =
    let size = sign_size (first_sign (byte ∷ rest)) in
    let past = (first_sign_bounds (byte ∷ rest) some).0 in
    let left = length-drop size (byte ∷ rest) in
    ap (λ s. first_sign (byte ∷ rest) ∷ s)
    (same_signs (length rest) (length (drop size (byte ∷ rest))) (drop size (byte ∷ rest))
    (omega arith) (omega arith))

pub no_signs : signs [] ≡ []
unfolding signs_within
no_signs = refl

pub encoded_some : (code : ℕ) → scalar code ≡ true → 0 < length (encode_utf8 code)
encoded_some code is = ⊎_elim
    (λ some. some)
    (λ none.
    let bytes = encode_utf8 code ++ [] in
    let read = decoded-encode code [] is in
    let empty : bytes ≡ [] = size-zero bytes (ap (λ (p : Decoded). p.size) read ∙ omega arith) in
    let no : None ≡ Some code =
    ap (λ l. (decoded l).char) (sym empty) ∙ ap (λ (p : Decoded). p.char) read in
    absurd (cc))
    (cases_lt 0 (length (encode_utf8 code)))

-- the bytes of a character are read as that character, whatever follows
pub first_encoded : (code : ℕ) (rest : List ℕ) → scalar code ≡ true
    → first_sign (encode_utf8 code ++ rest) ≡ character code
first_encoded code rest is =
    ap (λ char. sign_of char (slice_index (encode_utf8 code ++ rest) 0))
    (ap (λ (p : Decoded). p.char) (decoded-encode code rest is))

-- a prefix that contains the first sign's bytes begins with that sign
front_of_char : (xs ys : List ℕ) (code : ℕ) → (decoded (xs ++ ys)).char ≡ Some code
    → (decoded (xs ++ ys)).size ≤ length xs
    → first_sign xs ≡ character code
front_of_char xs ys code is fits =
    let spells = SpellsChar-decoded (xs ++ ys) code is in
    let size = (decoded (xs ++ ys)).size in
    let bytes = encode_utf8 code in
    let short : length bytes ≤ length xs = omega (arith, spells.width) in
    let front : take (length bytes) xs ≡ bytes =
    sym (take-append-le (length bytes) xs ys short) ∙ ap (take (length bytes)) spells.bytes
    ∙ take-append-le (length bytes) bytes (drop size (xs ++ ys)) (omega arith)
    ∙ take_all (length bytes) bytes (omega arith) in
    let whole : xs ≡ bytes ++ drop (length bytes) xs =
    sym (take-append-drop (length bytes) xs) ∙ ap (λ t. t ++ drop (length bytes) xs) front in
    ap first_sign whole ∙ first_encoded code (drop (length bytes) xs) spells.scalar

first_by_char : (xs ys : List ℕ) (whole front : Option ℕ) → (decoded (xs ++ ys)).char ≡ whole
    → (decoded xs).char ≡ front → 0 < length xs
    → sign_size (sign_of whole (slice_index (xs ++ ys) 0)) ≤ length xs
    → first_sign xs ≡ sign_of whole (slice_index (xs ++ ys) 0)
first_by_char xs ys (Some code) front w f some fits =
    front_of_char xs ys code w (omega (arith, (SpellsChar-decoded (xs ++ ys) code w).width))
first_by_char xs ys None None w f some fits =
    ap (λ char. sign_of char (slice_index xs 0)) f
    ∙ ap stray (sym (get_or_append_left xs ys 0 0 some))
first_by_char xs ys None (Some code) w f some fits =
    let spells = SpellsChar-decoded xs code f in
    let read = decoded-encode code (drop (decoded xs).size xs ++ ys) spells.scalar in
    let same : xs ++ ys ≡ encode_utf8 code ++ (drop (decoded xs).size xs ++ ys) =
    ap (λ t. t ++ ys) spells.bytes ∙ append_assoc (encode_utf8 code) (drop (decoded xs).size xs) ys in
    let is : None ≡ Some code =
    sym w ∙ ap (λ (l : List ℕ). (decoded l).char) same ∙ ap (λ (p : Decoded). p.char) read in
    absurd (cc)

pub first_of_front : (xs ys : List ℕ) → 0 < length xs → sign_size (first_sign (xs ++ ys)) ≤ length xs
    → first_sign xs ≡ first_sign (xs ++ ys)
first_of_front xs ys some fits =
    first_by_char xs ys (decoded (xs ++ ys)).char (decoded xs).char refl refl some fits

-- how many bytes signs take
pub sizes : List Sign → ℕ
sizes [] = 0
sizes (sign ∷ rest) = sign_size sign + sizes rest

pub sizes_append : (a b : List Sign) → sizes (a ++ b) ≡ sizes a + sizes b
unfolding sizes
sizes_append [] b = omega arith
sizes_append (sign ∷ rest) b = omega (arith, sizes_append rest b)

pub sizes_of_one : (sign : Sign) → sizes (sign ∷ []) ≡ sign_size sign
unfolding sizes
sizes_of_one sign = omega arith

signs_total_in : (n : ℕ) (bytes : List ℕ) → length bytes ≤ n → sizes (signs bytes) ≡ length bytes
unfolding sizes
signs_total_in n [] few = ap sizes no_signs
signs_total_in zero (byte ∷ rest) few = let no : ⊥ = omega arith in absurd no
signs_total_in (suc n) (byte ∷ rest) few =
    let bytes = byte ∷ rest in
    let size = sign_size (first_sign bytes) in
    let bounds = first_sign_bounds bytes (omega arith) in
    let left = length-drop size bytes in
    let step = ap sizes (signs_step bytes (omega arith)) in
    omega (arith, step, signs_total_in n (drop size bytes) (omega arith), bounds.0, bounds.1)

pub signs_total : (bytes : List ℕ) → sizes (signs bytes) ≡ length bytes
signs_total bytes = signs_total_in (length bytes) bytes (omega arith)

-- a prefix cut between signs has the first signs, and the other bytes have the others
pub record CutAt (bytes : List ℕ) (front rest : List Sign) : Type 0 where
  pub within : sizes front ≤ length bytes
  pub front_is : signs (take (sizes front) bytes) ≡ front
  pub rest_is : signs (drop (sizes front) bytes) ≡ rest

pub same_head : (a b : Sign) (xs ys : List Sign) → a ∷ xs ≡ b ∷ ys → (a ≡ b) × (xs ≡ ys)
same_head a b xs ys e = (cc, cc)

pub cut_at : (front rest : List Sign) (bytes : List ℕ) → signs bytes ≡ front ++ rest → CutAt bytes front rest
unfolding sizes
cut_at [] rest bytes is = record { within = omega arith; front_is = no_signs; rest_is = is }
cut_at (sign ∷ front) rest [] is =
    let no : [] ≡ sign ∷ (front ++ rest) = sym no_signs ∙ is in
    absurd (cc)
cut_at (sign ∷ front) rest (byte ∷ left) is =
    let bytes = byte ∷ left in
    let some : 0 < length bytes = omega arith in
    let heads = same_head (first_sign bytes) sign _ _ (sym (signs_step bytes some) ∙ is) in
    let size = sign_size sign in
    let size_is : sign_size (first_sign bytes) ≡ size = ap sign_size heads.0 in
    let bounds = first_sign_bounds bytes some in
    let after : signs (drop size bytes) ≡ front ++ rest =
    ap (λ n. signs (drop n bytes)) (sym size_is) ∙ heads.1 in
    let inner = cut_at front rest (drop size bytes) after in
    let long = length-drop size bytes in
    let total = size + sizes front in
    let within : total ≤ length bytes = omega (arith, inner.within, size_is, bounds.1) in
    let head = take total bytes in
    let whole : head ++ drop total bytes ≡ bytes = take-append-drop total bytes in
    let head_long : length head ≡ total = length-take-le total bytes within in
    let first : first_sign head ≡ sign =
    first_of_front head (drop total bytes) (omega (arith, size_is, bounds.0))
    (subst (λ l. sign_size (first_sign l) ≤ length head) (sym whole) (omega (arith, size_is)))
    ∙ ap first_sign whole ∙ heads.0 in
    let first_is : sign_size (first_sign head) ≡ size = ap sign_size first in
    record {
      within = within;
      front_is =
          signs_step head (omega (arith, size_is, bounds.0))
          ∙ ap₂ (λ s n. s ∷ signs (drop n head)) first first_is
          ∙ ap (λ l. sign ∷ signs l) (drop-take size (sizes front) bytes)
          ∙ ap (λ l. sign ∷ l) inner.front_is;
      rest_is =
          ap signs (sym (drop-drop (sizes front) size bytes)) ∙ inner.rest_is;
    }
