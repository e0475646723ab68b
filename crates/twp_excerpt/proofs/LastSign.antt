-- The last sign of some bytes.
use Rattle.std.proofs.Common.{◌≡◌, ℕ, zero, suc, ◌+◌, ◌-◌, ◌<◌, ◌≤◌, true, List, [], ◌∷◌, ◌++◌, Option}
use Rattle.std.proofs.Common.{Some, None, length, take, drop, refl, sym, ap, subst, ◌∙◌, arith, ⊎_elim}
use Rattle.std.proofs.Common.{length-append, length-drop, take-append-drop, get_or-drop}
use Rattle.std.proofs.Common.{get_or-append-add, true≢false}
use Rattle.std.specs.Prelude.{slice_index}
use Rattle.std.proofs.lemmas.Bool.{cases_Bool, cases_lt, cases_eq}
use Rattle.std.proofs.lemmas.List.{drop-append-le, drop_all}
use Rattle.bstr.specs.Utf8.{Decoded, decoded, bad, continues, pieces, IsLastPiece}
use Rattle.bstr.proofs.lemmas.PieceLemmas.{StartsClean, continuation-alone, tail-continues, piece-bounds}
use Rattle.bstr.proofs.lemmas.PieceLemmas.{pieces-append, pieces-step, pieces-nil}
use Rattle.bstr.proofs.lemmas.SoundLemmas.{SpellsChar-decoded, IsLastPiece-decoded, IsLastPiece-same}
use Rattle.twp_excerpt.specs.Spots.{size_in}
use Rattle.twp_excerpt.specs.Signs.{Sign, character, stray, sign_of, first_sign, sign_size, signs}
use Rattle.twp_excerpt.proofs.SignFacts.{first_sign_size, first_sign_bounds, signs_step, no_signs}
use Rattle.twp_excerpt.proofs.SignFacts.{first_of_front, sizes, CutAt, cut_at, same_head}

-- a character at the start of some bytes does not begin with a continuation byte
clean_start : (bytes : List ℕ) (code : ℕ) → (decoded bytes).char ≡ Some code → StartsClean bytes
clean_start bytes code is some = ⊎_elim
    (λ more.
    let alone : decoded bytes ≡ bad 1 =
    continuation-alone (length bytes) (slice_index bytes 0) (slice_index bytes 1) (slice_index bytes 2)
    (slice_index bytes 3) some more in
    let no : None ≡ Some code = sym (ap (λ (p : Decoded). p.char) alone) ∙ is in
    absurd (cc))
    (λ clean. clean)
    (cases_Bool (continues (slice_index bytes 0)))

-- its other bytes are continuation bytes
inner_continues : (bytes : List ℕ) (k : ℕ) → 0 < length bytes → 0 < k → k < (decoded bytes).size
    → continues (slice_index bytes k) ≡ true
inner_continues bytes k some past below =
    let tail =
    tail-continues (length bytes) (slice_index bytes 0) (slice_index bytes 1) (slice_index bytes 2)
    (slice_index bytes 3) in
    let bounds = piece-bounds bytes some in
    let Continues : ℕ → Type 0 = λ j. continues (slice_index bytes j) ≡ true in
    ⊎_elim
    (λ one. subst Continues (sym one) (tail.0 (omega arith)))
    (λ other. ⊎_elim
    (λ two. subst Continues (sym two) (tail.1 (omega arith)))
    (λ more.
    let three : k ≡ 3 = omega arith in
    subst Continues (sym three) (tail.2 (omega arith)))
    (cases_eq k 2))
    (cases_eq k 1)

-- if the second of two texts does not begin with a continuation byte, the first sign of both
-- together is within the first text
size_when_long : (bytes : List ℕ) (char : Option ℕ) → (decoded bytes).char ≡ char
    → 1 < size_in char (decoded bytes).size
    → size_in char (decoded bytes).size ≡ (decoded bytes).size
size_when_long bytes (Some code) is long = refl
size_when_long bytes None is long = let no : ⊥ = omega arith in absurd no

fits_in_front : (xs ys : List ℕ) → 0 < length xs → StartsClean ys
    → sign_size (first_sign (xs ++ ys)) ≤ length xs
fits_in_front xs ys some clean = ⊎_elim
    (λ over.
    let bytes = xs ++ ys in
    let long = length-append xs ys in
    let bounds = first_sign_bounds bytes (omega arith) in
    let same = first_sign_size bytes in
    let size_is = size_when_long bytes (decoded bytes).char refl (omega (arith, same)) in
    let next : slice_index bytes (length xs + 0) ≡ slice_index ys 0 = get_or-append-add xs ys 0 0 in
    let more : continues (slice_index bytes (length xs + 0)) ≡ true =
    inner_continues bytes (length xs + 0) (omega arith) (omega arith) (omega (arith, same, size_is)) in
    absurd (true≢false (sym more ∙ ap continues next ∙ clean (omega (arith, bounds.1)))))
    (λ within. within)
    (cases_lt (length xs) (sign_size (first_sign (xs ++ ys))))

pub signs_append : (n : ℕ) (xs ys : List ℕ) → length xs ≤ n → StartsClean ys
    → signs (xs ++ ys) ≡ signs xs ++ signs ys
signs_append n [] ys few clean = ap (λ s. s ++ signs ys) (sym no_signs)
signs_append zero (x ∷ xs) ys few clean = let no : ⊥ = omega arith in absurd no
signs_append (suc n) (x ∷ xs) ys few clean =
    let front = x ∷ xs in
    let bytes = front ++ ys in
    let long = length-append front ys in
    let fits = fits_in_front front ys (omega arith) clean in
    let same : first_sign front ≡ first_sign bytes = first_of_front front ys (omega arith) fits in
    let size = sign_size (first_sign bytes) in
    let size_is : sign_size (first_sign front) ≡ size = ap sign_size same in
    let left = length-drop size front in
    let past = (first_sign_bounds bytes (omega arith)).0 in
    let rest = signs_append n (drop size front) ys (omega arith) clean in
    let of_front : signs front ≡ first_sign bytes ∷ signs (drop size front) =
    signs_step front (omega arith) ∙ ap (λ s. s ∷ signs (drop (sign_size (first_sign front)) front)) same
    ∙ ap (λ k. first_sign bytes ∷ signs (drop k front)) size_is in
    signs_step bytes (omega arith)
    ∙ ap (λ l. first_sign bytes ∷ signs l) (drop-append-le size front ys fits)
    ∙ ap (λ s. first_sign bytes ∷ s) rest ∙ ap (λ s. s ++ signs ys) (sym of_front)

-- bytes that make up one character
one_char : (bytes : List ℕ) (code : ℕ) → (decoded bytes).char ≡ Some code
    → (decoded bytes).size ≡ length bytes → 0 < length bytes
    → signs bytes ≡ character code ∷ []
one_char bytes code is whole some =
    let first : first_sign bytes ≡ character code =
    ap (λ char. sign_of char (slice_index bytes 0)) is in
    let size_is : sign_size (first_sign bytes) ≡ length bytes =
    ap sign_size first ∙ (SpellsChar-decoded bytes code is).width ∙ whole in
    signs_step bytes some
    ∙ ap (λ l. first_sign bytes ∷ signs l) (drop_all (sign_size (first_sign bytes)) bytes (omega arith))
    ∙ ap (λ s. first_sign bytes ∷ s) no_signs ∙ ap (λ s. s ∷ []) first

pub last_char : (bytes : List ℕ) (p : Decoded) (code : ℕ) → IsLastPiece bytes p → p.char ≡ Some code
    → signs bytes ≡ signs (take (length bytes - p.size) bytes) ++ character code ∷ []
last_char bytes p code last is =
    let at = length bytes - p.size in
    let tail = drop at bytes in
    let long = length-drop at bytes in
    let read : p ≡ decoded tail = IsLastPiece-decoded bytes p last in
    let char : (decoded tail).char ≡ Some code = ap (λ (q : Decoded). q.char) (sym read) ∙ is in
    let size : (decoded tail).size ≡ p.size = ap (λ (q : Decoded). q.size) (sym read) in
    ap signs (sym (take-append-drop at bytes))
    ∙ signs_append (length (take at bytes)) (take at bytes) tail (omega arith) (clean_start tail code char)
    ∙ ap (λ s. signs (take at bytes) ++ s)
    (one_char tail code char (omega (arith, last.fits)) (omega (arith, last.fits, last.some)))

-- the last of some signs
record Ends (list : List Sign) : Type 0 where
  pub front : List Sign
  pub end : Sign
  pub is : list ≡ front ++ end ∷ []

ends : (first : Sign) (rest : List Sign) → Ends (first ∷ rest)
ends first [] = record { front = []; end = first; is = refl }
ends first (next ∷ rest) =
    let more = ends next rest in
    record { front = first ∷ more.front; end = more.end; is = ap (λ s. first ∷ s) more.is }

-- bytes with a single sign
single : (bytes : List ℕ) (sign : Sign) → 0 < length bytes → signs bytes ≡ sign ∷ []
    → (first_sign bytes ≡ sign) × (sign_size sign ≡ length bytes)
single bytes sign some is =
    let size = sign_size (first_sign bytes) in
    let heads = same_head (first_sign bytes) sign _ _ (sym (signs_step bytes some) ∙ is) in
    let bounds = first_sign_bounds bytes some in
    let left = length-drop size bytes in
    let size_is : size ≡ sign_size sign = ap sign_size heads.0 in
    let none : length (drop size bytes) ≡ 0 = ⊎_elim
    (λ more.
    let no : [] ≡ first_sign (drop size bytes) ∷ _ = sym heads.1 ∙ signs_step (drop size bytes) more in
    absurd (cc))
    (λ no_more. omega arith)
    (cases_lt 0 (length (drop size bytes))) in
    (heads.0, omega arith)

-- if bytes end with a character, that is their last sign
char_is_last : (bytes : List ℕ) (at code : ℕ) → at < length bytes → (decoded (drop at bytes)).char ≡ Some code
    → (decoded (drop at bytes)).size ≡ length (drop at bytes)
    → IsLastPiece bytes (decoded (drop at bytes))
char_is_last bytes at code within is whole =
    let tail = drop at bytes in
    let long = length-drop at bytes in
    let size = (decoded tail).size in
    let start : length bytes - size ≡ at = omega (arith, whole) in
    let last : pieces tail ≡ decoded tail ∷ [] =
    pieces-step tail (omega arith) ∙ ap (λ l. decoded tail ∷ pieces l) (drop_all size tail (omega arith))
    ∙ ap (λ s. decoded tail ∷ s) pieces-nil in
    record {
      splits =
          ap pieces (sym (take-append-drop at bytes))
          ∙ pieces-append (length (take at bytes)) (take at bytes) tail (omega arith)
          (clean_start tail code is)
          ∙ ap (λ s. pieces (take at bytes) ++ s) last
          ∙ ap (λ k. pieces (take k bytes) ++ decoded tail ∷ []) (sym start);
      fits = omega arith;
      some = omega arith;
    }

-- the last sign is a single byte if no character ends there
stray_by : (bytes : List ℕ) (p : Decoded) (front : List Sign) (end : Sign) (char : Option ℕ)
    → IsLastPiece bytes p → p.char ≡ None → CutAt bytes front (end ∷ []) → sizes front < length bytes
    → (decoded (drop (sizes front) bytes)).char ≡ char
    → signs bytes ≡ front ++ end ∷ []
    → signs bytes ≡ signs (take (length bytes - 1) bytes) ++ stray (slice_index bytes (length bytes - 1)) ∷ []
stray_by bytes p front end None last none cut within is all =
    let at = sizes front in
    let tail = drop at bytes in
    let long = length-drop at bytes in
    let one = single tail end (omega arith) cut.rest_is in
    let first : first_sign tail ≡ stray (slice_index tail 0) =
    ap (λ char. sign_of char (slice_index tail 0)) is in
    let end_is : end ≡ stray (slice_index tail 0) = sym one.0 ∙ first in
    let size_is : sign_size end ≡ 1 = ap sign_size end_is in
    let at_is : at ≡ length bytes - 1 = omega (arith, one.1, size_is) in
    let byte : slice_index tail 0 ≡ slice_index bytes (length bytes - 1) =
    get_or-drop at bytes 0 0 ∙ ap (slice_index bytes) (omega arith) in
    all ∙ ap (λ s. s ++ end ∷ []) (sym cut.front_is)
    ∙ ap (λ k. signs (take k bytes) ++ end ∷ []) at_is
    ∙ ap (λ s. signs (take (length bytes - 1) bytes) ++ s ∷ []) (end_is ∙ ap stray byte)
stray_by bytes p front end (Some code) last none cut within is all =
    let at = sizes front in
    let tail = drop at bytes in
    let long = length-drop at bytes in
    let one = single tail end (omega arith) cut.rest_is in
    let first : first_sign tail ≡ character code =
    ap (λ char. sign_of char (slice_index tail 0)) is in
    let end_is : end ≡ character code = sym one.0 ∙ first in
    let size_is : sign_size end ≡ (decoded tail).size =
    ap sign_size end_is ∙ (SpellsChar-decoded tail code is).width in
    let whole : (decoded tail).size ≡ length tail = sym size_is ∙ one.1 in
    let same =
    IsLastPiece-same bytes p (decoded tail) last (char_is_last bytes at code within is whole) in
    let no : None ≡ Some code = sym none ∙ ap (λ (q : Decoded). q.char) same ∙ is in
    absurd (cc)

pub last_stray : (bytes : List ℕ) (p : Decoded) → 0 < length bytes → IsLastPiece bytes p → p.char ≡ None
    → signs bytes ≡ signs (take (length bytes - 1) bytes) ++ stray (slice_index bytes (length bytes - 1)) ∷ []
last_stray bytes p some last none =
    let it = ends (first_sign bytes) (signs (drop (sign_size (first_sign bytes)) bytes)) in
    let all : signs bytes ≡ it.front ++ it.end ∷ [] = signs_step bytes some ∙ it.is in
    let cut = cut_at it.front (it.end ∷ []) bytes all in
    let within : sizes it.front < length bytes = ⊎_elim
    (λ more. more)
    (λ over.
    let no : [] ≡ it.end ∷ [] =
    sym no_signs ∙ ap signs (sym (drop_all (sizes it.front) bytes over)) ∙ cut.rest_is in
    absurd (cc))
    (cases_lt (sizes it.front) (length bytes)) in
    stray_by bytes p it.front it.end (decoded (drop (sizes it.front) bytes)).char last none cut within refl
    all
