-- A text of characters that are shown is not changed by escaping.
use Rattle.std.proofs.Common.{◌≡◌, ℕ, ◌<◌, true, List, [], ◌∷◌, ◌++◌, length, drop, sym, ap, ap₂, ◌∙◌}
use Rattle.std.proofs.Common.{arith, length-append}
use Rattle.std.specs.Prelude.{encode_utf8, encode_utf8_all, cond}
use Rattle.std.specs.List.{list_all, flat_map}
use Rattle.std.proofs.lemmas.Bool.{and_parts}
use Rattle.twp_excerpt.specs.Shown.{IsShownText, is_shown}
use Rattle.twp_excerpt.specs.Signs.{character, first_sign, sign_size, signs, written, escape, escaped}
use Rattle.twp_excerpt.proofs.ShownFacts.{drop_front, shown_scalar}
use Rattle.twp_excerpt.proofs.SignFacts.{encoded_some, first_encoded, signs_step, no_signs}

escaped_next : (code : ℕ) (rest : List ℕ) → is_shown code ≡ true
    → escaped (encode_utf8 code ++ rest) ≡ code ∷ escaped rest
escaped_next code rest shown =
    let bytes = encode_utf8 code ++ rest in
    let scalar_is = shown_scalar code shown in
    let first : first_sign bytes ≡ character code = first_encoded code rest scalar_is in
    let some : 0 < length bytes =
    omega (arith, encoded_some code scalar_is, length-append (encode_utf8 code) rest) in
    ap (flat_map written) (signs_step bytes some)
    ∙ ap (λ s. written s ++ flat_map written (signs (drop (sign_size s) bytes))) first
    ∙ ap₂ (λ a l. a ++ flat_map written (signs l))
    (ap (λ b. cond b (code ∷ []) (escape code)) shown)
    (drop_front (encode_utf8 code) rest)

escaped_codes : (codes : List ℕ) → list_all is_shown codes ≡ true → escaped (encode_utf8_all codes) ≡ codes
escaped_codes [] all = ap (flat_map written) no_signs
escaped_codes (code ∷ codes) all =
    let parts = and_parts (is_shown code) (list_all is_shown codes) all in
    escaped_next code (encode_utf8_all codes) parts.0 ∙ ap (λ t. code ∷ t) (escaped_codes codes parts.1)

pub shown_same : (bytes old new : List ℕ) → IsShownText bytes → new ≡ old ++ encode_utf8_all (escaped bytes)
    → new ≡ old ++ bytes
shown_same bytes old new shown e =
    e
    ∙ ap (λ t. old ++ encode_utf8_all t)
    (ap escaped shown.text_is ∙ escaped_codes shown.codes shown.all_pass)
    ∙ ap (λ t. old ++ t) (sym shown.text_is)
