-- The text of a length, by its parts before and after its first point.
use Rattle.std.proofs.Common.{◌≡◌, ◌==◌, ℕ, ◌+◌, ◌*◌, ◌<◌, ◌≤◌, ◌⊎◌, false, List, ◌∷◌, ◌++◌, length}
use Rattle.std.proofs.Common.{drop, get_or, refl, ap, sym, ◌∙◌, inl, inr, arith, length-append}
use Rattle.std.specs.Int.{IsInRange}
use Rattle.std.specs.Str.Parse.{AllDigits, IsNumeral, digits_value}
use Rattle.std.proofs.lemmas.Bool.{ne_eqb, eqb-true}
use Rattle.std.proofs.lemmas.List.{take_all, take_at, get_or_append_left}
use Rattle.std.proofs.lemmas.List.Sums.{position_or_len_is, split_at_first, passes_at_first}
use Rattle.std.proofs.lemmas.Str.Parse.{digit_at}
use Rattle.std.proofs.Math.Seq.{get_or-append_seam, drop-append-add}
use Rattle.twp_measure.specs.LengthTexts.{point, place_of_point, before_point, after_point}
use Rattle.twp_measure.specs.LengthTexts.{fraction_of, IsLengthText}

-- a digit is not a point
not_point : (digits : List ℕ) (k : ℕ) → AllDigits 10 digits → k < length digits
    → (get_or digits k 0 == point) ≡ false
not_point digits k all in_range =
    let range : IsInRange 48 57 (get_or digits k 0) = digit_at digits k all in_range in
    ne_eqb (get_or digits k 0) point (λ same. absurd (omega arith))

pub place_in_digits : (digits : List ℕ) → AllDigits 10 digits → place_of_point digits ≡ length digits
place_in_digits digits all =
    position_or_len_is (λ byte. byte == point) digits (length digits) 0 (omega arith)
    (λ k below. not_point digits k all below) (λ over. absurd (omega arith))

pub place_after_digits : (whole decimals : List ℕ) → AllDigits 10 whole
    → place_of_point (whole ++ point ∷ decimals) ≡ length whole
place_after_digits whole decimals all =
    position_or_len_is (λ byte. byte == point) (whole ++ point ∷ decimals) (length whole) 0
    (rw (length-append whole (point ∷ decimals)) (omega arith))
    (λ k below. rw (get_or_append_left whole (point ∷ decimals) 0 k below) (not_point whole k all below))
    (λ _. rw (get_or-append_seam whole point decimals 0) refl)

-- the bytes after the byte that follows a prefix
one_past : (front back : List ℕ) (byte : ℕ) → drop (length front + 1) (front ++ byte ∷ back) ≡ back
one_past front back byte = rw (drop-append-add front (byte ∷ back) 1) refl

-- the text's parts are those of a length of v thousandths
pub record HasParts (text : List ℕ) (v : ℕ) : Type 0 where
  pub whole : IsNumeral 10 (before_point text)
  pub few : length (before_point text) ≤ 2
  pub rest : ((place_of_point text ≡ length text) × (v ≡ 1000 * digits_value 10 (before_point text)))
      ⊎ ((place_of_point text < length text) × IsNumeral 10 (after_point text)
      × (length (after_point text) ≤ 3)
      × (v ≡ 1000 * digits_value 10 (before_point text) + fraction_of (after_point text)))

pub parts_of : (text : List ℕ) (v : ℕ) → IsLengthText text v → HasParts text v
parts_of text v (inl (chains, is, value)) =
    let place : place_of_point text ≡ length text = place_in_digits text is.numeral.1 in
    let same : before_point text ≡ text = rw place (take_all (length text) text (omega arith)) in
    record {
      whole = rw same is.numeral;
      few = rw same is.places;
      rest = inl (place, value ∙ ap (λ n. 1000 * n) is.value ∙ ap (λ t. 1000 * digits_value 10 t) (sym same));
    }
parts_of text v (inr p) =
    let here = p.whole ++ point ∷ p.decimals in
    let place : place_of_point here ≡ length p.whole =
    place_after_digits p.whole p.decimals p.before.numeral.1 in
    let before : before_point here ≡ p.whole =
    rw place (take_at p.whole (point ∷ p.decimals) (length p.whole) refl) in
    let after : after_point here ≡ p.decimals = rw place (one_past p.whole p.decimals point) in
    let long : length here ≡ length p.whole + (1 + length p.decimals) =
    rw (length-append p.whole (point ∷ p.decimals)) (omega arith) in
    let value : v ≡ 1000 * digits_value 10 (before_point here) + fraction_of (after_point here) =
    rw (before, after)
    (p.value
    ∙ ap (λ n. 1000 * n + p.thousandths) p.before.value
    ∙ ap (λ n. 1000 * digits_value 10 p.whole + n) p.after.value) in
    let parts : HasParts here v = record {
      whole = rw before p.before.numeral;
      few = rw before p.before.places;
      rest = inr (omega arith, rw after p.after.numeral, rw after p.after.places, value);
    } in
    rw p.text_is parts

pub text_of_parts : (text : List ℕ) (v : ℕ) → HasParts text v → IsLengthText text v
text_of_parts text v parts = elim parts.rest [
  | inl (place, value) ↦
      let same : before_point text ≡ text = rw place (take_all (length text) text (omega arith)) in
      inl (
        digits_value 10 text,
        record { numeral = rw same at parts.whole; places = rw same at parts.few; value = refl },
        value ∙ ap (λ t. 1000 * digits_value 10 t) same,
      )
  | inr (place, numeral, places, value) ↦
      inr (record {
        whole = before_point text;
        decimals = after_point text;
        chains = digits_value 10 (before_point text);
        thousandths = fraction_of (after_point text);
        before = record { numeral = parts.whole; places = parts.few; value = refl };
        after = record { numeral = numeral; places = places; value = refl };
        text_is =
            split_at_first (λ byte. byte == point) text 0 place
            ∙ ap (λ b. before_point text ++ b ∷ after_point text)
            (eqb-true _ _ (passes_at_first (λ byte. byte == point) text 0 place));
        value = value;
      })
]

-- a text spells at most one length
pub one_length : (text : List ℕ) (v v' : ℕ) → IsLengthText text v → IsLengthText text v' → v ≡ v'
one_length text v v' is is' =
    let parts : HasParts text v = parts_of text v is in
    let parts' : HasParts text v' = parts_of text v' is' in
    grind arith
