-- The text of acres, by its parts before and after its point.
use Rattle.std.proofs.Common.{◌≡◌, ℕ, ◌+◌, ◌*◌, ◌^◌, ◌<◌, ◌≤◌, List, [], ◌∷◌, ◌++◌, length}
use Rattle.std.proofs.Common.{ap, refl, sym, ◌∙◌, arith, zero, suc, length-append}
use Rattle.std.specs.Str.Parse.{digits_value}
use Rattle.std.proofs.lemmas.Int.Digits.{digits_value-lt}
use Rattle.twp_measure.specs.LengthTexts.{point}
use Rattle.twp_plat.specs.LotTables.{FIGURE_MOST}
use Rattle.twp_plat.specs.LotRecords.{IsAcresText}

-- acres are within the limit
pub acres_within : (text : List ℕ) (hundredths : ℕ) → IsAcresText text hundredths → hundredths ≤ FIGURE_MOST
acres_within text hundredths is =
    let whole : digits_value 10 is.whole < 10 ^ length is.whole = digits_value-lt 10 is.whole is.before.1 in
    let decimals : digits_value 10 is.decimals < 10 ^ length is.decimals =
    digits_value-lt 10 is.decimals is.after.1 in
    let most : 10 ^ length is.whole ≤ 1000 = small (length is.whole) is.few in
    let most' : 10 ^ length is.decimals ≡ 100 = ap (λ n. 10 ^ n) is.two in
    omega (arith, is.value, whole, decimals, most, most')
  where
    small : (n : ℕ) → n ≤ 3 → 10 ^ n ≤ 1000
    small zero few = omega arith
    small (suc zero) few = omega arith
    small (suc (suc zero)) few = omega arith
    small (suc (suc (suc zero))) few = omega arith
    small (suc (suc (suc (suc n)))) few = absurd (omega arith)

-- two texts of which the first parts are as long
parts_alike : (xs ys xs' ys' : List ℕ) → length xs ≡ length xs' → xs ++ ys ≡ xs' ++ ys'
    → (xs ≡ xs') × (ys ≡ ys')
parts_alike [] ys [] ys' long same = (refl, same)
parts_alike [] ys (x' ∷ xs') ys' long same = absurd (omega (arith, long))
parts_alike (x ∷ xs) ys [] ys' long same = absurd (omega (arith, long))
parts_alike (x ∷ xs) ys (x' ∷ xs') ys' long same =
    let first : x ≡ x' = cc same in
    let rest : xs ++ ys ≡ xs' ++ ys' = cc same in
    let more = parts_alike xs ys xs' ys' (omega (arith, long)) rest in
    ((λ i. first i ∷ more.0 i), more.1)

-- a text is only one acreage
pub one_acres : (text : List ℕ) (hundredths hundredths' : ℕ) → IsAcresText text hundredths
    → IsAcresText text hundredths' → hundredths ≡ hundredths'
one_acres text hundredths hundredths' is is' =
    let long : length text ≡ length is.whole + (length is.decimals + 1) =
    ap length is.text_is ∙ length-append is.whole (point ∷ is.decimals) ∙ omega arith in
    let long' : length text ≡ length is'.whole + (length is'.decimals + 1) =
    ap length is'.text_is ∙ length-append is'.whole (point ∷ is'.decimals) ∙ omega arith in
    let same =
    parts_alike is.whole (point ∷ is.decimals) is'.whole (point ∷ is'.decimals)
    (omega (arith, long, long', is.two, is'.two)) (sym is.text_is ∙ is'.text_is) in
    let decimals : is.decimals ≡ is'.decimals = cc same.1 in
    is.value
    ∙ (λ i. 100 * digits_value 10 (same.0 i) + digits_value 10 (decimals i))
    ∙ sym is'.value
