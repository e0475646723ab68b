-- Texts that end at a known index of a buffer.
use Rattle.std.proofs.Common.{◌≡◌, ◌≢◌, ◌==◌, ℕ, ◌+◌, ◌-◌, ◌/◌, ◌%◌, ◌≤◌, ◌⊎◌, List, [], ◌∷◌, ◌++◌}
use Rattle.std.proofs.Common.{length, take, drop, decimal, inl, inr, arith, true, false}
use Rattle.std.proofs.lemmas.Bool.{eq-eqb, ne_eqb}
use Rattle.std.proofs.Math.Seq.{take-append-add}
use Rattle.twp_measure.specs.LengthTexts.{point, digit_byte, length_text}

-- the part of a buffer that begins with these bytes, which end at index `middle`
pub front_and_more : (text front back : List ℕ) (start middle end : ℕ) → drop start text ≡ front ++ back
    → start + length front ≡ middle → middle ≤ end
    → take (end - start) (drop start text) ≡ front ++ take (end - middle) back
front_and_more text front back start middle end is ends over =
    let long : end - start ≡ length front + (end - middle) = omega arith in
    rw (is, long) (take-append-add front back (end - middle))

-- the text after the whole chains, with three decimals
abbrev all_decimals : ℕ → List ℕ
all_decimals v = point ∷ digit_byte (v / 100 % 10) ∷ digit_byte (v / 10 % 10) ∷ digit_byte (v % 10) ∷ []

-- the third decimal is left out if it is 0
pub length_text_in : (v start end : ℕ) (text : List ℕ)
    → drop start text ≡ decimal (v / 1000) ++ all_decimals v → start + length (decimal (v / 1000)) ≡ 2
    → ((v % 10 ≡ 0) × (end ≡ 5)) ⊎ ((v % 10 ≢ 0) × (end ≡ 6))
    → take (end - start) (drop start text) ≡ length_text v
length_text_in v start end text is ends (inl (none, short)) =
    let test : (v % 10 == 0) ≡ true = eq-eqb _ _ none in
    rw (test, short)
    (front_and_more text (decimal (v / 1000)) (all_decimals v) start 2 5 is ends (omega arith))
length_text_in v start end text is ends (inr (some, long)) =
    let test : (v % 10 == 0) ≡ false = ne_eqb _ _ some in
    rw (test, long)
    (front_and_more text (decimal (v / 1000)) (all_decimals v) start 2 6 is ends (omega arith))
